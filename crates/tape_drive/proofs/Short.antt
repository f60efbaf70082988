-- What a step keeps is written at once: it has no more octets than may come after an Open.
use Rattle.std.proofs.Common.{◌≡◌, ℕ, ◌+◌, ◌-◌, ◌≤◌, ◌<◌, ◌^◌, List, [], ◌∷◌, ◌++◌, length, false, refl, sym, ap, ◌∙◌, subst, arith, Some, None}
use Rattle.std.specs.Prelude.{min, sum_by, nat_lt}
use Rattle.std.proofs.lemmas.Bool.{ltb-false, or_parts}
use Rattle.std.proofs.lemmas.List.{length-append}
use Rattle.std.proofs.lemmas.List.Concat.{flat_map-append}
use Rattle.std.proofs.lemmas.List.Sums.{sum_by-cons}
use Rattle.cluster_types.specs.declared.entry.Input.{Input as InputType}
use Rattle.cluster_types.specs.declared.entry.Input.TheVariants.{Open, Up, Down, In, Beat, Time}
use Rattle.cluster_types.specs.declared.entry.Entry.{Entry}
use Rattle.cluster_types.specs.declared.entry.Entry.TheVariants.{Input, Hand, Settle, Lose}
use Rattle.cluster_defs.specs.Lives.{is_open}
use Rattle.cluster_defs.specs.Scheduling.{due, is_kept}
use Rattle.cluster_defs.specs.Histories.{History, facts, decide_all}
use Rattle.cluster_defs.specs.Runs.{Decided}
use Rattle.cluster_defs.proofs.Says.{due_says}
use Rattle.cluster_core.specs.declared.size.HistorySize.{HistorySize}
use Rattle.cluster_core.specs.Size.{next_since, since_open, size_since, is_past}
use Rattle.cluster_core.specs.Steps.{kept_from, kept_one}
use Rattle.cluster_core.proofs.Growing.{kept_more, kept_first}
use Rattle.cluster_store.proofs.Fits.{decides_to, length_more}
use Rattle.cluster_store.proofs.Kept.{one_size}
use Rattle.record_codec.specs.Sizes.{record_size}
use Rattle.record_codec.specs.Spelling.{spelling}
use Rattle.record_codec.specs.Records.{spellings}

-- the last entries are counted, and where their sum is small what is kept of them has no more octets
pub record IsCounted (at : ℕ) (h : History) : Type 0 where
  pub newest : Entry
  pub others : List Entry
  pub since : since_open h ≡ newest ∷ others
  pub fits : sum_by record_size (since_open h) < 2 ^ 32 → length (spellings (kept_from at h)) ≤ sum_by record_size (since_open h)

more : (at : ℕ) (e : Entry) (h : History) → at ≤ length h → sum_by record_size (e ∷ since_open h) < 2 ^ 32 → length (spellings (kept_from at h)) ≤ sum_by record_size (since_open h) →
    length (spellings (kept_from at (e ∷ h))) ≤ sum_by record_size (e ∷ since_open h)
more at e h le small below =
    let sum = sum_by-cons record_size e (since_open h) in
    let kept = ap (λ (es : List Entry). length (spellings es)) (kept_more at e h le) in
    let parts = ap length (flat_map-append spelling (kept_from at h) (kept_one (is_kept (facts h) e) e)) in
    let both = length-append (spellings (kept_from at h)) (spellings (kept_one (is_kept (facts h) e) e)) in
    let one = one_size (is_kept (facts h) e) e in
    omega (arith, sum, kept, parts, both, one, small, below)

first : (input : InputType) (old : History) → is_open (Input input) ≡ false → since_open (Input input ∷ old) ≡ Input input ∷ since_open old → IsCounted (length old) (Input input ∷ old)
first input old not_open since = record {
  newest = Input input;
  others = since_open old;
  since = since;
  fits = λ small.
      let sum = sum_by-cons record_size (Input input) (since_open old) in
      let whole = ap (sum_by record_size) since in
      let kept = ap (λ (es : List Entry). length (spellings es)) (kept_first (Input input) old) in
      let one = one_size (is_kept (facts old) (Input input)) (Input input) in
      omega (arith, sum, whole, kept, one, small);
}

input_counted : (input : InputType) (old : History) → is_open (Input input) ≡ false → IsCounted (length old) (Input input ∷ old)
input_counted (Open moment scheme hwm misses) old not_open = cc
input_counted (Up conn channel moment word identity) old not_open = first (Up conn channel moment word identity) old not_open refl
input_counted (Down conn moment word) old not_open = first (Down conn moment word) old not_open refl
input_counted (In conn moment word m) old not_open = first (In conn moment word m) old not_open refl
input_counted (Beat moment word) old not_open = first (Beat moment word) old not_open refl
input_counted (Time moment word) old not_open = first (Time moment word) old not_open refl

grows : (at : ℕ) (d : Entry) (h : History) → at ≤ length h → since_open (d ∷ h) ≡ d ∷ since_open h → IsCounted at h → IsCounted at (d ∷ h)
grows at d h le since c = record {
  newest = d;
  others = since_open h;
  since = since;
  fits = λ small.
      let whole = ap (sum_by record_size) since in
      let sum = sum_by-cons record_size d (since_open h) in
      let below = c.fits (omega (arith, whole, sum, small)) in
      let all = more at d h le (omega (arith, whole, small)) below in
      omega (arith, all, whole);
}

behind_some : (d : Entry) (since others : List Entry) (e : Entry) → since ≡ e ∷ others → next_since d (e ∷ others) ≡ d ∷ e ∷ others → next_since d since ≡ d ∷ since
behind_some d since others e is next = ap (next_since d) is ∙ next ∙ ap (λ (es : List Entry). d ∷ es) (sym is)

decision_counted : (at : ℕ) (d : Entry) (h : History) → at ≤ length h → due (facts h) ≡ Some d → IsCounted at h → IsCounted at (d ∷ h)
decision_counted at (Input input) h le is c = absurd (due_says (facts h) (Input input) is)
decision_counted at (Hand id n) h le is c = grows at (Hand id n) h le (behind_some (Hand id n) (since_open h) c.others c.newest c.since refl) c
decision_counted at (Settle id v k) h le is c = grows at (Settle id v k) h le (behind_some (Settle id v k) (since_open h) c.others c.newest c.since refl) c
decision_counted at (Lose n) h le is c = grows at (Lose n) h le (behind_some (Lose n) (since_open h) c.others c.newest c.since refl) c

all_counted : (input : InputType) (old : History) (ds : List Entry) → is_open (Input input) ≡ false → Decided (Input input ∷ old) ds → IsCounted (length old) (ds ++ Input input ∷ old)
all_counted input old [] not_open each = input_counted input old not_open
all_counted input old (d ∷ ds) not_open each =
    let more = length_more ds (Input input ∷ old) in
    decision_counted (length old) d (ds ++ Input input ∷ old) (omega (arith, more)) each.0 (all_counted input old ds not_open each.1)

step_counted : (input : InputType) (old : History) → is_open (Input input) ≡ false → IsCounted (length old) (decide_all (Input input ∷ old))
step_counted input old not_open =
    let to = decides_to (Input input ∷ old) in
    subst (IsCounted (length old)) (sym to.appended) (all_counted input old to.decisions not_open to.each_due)

pub short_enough : (limits : HistorySize) (input : InputType) (old : History) → is_open (Input input) ≡ false → limits.bytes < 2 ^ 32 → is_past limits (size_since (decide_all (Input input ∷ old))) ≡ false →
    2 ^ 32 ≤ length (spellings (kept_from (length old) (decide_all (Input input ∷ old)))) → ⊥
short_enough limits input old not_open low fits long =
    let size = size_since (decide_all (Input input ∷ old)) in
    let counted = step_counted input old not_open in
    let within = ltb-false limits.bytes size.bytes (or_parts (nat_lt limits.entries size.entries) (nat_lt limits.bytes size.bytes) fits).1 in
    let small : sum_by record_size (since_open (decide_all (Input input ∷ old))) < 2 ^ 32 = omega (arith, within, low) in
    let le = counted.fits small in
    omega (arith, le, small, long)
