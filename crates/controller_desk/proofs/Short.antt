-- What isn't safe came after the last Open and its decisions, so that it can be written at once.
use Rattle.std.proofs.Common.{◌≡◌, ℕ, ◌+◌, ◌≤◌, ◌<◌, ◌^◌, List, [], ◌∷◌, ◌++◌, length, Bool, true, false, refl, sym, ap, ◌∙◌, arith, if◌then◌else◌}
use Rattle.std.specs.Prelude.{sum_by, nat_lt, ◌||◌}
use Rattle.std.proofs.lemmas.Bool.{ltb-false, lt-ltb}
use Rattle.std.proofs.lemmas.List.{length-append}
use Rattle.std.proofs.lemmas.List.Concat.{flat_map-append}
use Rattle.std.proofs.lemmas.List.Sums.{sum_by-cons}
use Rattle.cluster_types.specs.declared.entry.Input.TheVariants.{Open, Up, Down, In, Beat, Time}
use Rattle.cluster_types.specs.declared.entry.Entry.{Entry}
use Rattle.cluster_types.specs.declared.entry.Entry.TheVariants.{Input, Hand, Settle, Lose}
use Rattle.cluster_defs.specs.Scheduling.{is_kept}
use Rattle.cluster_defs.specs.Histories.{History, facts}
use Rattle.cluster_core.specs.declared.size.HistorySize.{HistorySize}
use Rattle.cluster_core.specs.Size.{next_since, since_open, size_since, is_past}
use Rattle.cluster_core.specs.Steps.{kept_from, kept_one}
use Rattle.record_codec.specs.Sizes.{record_size}
use Rattle.record_codec.specs.Spelling.{spelling}
use Rattle.record_codec.specs.Records.{spellings}
use Rattle.cluster_store.proofs.Kept.{one_size}

-- an entry more adds at most its record
at_most : (at : ℕ) (e : Entry) (h : History) → length (spellings (kept_from at (e ∷ h))) ≤ length (spellings (kept_from at h)) + length (spelling e)
at_most at e h =
    elim (nat_lt (length h) at) as (λ b. length (spellings (if b then [] else kept_from at h ++ kept_one (is_kept (facts h) e) e)) ≤ length (spellings (kept_from at h)) + length (spelling e)) [
      | true ↦ omega arith
      | false ↦
          let parts = ap length (flat_map-append spelling (kept_from at h) (kept_one (is_kept (facts h) e) e)) in
          let both = length-append (spellings (kept_from at h)) (spellings (kept_one (is_kept (facts h) e) e)) in
          let one = one_size (is_kept (facts h) e) e in
          omega (arith, parts, both, one)
    ]

abbrev IsShort : ℕ → History → Type 0
IsShort at h = length h ≤ at + length (since_open h) → sum_by record_size (since_open h) < 2 ^ 32 → length (spellings (kept_from at h)) ≤ sum_by record_size (since_open h)

-- an entry that counts
counts : (at : ℕ) (e : Entry) (h : History) → since_open (e ∷ h) ≡ e ∷ since_open h → IsShort at h → IsShort at (e ∷ h)
counts at e h is short le small =
    let size = ap length is in
    let whole = ap (sum_by record_size) is in
    let sum = sum_by-cons record_size e (since_open h) in
    let below = short (omega (arith, le, size)) (omega (arith, small, whole, sum)) in
    let most = at_most at e h in
    omega (arith, whole, sum, below, most, small)

-- an entry behind which nothing counts
none_counts : (at : ℕ) (e : Entry) (h : History) → since_open (e ∷ h) ≡ [] → IsShort at (e ∷ h)
none_counts at e h is le small =
    let size = ap length is in
    let inside : length h < at = omega (arith, le, size) in
    let none : length (spellings (kept_from at (e ∷ h))) ≡ 0 = rw (lt-ltb (length h) at inside) refl in
    omega (arith, none)

decision : (at : ℕ) (d : Entry) (h : History) → since_open (d ∷ h) ≡ next_since d (since_open h) → next_since d [] ≡ [] → ((e : Entry) (es : List Entry) → next_since d (e ∷ es) ≡ d ∷ e ∷ es) → IsShort at h → IsShort at (d ∷ h)
decision at d h is none some short = by (since_open h) refl
  where
    by : (since : List Entry) → since_open h ≡ since → IsShort at (d ∷ h)
    by [] at_h = none_counts at d h (is ∙ ap (next_since d) at_h ∙ none)
    by (e ∷ es) at_h = counts at d h (is ∙ ap (next_since d) at_h ∙ some e es ∙ ap (λ (xs : List Entry). d ∷ xs) (sym at_h)) short

pub kept_short : (at : ℕ) (h : History) → IsShort at h
kept_short at [] le small = omega arith
kept_short at (Input (Open moment scheme hwm misses) ∷ h) le small = none_counts at (Input (Open moment scheme hwm misses)) h refl le small
kept_short at (Input (Up conn channel moment word identity) ∷ h) le small = counts at (Input (Up conn channel moment word identity)) h refl (kept_short at h) le small
kept_short at (Input (Down conn moment word) ∷ h) le small = counts at (Input (Down conn moment word)) h refl (kept_short at h) le small
kept_short at (Input (In conn moment word m) ∷ h) le small = counts at (Input (In conn moment word m)) h refl (kept_short at h) le small
kept_short at (Input (Beat moment word) ∷ h) le small = counts at (Input (Beat moment word)) h refl (kept_short at h) le small
kept_short at (Input (Time moment word) ∷ h) le small = counts at (Input (Time moment word)) h refl (kept_short at h) le small
kept_short at (Hand id n ∷ h) le small = decision at (Hand id n) h refl refl (λ e es. refl) (kept_short at h) le small
kept_short at (Settle id v c ∷ h) le small = decision at (Settle id v c) h refl refl (λ e es. refl) (kept_short at h) le small
kept_short at (Lose n ∷ h) le small = decision at (Lose n) h refl refl (λ e es. refl) (kept_short at h) le small

-- what isn't safe has fewer than 2^32 octets of records
pub short_enough : (limits : HistorySize) (mark : ℕ) (h : History) → limits.bytes < 2 ^ 32 → is_past limits (size_since h) ≡ false → length h ≤ mark + length (since_open h) → 2 ^ 32 ≤ length (spellings (kept_from mark h)) → ⊥
short_enough limits mark h low fits le long =
    let size = size_since h in
    let within = ltb-false limits.bytes size.bytes (second (nat_lt limits.entries size.entries) (nat_lt limits.bytes size.bytes) fits) in
    let small : sum_by record_size (since_open h) < 2 ^ 32 = omega (arith, within, low) in
    let all = kept_short mark h le small in
    omega (arith, all, small, long)
  where
    second : (a b : Bool) → (a || b) ≡ false → b ≡ false
    second true b is = cc
    second false b is = is
