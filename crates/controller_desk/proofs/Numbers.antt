-- The connections of one opening, behind a step.
use Rattle.std.proofs.Common.{◌≡◌, ℕ, suc, ◌+◌, ◌<◌, ◌≤◌, ◌^◌, ◌==◌, List, [], ◌∷◌, ◌++◌, length, Bool, true, false, ◌&&◌, ◌||◌, not, refl, sym, ap, ◌∙◌, arith, Some, None}
use Rattle.std.specs.Prelude.{filter, nat_lt, if◌then◌else◌}
use Rattle.std.specs.List.{list_any}
use Rattle.std.specs.Option.{is_none}
use Rattle.std.proofs.lemmas.Bool.{ltb-false, ne_eqb, eq-eqb, eqb-true}
use Rattle.cluster_types.specs.declared.entry.Input.{Input as InputType}
use Rattle.cluster_types.specs.declared.entry.Input.TheVariants.{Open, Up, Down, In, Beat, Time}
use Rattle.cluster_types.specs.declared.entry.Entry.{Entry}
use Rattle.cluster_types.specs.declared.entry.Entry.TheVariants.{Input, Hand, Settle, Lose}
use Rattle.cluster_defs.specs.declared.connection.Connection.{Connection}
use Rattle.cluster_defs.specs.Connections.{connection_on}
use Rattle.cluster_defs.specs.Scheduling.{due}
use Rattle.cluster_defs.specs.Histories.{History, facts}
use Rattle.cluster_defs.specs.Lives.{is_open}
use Rattle.cluster_defs.specs.Runs.{Decided}
use Rattle.cluster_defs.proofs.Says.{due_says}
use Rattle.cluster_core.specs.declared.size.HistorySize.{HistorySize}
use Rattle.cluster_core.specs.Size.{next_since, since_open, size_since, is_past}
use Rattle.controller_desk.specs.Calls.{is_input}
use Rattle.controller_desk.specs.Ups.{ups, numbered, ups_after, HasNextNumber}
use Rattle.cluster_types.proofs.Booleans.{or_off_left, or_off_right, and_left}

-- DECISIONS

no_input : (h : History) (d : Entry) → due (facts h) ≡ Some d → is_input d ≡ false
no_input h (Input input) is = absurd (due_says (facts h) (Input input) is)
no_input h (Hand id n) is = refl
no_input h (Settle id v c) is = refl
no_input h (Lose n) is = refl

pub no_inputs : (h : History) (ds : List Entry) → Decided h ds → list_any is_input ds ≡ false
no_inputs h [] each = refl
no_inputs h (d ∷ ds) each = rw (no_input (ds ++ h) d each.0) (no_inputs h ds each.1)

-- what decisions leave as it was
pub record SameUps (old new : History) : Type 0 where
  pub same : ups new ≡ ups old
  pub numbers : numbered new ≡ numbered old
  pub begun : (facts new).begun ≡ (facts old).begun

same_on : (d : Entry) (h old : History) → is_input d ≡ false → SameUps old h → SameUps old (d ∷ h)
same_on (Input input) h old off s = cc
same_on (Hand id n) h old off s = record { same = s.same; numbers = s.numbers; begun = s.begun }
same_on (Settle id v c) h old off s = record { same = s.same; numbers = s.numbers; begun = s.begun }
same_on (Lose n) h old off s = record { same = s.same; numbers = s.numbers; begun = s.begun }

pub same_ups : (ds : List Entry) (h : History) → list_any is_input ds ≡ false → SameUps h (ds ++ h)
same_ups [] h off = record { same = refl; numbers = refl; begun = refl }
same_ups (d ∷ ds) h off = same_on d (ds ++ h) h (or_off_left (is_input d) (list_any is_input ds) off) (same_ups ds h (or_off_right (is_input d) (list_any is_input ds) off))

-- AN INPUT

pub ups_behind : (input : InputType) (h : History) → is_open (Input input) ≡ false → ups (Input input ∷ h) ≡ ups_after input (ups h)
ups_behind (Open moment scheme hwm misses) h off = cc
ups_behind (Up conn channel moment word identity) h off = refl
ups_behind (Down conn moment word) h off = refl
ups_behind (In conn moment word m) h off = refl
ups_behind (Beat moment word) h off = refl
ups_behind (Time moment word) h off = refl

pub numbered_behind : (input : InputType) (h : History) → HasNextNumber h input → numbered h ≡ true → numbered (Input input ∷ h) ≡ true
numbered_behind (Open moment scheme hwm misses) h next is = refl
numbered_behind (Up conn channel moment word identity) h next is = rw (next, eq-eqb (suc (ups h)) (suc (ups h)) refl) is
numbered_behind (Down conn moment word) h next is = is
numbered_behind (In conn moment word m) h next is = is
numbered_behind (Beat moment word) h next is = is
numbered_behind (Time moment word) h next is = is

pub begun_behind : (input : InputType) (h : History) → (facts h).begun ≡ true → (facts (Input input ∷ h)).begun ≡ true
begun_behind (Open moment scheme hwm misses) h is = refl
begun_behind (Up conn channel moment word identity) h is = is
begun_behind (Down conn moment word) h is = is
begun_behind (In conn moment word m) h is = is
begun_behind (Beat moment word) h is = is
begun_behind (Time moment word) h is = is

-- WHAT CAME SINCE THE LAST OPEN

-- some entries count, and all but so many do
pub record Counts (base : ℕ) (h : History) : Type 0 where
  pub newest : Entry
  pub others : List Entry
  pub since : since_open h ≡ newest ∷ others
  pub all : length h ≤ base + length (since_open h)

counts_input : (base : ℕ) (input : InputType) (h : History) → is_open (Input input) ≡ false → since_open (Input input ∷ h) ≡ Input input ∷ since_open h → length h ≤ base + length (since_open h) → Counts base (Input input ∷ h)
counts_input base input h off is le = record { newest = Input input; others = since_open h; since = is; all = let more = ap length is in omega (arith, le, more) }

pub counts_first : (base : ℕ) (input : InputType) (h : History) → is_open (Input input) ≡ false → length h ≤ base + length (since_open h) → Counts base (Input input ∷ h)
counts_first base (Open moment scheme hwm misses) h off le = cc
counts_first base (Up conn channel moment word identity) h off le = counts_input base (Up conn channel moment word identity) h off refl le
counts_first base (Down conn moment word) h off le = counts_input base (Down conn moment word) h off refl le
counts_first base (In conn moment word m) h off le = counts_input base (In conn moment word m) h off refl le
counts_first base (Beat moment word) h off le = counts_input base (Beat moment word) h off refl le
counts_first base (Time moment word) h off le = counts_input base (Time moment word) h off refl le

counts_on : (base : ℕ) (d : Entry) (h : History) → since_open (d ∷ h) ≡ d ∷ since_open h → Counts base h → Counts base (d ∷ h)
counts_on base d h is c = record { newest = d; others = since_open h; since = is; all = let more = ap length is in let le = c.all in omega (arith, le, more) }

behind_some : (d : Entry) (since others : List Entry) (e : Entry) → since ≡ e ∷ others → next_since d (e ∷ others) ≡ d ∷ e ∷ others → next_since d since ≡ d ∷ since
behind_some d since others e is next = ap (next_since d) is ∙ next ∙ ap (λ (es : List Entry). d ∷ es) (sym is)

counts_decision : (base : ℕ) (d : Entry) (h : History) → is_input d ≡ false → Counts base h → Counts base (d ∷ h)
counts_decision base (Input input) h off c = cc
counts_decision base (Hand id n) h off c = counts_on base (Hand id n) h (behind_some (Hand id n) (since_open h) c.others c.newest c.since refl) c
counts_decision base (Settle id v k) h off c = counts_on base (Settle id v k) h (behind_some (Settle id v k) (since_open h) c.others c.newest c.since refl) c
counts_decision base (Lose n) h off c = counts_on base (Lose n) h (behind_some (Lose n) (since_open h) c.others c.newest c.since refl) c

pub counts_all : (base : ℕ) (ds : List Entry) (h : History) → list_any is_input ds ≡ false → Counts base h → Counts base (ds ++ h)
counts_all base [] h off c = c
counts_all base (d ∷ ds) h off c = counts_decision base d (ds ++ h) (or_off_left (is_input d) (list_any is_input ds) off) (counts_all base ds h (or_off_right (is_input d) (list_any is_input ds) off) c)

-- no more came up than entries came
pub ups_fit : (h : History) → ups h ≤ length (since_open h)
ups_fit [] = omega arith
ups_fit (Input (Open moment scheme hwm misses) ∷ h) = omega arith
ups_fit (Input (Up conn channel moment word identity) ∷ h) = let le = ups_fit h in omega (arith, le)
ups_fit (Input (Down conn moment word) ∷ h) = let le = ups_fit h in omega (arith, le)
ups_fit (Input (In conn moment word m) ∷ h) = let le = ups_fit h in omega (arith, le)
ups_fit (Input (Beat moment word) ∷ h) = let le = ups_fit h in omega (arith, le)
ups_fit (Input (Time moment word) ∷ h) = let le = ups_fit h in omega (arith, le)
ups_fit (Hand id k ∷ h) = by (since_open h) (ups_fit h)
  where
    by : (since : List Entry) → ups h ≤ length since → ups h ≤ length (next_since (Hand id k) since)
    by [] le = le
    by (e ∷ since) le = omega (arith, le)
ups_fit (Settle id v c ∷ h) = by (since_open h) (ups_fit h)
  where
    by : (since : List Entry) → ups h ≤ length since → ups h ≤ length (next_since (Settle id v c) since)
    by [] le = le
    by (e ∷ since) le = omega (arith, le)
ups_fit (Lose n ∷ h) = by (since_open h) (ups_fit h)
  where
    by : (since : List Entry) → ups h ≤ length since → ups h ≤ length (next_since (Lose n) since)
    by [] le = le
    by (e ∷ since) le = omega (arith, le)

pub counted_within : (limits : HistorySize) (h : History) → limits.entries + 1 < 2 ^ 32 → is_past limits (size_since h) ≡ false → ups h ≤ limits.entries
counted_within limits h low fits =
    let size = size_since h in
    let within = ltb-false limits.entries size.entries (or_off_left (nat_lt limits.entries size.entries) (nat_lt limits.bytes size.bytes) fits) in
    let le = ups_fit h in
    omega (arith, within, low, le)

-- THE NEXT NUMBER IS FREE

abbrev all_below : ℕ → List Connection → Type 0
all_below n [] = Unit {0}
all_below n (c ∷ live) = (c.number ≤ n) × all_below n live

below_more : (n m : ℕ) (live : List Connection) → n ≤ m → all_below n live → all_below m live
below_more n m [] le all = tt
below_more n m (c ∷ live) le all = (let one = all.0 in omega (arith, le, one), below_more n m live le all.1)

below_one : (n : ℕ) (live : List Connection) (c : Connection) → c.number ≤ n → all_below n live → all_below n (live ++ c ∷ [])
below_one n [] c le all = (le, tt)
below_one n (d ∷ live) c le all = (all.0, below_one n live c le all.1)

below_less : (n : ℕ) (p : Connection → Bool) (live : List Connection) → all_below n live → all_below n (filter p live)
below_less n p [] all = tt
below_less n p (c ∷ live) all =
    elim (p c) as (λ b. all_below n (if b then c ∷ filter p live else filter p live)) [
      | true ↦ (all.0, below_less n p live all.1)
      | false ↦ below_less n p live all.1
    ]

and_second : (a b : Bool) → (a && b) ≡ true → b ≡ true
and_second true b is = is
and_second false b is = cc

live_below : (h : History) → numbered h ≡ true → all_below (ups h) (facts h).connections
live_below [] is = tt
live_below (Input (Open moment scheme hwm misses) ∷ h) is = tt
live_below (Input (Up conn channel moment word identity) ∷ h) is =
    let number = eqb-true conn (suc (ups h)) (and_left (conn == suc (ups h)) (numbered h) is) in
    below_one (suc (ups h)) (facts h).connections _ (omega (arith, number)) (below_more (ups h) (suc (ups h)) (facts h).connections (omega arith) (live_below h (and_second (conn == suc (ups h)) (numbered h) is)))
live_below (Input (Down conn moment word) ∷ h) is = below_less (ups h) (λ c. not (c.number == conn)) (facts h).connections (live_below h is)
live_below (Input (In conn moment word m) ∷ h) is = live_below h is
live_below (Input (Beat moment word) ∷ h) is = live_below h is
live_below (Input (Time moment word) ∷ h) is = live_below h is
live_below (Hand id k ∷ h) is = live_below h is
live_below (Settle id v c ∷ h) is = live_below h is
live_below (Lose n ∷ h) is = live_below h is

none_above : (n : ℕ) (live : List Connection) → all_below n live → connection_on live (suc n) ≡ None
none_above n [] all = refl
none_above n (c ∷ live) all = rw (ne_eqb c.number (suc n) (λ is. let le = all.0 in absurd (omega (arith, is, le)))) (none_above n live all.1)

pub next_is_free : (h : History) → numbered h ≡ true → is_none (connection_on (facts h).connections (suc (ups h))) ≡ true
next_is_free h is = ap is_none (none_above (ups h) (facts h).connections (live_below h is))
