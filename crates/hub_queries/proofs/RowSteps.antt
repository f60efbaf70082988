-- One more record in the rows of a queue reply.
use Rattle.std.proofs.Common.{◌≡◌, ◌<◌, ℕ, suc, zero, List, [], ◌∷◌, ◌++◌, length, map, set, get_or, Option, Some, None, Bool, true, false, true≢false, not, ◌&&◌, ◌||◌, if◌then◌else◌, nat_eq, is_some, refl, sym, ap, ◌∙◌, arith, append-nil}
use Rattle.std.specs.List.{list_any}
use Rattle.std.proofs.lemmas.Bool.{ne_eqb, eqb-false, or_parts}
use Rattle.std.proofs.lemmas.Bool.Decides.{nat_tests}
use Rattle.cluster_types.specs.declared.record.Record.{Record}
use Rattle.cluster_defs.specs.Words.{Id, is_number}
use Rattle.cluster_defs.specs.RecordAnswers.{ids_where, runs_in, finished_in}
use Rattle.hub_queries.specs.Ascending.{Ascends}
use Rattle.hub_queries.specs.Rows.{row_of}
use Rattle.hub_queries.specs.Tallies.{tallied}
use Rattle.hub_queries.proofs.Numbers.{above_unlisted, below_at}
use Rattle.hub_queries.proofs.Wheres.{where_append}

-- a list to which a test that fails adds nothing
nothing_more : (p : Record → Bool) (rs : List Record) (r : Record) → p r ≡ false → ids_where p (rs ++ r ∷ []) ≡ ids_where p rs
nothing_more p rs r off = where_append p rs r ∙ ap (λ b. ids_where p rs ++ (if b then r.id ∷ [] else [])) off ∙ append-nil (ids_where p rs)

off_left : (a b c : Bool) → b ≡ false → ((a && b) && c) ≡ false
off_left true b c h = rw h refl
off_left false b c h = refl

-- a task that is not on an engine adds nothing to its row
pub row_same : (verbose : Bool) (rs : List Record) (r : Record) (n : ℕ) → is_number n r.engine ≡ false → row_of verbose (rs ++ r ∷ []) n ≡ row_of verbose rs n
row_same verbose rs r n off =
    let queue = nothing_more (λ s. runs_in n s && s.direct) rs r (off_left r.running (is_number n r.engine) r.direct off) in
    let completed = nothing_more (λ s. finished_in n s && not s.purged) rs r (off_left (is_some r.settled) (is_number n r.engine) (not r.purged) off) in
    let tasks = nothing_more (λ s. runs_in n s && not s.direct) rs r (off_left r.running (is_number n r.engine) (not r.direct) off) in
    ap (λ (z : List Id). record { number = n; queue = tallied verbose z; completed = tallied verbose (ids_where (λ s. finished_in n s && not s.purged) (rs ++ r ∷ [])); tasks = tallied verbose (ids_where (λ s. runs_in n s && not s.direct) (rs ++ r ∷ [])) }) queue
    ∙ ap (λ (z : List Id). record { number = n; queue = tallied verbose (ids_where (λ s. runs_in n s && s.direct) rs); completed = tallied verbose z; tasks = tallied verbose (ids_where (λ s. runs_in n s && not s.direct) (rs ++ r ∷ [])) }) completed
    ∙ ap (λ (z : List Id). record { number = n; queue = tallied verbose (ids_where (λ s. runs_in n s && s.direct) rs); completed = tallied verbose (ids_where (λ s. finished_in n s && not s.purged) rs); tasks = tallied verbose z }) tasks

-- a task without an engine changes no row
pub rows_without : (verbose : Bool) (rs : List Record) (r : Record) (ns : List ℕ) → r.engine ≡ None → map (row_of verbose (rs ++ r ∷ [])) ns ≡ map (row_of verbose rs) ns
rows_without verbose rs r [] h = refl
rows_without verbose rs r (n ∷ ns) h =
    let off : is_number n r.engine ≡ false = ap (is_number n) h in
    rw (row_same verbose rs r n off) (ap (λ z. row_of verbose rs n ∷ z) (rows_without verbose rs r ns h))

flip : (a b : ℕ) → nat_eq a b ≡ false → nat_eq b a ≡ false
flip a b h = ne_eqb b a (λ e. eqb-false a b h (sym e))

-- a task on an engine that isn't asked for changes no row
pub rows_off : (verbose : Bool) (rs : List Record) (r : Record) (number : ℕ) (ns : List ℕ)
    → r.engine ≡ Some number → list_any (λ m. nat_eq m number) ns ≡ false → map (row_of verbose (rs ++ r ∷ [])) ns ≡ map (row_of verbose rs) ns
rows_off verbose rs r number [] on off = refl
rows_off verbose rs r number (n ∷ ns) on off =
    let both = or_parts (nat_eq n number) (list_any (λ m. nat_eq m number) ns) off in
    let here : is_number n r.engine ≡ false = ap (is_number n) on ∙ flip n number both.0 in
    rw (row_same verbose rs r n here) (ap (λ z. row_of verbose rs n ∷ z) (rows_off verbose rs r number ns on both.1))

-- a task on an engine that is asked for changes its row alone
pub rows_at : (verbose : Bool) (rs : List Record) (r : Record) (number : ℕ) (ns : List ℕ) (i : ℕ)
    → Ascends ns → i < length ns → get_or ns i 0 ≡ number → r.engine ≡ Some number
    → set (map (row_of verbose rs) ns) i (row_of verbose (rs ++ r ∷ []) number) ≡ map (row_of verbose (rs ++ r ∷ [])) ns
rows_at verbose rs r number [] i up lt is on = absurd (never i lt)
  where
    never : (k : ℕ) → k < 0 → ⊥
    never k h = omega (arith, h)
rows_at verbose rs r number (n ∷ ns) zero up lt is on =
    let rest = rows_off verbose rs r n ns (on ∙ ap Some (sym is)) (above_unlisted n ns up.0) in
    ap (λ m. row_of verbose (rs ++ r ∷ []) m ∷ map (row_of verbose rs) ns) (sym is) ∙ ap (λ z. row_of verbose (rs ++ r ∷ []) n ∷ z) (sym rest)
rows_at verbose rs r number (n ∷ ns) (suc i) up lt is on =
    let more : n < get_or ns i 0 = below_at n ns i up.0 (omega arith) in
    let apart : nat_eq number n ≡ false = ne_eqb number n (λ e. less_not_equal n (get_or ns i 0) more (sym (is ∙ e))) in
    let here : is_number n r.engine ≡ false = ap (is_number n) on ∙ apart in
    ap (λ z. z ∷ set (map (row_of verbose rs) ns) i (row_of verbose (rs ++ r ∷ []) number)) (sym (row_same verbose rs r n here))
    ∙ ap (λ z. row_of verbose (rs ++ r ∷ []) n ∷ z) (rows_at verbose rs r number ns i up.1 (omega arith) is on)
  where
    less_not_equal : (a b : ℕ) → a < b → a ≡ b → ⊥
    less_not_equal a b lt e = omega (arith, e)

-- a task that is on an engine
pub on_itself : (n : ℕ) (engine : Option ℕ) → engine ≡ Some n → is_number n engine ≡ true
on_itself n engine h = ap (is_number n) h ∙ grind (arith, nat_tests)

pub on_left : (a b c : Bool) → b ≡ true → ((a && b) && c) ≡ (a && c)
on_left true b c h = rw h refl
on_left false b c h = refl
