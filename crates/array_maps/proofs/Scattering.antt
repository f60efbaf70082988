-- What scatter's codes leave.
use Rattle.std.proofs.Common.{◌≡◌, ℕ, zero, suc, ℤ, ◌+◌, ◌<◌, ◌≤◌, Bool, true, false, cond, Some, None, Ok, List, [], ◌∷◌, length, get_or, refl, sym, ap, ◌∙◌, arith}
use Rattle.std.specs.Prelude.{nat_lt, not}
use Rattle.std.specs.List.{position_or_len}
use Rattle.std.proofs.lemmas.Bool.Decides.{nat_tests}
use Rattle.std.proofs.lemmas.List.FromFn.{get_or-map-range_with_len, length-map-range_with_len}
use Rattle.arith_eval.specs.Names.{Environment}
use Rattle.array_maps.specs.Blocks.{block_start, block_length}
use Rattle.array_maps.specs.Codes.{scatter_code, scatter_codes}
use Rattle.array_maps.specs.Making.{is_long, unless_long, made}
use Rattle.array_maps.specs.Names.{is_array_name}
use Rattle.array_maps.specs.Running.{AreScattered, Scatters}
use Rattle.array_maps.proofs.Blocked.{block_within}
use Rattle.array_maps.proofs.Running.{elements_left}

named_step : (b : Bool) (all codes : List (List ℕ)) → made b all ≡ Ok codes → (b ≡ true) × (made true all ≡ Ok codes)
named_step true all codes h = (refl, h)
named_step false all codes h = absurd cc

test_step : (b : Bool) (m n : ℕ) → suc n ≤ cond (not b) (1 + m) 0 → (b ≡ false) × (n ≤ m)
test_step true m n h = absurd (omega (arith, h))
test_step false m n h = (refl, omega (arith, h))

none_of : (xs : List (List ℕ)) (i : ℕ) → length xs ≤ position_or_len is_long xs → i < length xs → is_long (get_or xs i []) ≡ false
none_of [] i h lt = absurd (omega (arith, lt))
none_of (c ∷ xs) zero h lt = (test_step (is_long c) (position_or_len is_long xs) (length xs) h).0
none_of (c ∷ xs) (suc i) h lt = none_of xs i (test_step (is_long c) (position_or_len is_long xs) (length xs) h).1 (omega (arith, lt))

short_step : (b : Bool) (n : ℕ) (all codes : List (List ℕ)) → unless_long all (cond b (Some n) None) ≡ Ok codes → b ≡ false
short_step true n all codes h = absurd cc
short_step false n all codes h = refl

not_less : (m n : ℕ) → nat_lt m n ≡ false → n ≤ m
not_less m n h = grind (arith, nat_tests)

-- of codes that were made none is too long
each_short : (all codes : List (List ℕ)) (i : ℕ) → made true all ≡ Ok codes → i < length all → is_long (get_or all i []) ≡ false
each_short all codes i h lt =
    let past = short_step (nat_lt (position_or_len is_long all) (length all)) (position_or_len is_long all) all codes h in
    none_of all i (not_less (position_or_len is_long all) (length all) past) lt

not_long : (code : List ℕ) → is_long code ≡ false → length code ≤ 65536
not_long code h = not_less 65536 (length code) h

pub scattered_sets : (name : List ℕ) (values : List ℤ) (parts part : ℕ) (codes : List (List ℕ)) → AreScattered name values parts codes → part < parts → (before : Environment) → Scatters name values parts part before
scattered_sets name values parts part codes are lt before =
    let named = named_step (is_array_name name (length values)) (scatter_codes name values parts) codes are.are in
    let count : length (scatter_codes name values parts) ≡ parts = length-map-range_with_len (scatter_code name values parts) 0 parts in
    let lesser : part < length (scatter_codes name values parts) = omega (arith, count, lt) in
    let zeroth : 0 + part ≡ part = omega arith in
    let is : get_or (scatter_codes name values parts) part [] ≡ scatter_code name values parts part = get_or-map-range_with_len (scatter_code name values parts) 0 parts part part [] lt zeroth in
    let short = not_long (scatter_code name values parts part) (ap is_long (sym is) ∙ each_short (scatter_codes name values parts) codes part named.1 lesser) in
    elements_left name values (block_start (length values) parts part) (block_length (length values) parts part) before named.0 are.numbers (block_within (length values) parts part lt) are.few short
