use Rattle.std.proofs.Common.{◌≡◌, sym, ◌<◌, ◌≤◌, length, ℕ, get_or, nat_le, false, true, arith}
use Rattle.std.specs.List.{list_all}
use Rattle.std.proofs.lemmas.Bool.Decides.{nat_tests}
use Rattle.std.proofs.lemmas.Grind.{get_or_default_zero}
use Rattle.std.proofs.lemmas.List.Folds.{list_all_at}
use Rattle.std.proofs.lemmas.List.Sums.{position_or_len_is, list_all-from_AllPass}
use Rattle.load_schemes.proofs.place.least_place.Goals as goal

pub returns : goal.returns
returns c =
    let loads = c.args.loads.now in
    let least = c.loop-place.least in
    let inside : least < length loads = omega arith in
    let before : (k : ℕ) → k < least → list_all (nat_le (get_or loads k 0)) loads ≡ false = λ k lt.
    let greater : get_or loads least 0 < get_or loads k 0 = c.loop-place.invariant.greater k lt in
    list_all_at (nat_le (get_or loads k 0)) loads least 0 inside (grind (arith, nat_tests)) in
    let none_less : (k d : ℕ) → k < length loads → nat_le (get_or loads least 0) (get_or loads k d) ≡ true = λ k d lt.
    let here : get_or loads least 0 ≤ get_or loads k 0 = c.loop-place.invariant.least_yet k (omega arith) in
    rw (get_or_default_zero loads k d lt) (grind (arith, nat_tests)) in
    sym (position_or_len_is (λ n. list_all (nat_le n) loads) loads least 0 (omega arith) before
    (λ _. list_all-from_AllPass (nat_le (get_or loads least 0)) loads none_less))
