-- The records that are found among one record more.
use Rattle.std.proofs.Common.{◌≡◌, ◌≤◌, ◌+◌, ℕ, suc, zero, List, [], ◌∷◌, ◌++◌, length, take, slice_get, Bool, true, false, if◌then◌else◌, refl, ap, ◌∙◌, arith}
use Rattle.cluster_types.specs.declared.record.Record.{Record}
use Rattle.cluster_defs.specs.Filter.{is_found, found}
use Rattle.db_query.specs.Found.{found_one}
use Rattle.cluster_defs.specs.declared.filter.Asked.{Asked}
use Rattle.cluster_defs.specs.declared.filter.Tests.{Tests}

more_kept : (b : Bool) (r : Record) (rs qs more : List Record) → rs ≡ qs ++ more → (if b then r ∷ rs else rs) ≡ (if b then r ∷ qs else qs) ++ more
more_kept true r rs qs more h = ap (λ z. r ∷ z) h
more_kept false r rs qs more h = h

found_step : (asked : Asked) (rs : List Record) (k : ℕ) → found asked.tests (take (suc k) rs) ≡ found asked.tests (take k rs) ++ found_one asked (slice_get rs k)
found_step asked [] zero = refl
found_step asked [] (suc k) = refl
found_step asked (r ∷ rs) zero = refl
found_step asked (r ∷ rs) (suc k) =
    more_kept (is_found asked.tests r) r (found asked.tests (take (suc k) rs)) (found asked.tests (take k rs)) (found_one asked (slice_get rs k)) (found_step asked rs k)

pub found_more : (asked : Asked) (rs : List Record) (k : ℕ) → found asked.tests (take (k + 1) rs) ≡ found asked.tests (take k rs) ++ found_one asked (slice_get rs k)
found_more asked rs k = let next : k + 1 ≡ suc k = omega arith in ap (λ n. found asked.tests (take n rs)) next ∙ found_step asked rs k

short_kept : (b : Bool) (r : Record) (rs : List Record) (n : ℕ) → length rs ≤ n → length (if b then r ∷ rs else rs) ≤ suc n
short_kept true r rs n h = omega (arith, h)
short_kept false r rs n h = omega (arith, h)

pub found_short : (t : Tests) (rs : List Record) → length (found t rs) ≤ length rs
found_short t [] = omega arith
found_short t (r ∷ rs) = short_kept (is_found t r) r (found t rs) (length rs) (found_short t rs)
