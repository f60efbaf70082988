-- The ids of one more record.
use Rattle.std.proofs.Common.{◌≡◌, ◌+◌, ℕ, suc, zero, List, [], ◌∷◌, ◌++◌, take, map, filter, slice_get, Bool, true, false, if◌then◌else◌, refl, ap, ◌∙◌, arith}
use Rattle.cluster_types.specs.declared.record.Record.{Record}
use Rattle.cluster_defs.specs.Words.{Id}
use Rattle.cluster_defs.specs.RecordAnswers.{ids_where}
use Rattle.resubmission.specs.Wheres.{id_if}

pub one : (p : Record → Bool) (r : Record) (b : Bool) → map (λ (s : Record). s.id) (if b then r ∷ [] else []) ≡ (if b then r.id ∷ [] else [])
one p r true = refl
one p r false = refl

more_kept : (b : Bool) (r : Record) (rs qs : List Record) (ids : List Id) → map (λ (s : Record). s.id) rs ≡ map (λ (s : Record). s.id) qs ++ ids
    → map (λ (s : Record). s.id) (if b then r ∷ rs else rs) ≡ map (λ (s : Record). s.id) (if b then r ∷ qs else qs) ++ ids
more_kept true r rs qs ids h = ap (λ z. r.id ∷ z) h
more_kept false r rs qs ids h = h

where_step : (p : Record → Bool) (rs : List Record) (k : ℕ) → ids_where p (take (suc k) rs) ≡ ids_where p (take k rs) ++ id_if p (slice_get rs k)
where_step p [] zero = refl
where_step p [] (suc k) = refl
where_step p (r ∷ rs) zero = one p r (p r)
where_step p (r ∷ rs) (suc k) = more_kept (p r) r (filter p (take (suc k) rs)) (filter p (take k rs)) (id_if p (slice_get rs k)) (where_step p rs k)

pub where_more : (p : Record → Bool) (rs : List Record) (k : ℕ) → ids_where p (take (k + 1) rs) ≡ ids_where p (take k rs) ++ id_if p (slice_get rs k)
where_more p rs k = let next : k + 1 ≡ suc k = omega arith in ap (λ n. ids_where p (take n rs)) next ∙ where_step p rs k
