-- The ids of one more record.
use Rattle.std.proofs.Common.{◌≡◌, ◌≤◌, ◌+◌, ℕ, suc, zero, List, [], ◌∷◌, ◌++◌, length, take, map, filter, slice_get, Some, Bool, true, false, if◌then◌else◌, refl, ap, ◌∙◌, arith}
use Rattle.std.proofs.lemmas.List.{map-append}
use Rattle.std.proofs.lemmas.Option.{none-some}
use Rattle.std.proofs.lemmas.List.Elements.{filter-append}
use Rattle.cluster_defs.proofs.Options.{some_inj}
use Rattle.cluster_types.specs.declared.record.Record.{Record}
use Rattle.cluster_defs.specs.RecordAnswers.{ids_where}
use Rattle.resubmission.proofs.Wheres.{one}

pub where_append : (p : Record → Bool) (rs : List Record) (r : Record) → ids_where p (rs ++ r ∷ []) ≡ ids_where p rs ++ (if p r then r.id ∷ [] else [])
where_append p rs r =
    ap (map (λ (s : Record). s.id)) (filter-append p rs (r ∷ [])) ∙ map-append (λ (s : Record). s.id) (filter p rs) (filter p (r ∷ []))
    ∙ ap (λ z. ids_where p rs ++ z) (one p r (p r))

short_kept : (b : Bool) (r : Record) (rs : List Record) (n : ℕ) → length (map (λ (s : Record). s.id) rs) ≤ n
    → length (map (λ (s : Record). s.id) (if b then r ∷ rs else rs)) ≤ suc n
short_kept true r rs n h = omega (arith, h)
short_kept false r rs n h = omega (arith, h)

pub where_short : (p : Record → Bool) (rs : List Record) → length (ids_where p rs) ≤ length rs
where_short p [] = omega arith
where_short p (r ∷ rs) = short_kept (p r) r (filter p rs) (length rs) (where_short p rs)

-- one more record of a list
record_step : (rs : List Record) (k : ℕ) (r : Record) → slice_get rs k ≡ Some r → take (suc k) rs ≡ take k rs ++ r ∷ []
record_step [] k r h = absurd (none-some r h)
record_step (s ∷ rs) zero r h = ap (λ z. z ∷ []) (some_inj h)
record_step (s ∷ rs) (suc k) r h = ap (λ z. s ∷ z) (record_step rs k r h)

pub records_more : (rs : List Record) (k : ℕ) (r : Record) → slice_get rs k ≡ Some r → take (k + 1) rs ≡ take k rs ++ r ∷ []
records_more rs k r h = let next : k + 1 ≡ suc k = omega arith in ap (λ n. take n rs) next ∙ record_step rs k r h
