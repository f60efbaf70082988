-- A settle of the task of an id, where it is there.
use Rattle.std.proofs.Common.{◌≡◌, ℕ, List, [], ◌∷◌, true, false, cond, refl, sym, ap, ◌∙◌, bytes_eq, Option, Some, None}
use Rattle.cluster_types.specs.declared.verdict.Verdict.{Verdict}
use Rattle.cluster_types.specs.declared.verdict.Cause.{Cause}
use Rattle.cluster_defs.specs.Words.{Id}
use Rattle.cluster_defs.specs.Tasks.{settled_as}
use Rattle.cluster_state.specs.declared.settling.Settling.{Settling}
use Rattle.task_table.specs.Seen.{Seen, settled_with, seen_in, changed}
use Rattle.cluster_state.specs.Plain.{settled_at}
use Rattle.cluster_state.specs.Settling.{IsSettling}

-- changes that make the same of the task that is there, are the same
changed_alike : (id : Id) (g k : Seen → Seen) (t : Seen) (ts : List Seen) → seen_in ts id ≡ Some t → g t ≡ k t → changed id g ts ≡ changed id k ts
changed_alike id g k t [] is same = refl
changed_alike id g k t (u ∷ us) is same =
    (elim (bytes_eq u.row.id id) as (λ b. cond b (Some u) (seen_in us id) ≡ Some t → cond b (g u ∷ us) (u ∷ changed id g us) ≡ cond b (k u ∷ us) (u ∷ changed id k us)) [
      | true ↦ λ here. let first : u ≡ t = cc in ap (λ v. v ∷ us) (ap g first ∙ same ∙ sym (ap k first))
      | false ↦ λ rest. ap (λ vs. u ∷ vs) (changed_alike id g k t us rest same)
    ]) is

-- where none is there, nothing changes
changed_none : (id : Id) (g : Seen → Seen) (ts : List Seen) → seen_in ts id ≡ None → changed id g ts ≡ ts
changed_none id g [] is = refl
changed_none id g (u ∷ us) is =
    (elim (bytes_eq u.row.id id) as (λ b. cond b (Some u) (seen_in us id) ≡ None → cond b (g u ∷ us) (u ∷ changed id g us) ≡ u ∷ us) [
      | true ↦ λ here. cc
      | false ↦ λ rest. ap (λ vs. u ∷ vs) (changed_none id g us rest)
    ]) is

pub settle_some : (v : Verdict) (c : Cause) (moment : ℕ) (id : Id) (ts : List Seen) (s : Settling) → IsSettling v c moment (seen_in ts id) (Some s) →
    changed id (settled_with s.settled s.outcome) ts ≡ changed id (settled_at v c moment) ts
settle_some v c moment id ts s h = by (seen_in ts id) refl h
  where
    by : (o : Option Seen) → seen_in ts id ≡ o → IsSettling v c moment o (Some s) → changed id (settled_with s.settled s.outcome) ts ≡ changed id (settled_at v c moment) ts
    by None is k = cc
    by (Some t) is k = changed_alike id (settled_with s.settled s.outcome) (settled_at v c moment) t ts is (ap (λ x. settled_with x s.outcome t) k.0 ∙ ap (λ o. settled_with (settled_as v c moment t.attempts) o t) k.1)

pub settle_none : (v : Verdict) (c : Cause) (moment : ℕ) (id : Id) (ts : List Seen) → IsSettling v c moment (seen_in ts id) None → ts ≡ changed id (settled_at v c moment) ts
settle_none v c moment id ts h = by (seen_in ts id) refl h
  where
    by : (o : Option Seen) → seen_in ts id ≡ o → IsSettling v c moment o None → ts ≡ changed id (settled_at v c moment) ts
    by None is k = sym (changed_none id (settled_at v c moment) ts is)
    by (Some t) is k = absurd k
