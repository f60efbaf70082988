-- How many of the ids that a dependency lists finished, each id counted once.
use Rattle.std.specs.Prelude.{◌≤◌, ◌+◌, ℕ, List, [], ◌∷◌, Option, Bool, not, ◌&&◌, if◌then◌else◌}
use Rattle.std.specs.Option.{is_none}
use Rattle.cluster_types.specs.declared.event.Dep.{Dep}
use Rattle.cluster_defs.specs.Words.{Id, is_listed}
use Rattle.cluster_defs.specs.declared.settled.Settled.{Settled}
use Rattle.cluster_defs.specs.Dependencies.{asked, other_kind}
use Rattle.dependency_sets.specs.declared.id_counts.IdCounts.{IdCounts}

abbrev pub one_if : Bool → ℕ
one_if b = if b then 1 else 0

-- how many distinct ids of a list pass a test
abbrev pub distinct : (Id → Bool) → List Id → ℕ
distinct test [] = 0
distinct test (id ∷ ids) = one_if (test id && not (is_listed id ids)) + distinct test ids

-- of some ids that are settled so: those that are open, those that finished as asked, and those that did otherwise
abbrev pub counts_among : Dep → (Id → Option Settled) → List Id → IdCounts
counts_among d settled ids = record {
  pending = distinct (λ i. is_none (settled i)) ids;
  asked = distinct (λ i. asked d (settled i)) ids;
  other = distinct (λ i. other_kind d (settled i)) ids;
}

-- of all that the dependency lists
abbrev pub counts_of : Dep → (Id → Option Settled) → IdCounts
counts_of d settled = counts_among d settled d.ids

-- one id more, which is settled so
abbrev pub with_one : Dep → Option Settled → IdCounts → IdCounts
with_one d o counts = record {
  pending = counts.pending + one_if (is_none o);
  asked = counts.asked + one_if (asked d o);
  other = counts.other + one_if (other_kind d o);
}

-- one of those that are counted is settled so
pub record HasOne (d : Dep) (o : Option Settled) (counts : IdCounts) : Type 0 where
  pub pending : one_if (is_none o) ≤ counts.pending
  pub asked : one_if (asked d o) ≤ counts.asked
  pub other : one_if (other_kind d o) ≤ counts.other

abbrev pub counted : IdCounts → ℕ
counted counts = counts.pending + counts.asked + counts.other
