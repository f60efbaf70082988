-- Dependencies, over how each task was settled: met, and unreachable (ipyparallel's `after` and `follow`).
use Rattle.std.specs.Prelude.{ℕ, List, Option, Some, None, Bool, true, false, not, ◌&&◌, ◌||◌, if◌then◌else◌}
use Rattle.std.specs.List.{list_any, list_all}
use Rattle.cluster_types.specs.declared.event.Dep.{Dep}
use Rattle.cluster_types.specs.Verdicts.{completed}
use Rattle.cluster_defs.specs.Words.{Id, is_empty, is_number}
use Rattle.cluster_defs.specs.declared.settled.Settled.{Settled}

-- whether an id finished in a kind that is asked for: completed where `success`, failed where `failure`
abbrev pub asked : Dep → Option Settled → Bool
asked d None = false
asked d (Some s) = if completed s.verdict then d.success else d.failure

-- whether it finished in a kind that isn't asked for
abbrev pub other_kind : Dep → Option Settled → Bool
other_kind d None = false
other_kind d (Some s) = if completed s.verdict then not d.success else not d.failure

-- each of the ids, or some of them
abbrev pub quantified : Bool → (Id → Bool) → List Id → Bool
quantified true p ids = list_all p ids
quantified false p ids = list_any p ids

-- met: an empty dependency is; else every listed id finished as asked, or without `all` some listed id did
abbrev pub met : Dep → (Id → Option Settled) → Bool
met d settled = is_empty d.ids || quantified d.all (λ i. asked d (settled i)) d.ids

-- unreachable: an empty dependency never is; else some listed id finished otherwise, or without `all` every one did
abbrev pub unreachable : Dep → (Id → Option Settled) → Bool
unreachable d settled = not (is_empty d.ids) && quantified (not d.all) (λ i. other_kind d (settled i)) d.ids

-- how an id was settled, where it was on this engine: what `follow` looks at
abbrev pub on_engine : ℕ → Option Settled → Option Settled
on_engine n None = None
on_engine n (Some s) = if is_number n s.engine then Some s else None

abbrev pub same_engine : Option ℕ → Option ℕ → Bool
same_engine None b = false
same_engine (Some m) b = is_number m b

-- two ids that finished, and not on one engine
abbrev pub apart : Option Settled → Option Settled → Bool
apart None b = false
apart (Some s) None = false
apart (Some s) (Some t) = not (same_engine s.engine t.engine)

-- two listed ids finished on different engines
abbrev pub scattered : (Id → Option Settled) → List Id → Bool
scattered settled ids = list_any (λ i. list_any (λ j. apart (settled i) (settled j)) ids) ids
