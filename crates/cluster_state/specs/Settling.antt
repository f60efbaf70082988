-- How a task is settled.
use Rattle.std.specs.Prelude.{◌≡◌, ℕ, Option, Some, None}
use Rattle.cluster_types.specs.declared.verdict.Verdict.{Verdict}
use Rattle.cluster_types.specs.declared.verdict.Cause.{Cause}
use Rattle.cluster_defs.specs.Tasks.{settled_as}
use Rattle.cluster_state.specs.declared.settling.Settling.{Settling}
use Rattle.task_table.specs.Seen.{Seen}
use Rattle.cluster_state.specs.Plain.{outcome_for}

-- as its verdict, its cause and its last attempt say, with the outcome that it gets; a task that isn't there isn't
abbrev pub IsSettling : Verdict → Cause → ℕ → Option Seen → Option Settling → Type 0
IsSettling verdict cause moment None o = o ≡ None
IsSettling verdict cause moment (Some t) None = ⊥
IsSettling verdict cause moment (Some t) (Some s) =
    (s.settled ≡ settled_as verdict cause moment t.attempts) × (s.outcome ≡ outcome_for (settled_as verdict cause moment t.attempts) cause t)
