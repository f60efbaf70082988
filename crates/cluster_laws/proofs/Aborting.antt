-- What an Abort does to a task: nothing, or that it is withdrawn.
use Rattle.std.proofs.Common.{List, Bool, true, false, cond}
use Rattle.cluster_defs.specs.Words.{Id, is_listed}
use Rattle.cluster_defs.specs.Tasks.{Task, withdrawn, after_abort}

pub abort_choice : (P : Task → Type 0) (ids : List Id) (id : Id) (t : Task) → P t → P (withdrawn t) → P (after_abort ids id t)
abort_choice P ids id t as_before as_withdrawn = elim (is_listed id ids) as (λ b. P (cond b (withdrawn t) t)) [ true ↦ as_withdrawn | false ↦ as_before ]
