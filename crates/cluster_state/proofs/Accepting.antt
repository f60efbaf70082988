-- What a request for a task comes to, by the task of its id.
use Rattle.std.proofs.Common.{◌≡◌, false, refl, Some, None}
use Rattle.cluster_types.specs.declared.message.Message.{Message}
use Rattle.cluster_defs.specs.declared.acceptance.Acceptance.TheVariants.{Again}
use Rattle.cluster_defs.specs.Words.{begins_with}
use Rattle.cluster_defs.specs.Acceptance.{Demand, acceptance, acceptance_new, is_same, reserved_front}
use Rattle.task_table.specs.Seen.{Seen, seen_in}
use Rattle.cluster_state.specs.Plain.{Plain, facts_in}
use Rattle.cluster_state.proofs.Known.{known_is}

pub accepting_known : (p : Plain) (d : Demand) (m : Message) (t : Seen) → begins_with reserved_front d.submission.id ≡ false →
    seen_in p.tasks d.submission.id ≡ Some t → t.row.purged ≡ false → acceptance (facts_in p) d m ≡ Again (is_same d m t.request t.body)
accepting_known p d m t open_id is unpurged = rw (open_id, known_is d.submission.id p.tasks, is, unpurged) refl

pub accepting_new : (p : Plain) (d : Demand) (m : Message) → begins_with reserved_front d.submission.id ≡ false →
    seen_in p.tasks d.submission.id ≡ None → acceptance (facts_in p) d m ≡ acceptance_new (facts_in p) d m
accepting_new p d m open_id is = rw (open_id, known_is d.submission.id p.tasks, is) refl
