use Rattle.std.proofs.Common.{◌≡◌, map, take}
use Rattle.job_graph.specs.Held.{id_named}
use Rattle.job_graph.specs.Submitting.{job_submission}
use Rattle.job_graph.proofs.submit.job_submissions.Given as goal

abbrev pub invariant-loop-task : goal.invariant-loop-task
invariant-loop-task l = l.submissions ≡ map (job_submission (id_named l.tasks l.ids)) (take l.task-index l.tasks)
