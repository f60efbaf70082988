use Rattle.std.proofs.Common.{◌≡◌, ◌==◌, sym, ap, ◌∙◌}
use Rattle.std.specs.List.{slice_split}
use Rattle.job_graph.specs.Jobs.{counted, job_in, tasks_in, unless}
use Rattle.job_graph.proofs.read.read_job.Goals as goal

pub invariant_of-result : goal.invariant_of-result
invariant_of-result c =
    let lines = c.as_slice.result.now in
    let same : lines ≡ slice_split (λ c. c == 10) c.args.text.now = c.as_slice.ensures ∙ c.in_ok-lines.ensures in (
      c.args.text.now,
      ap job_in (sym same) ∙ ap (λ fault. unless fault (counted (tasks_in lines))) c.in_ok-tasks.ensures.no_fault ∙ ap counted (sym c.in_ok-tasks.ensures.ok) ∙ c.in_ok-tasks-2.ensures.ok,
    )
