use Rattle.std.proofs.Common.{◌≡◌, ◌<◌, ◌+◌, ◌++◌, [], length, take, get_or, None, arith, sym, ap, ◌∙◌}
use Rattle.std.specs.List.{cons_option}
use Rattle.job_graph.specs.Jobs.{fault_of, tasks_in}
use Rattle.job_graph.proofs.Faults.{passed, tasks_more}
use Rattle.job_graph.proofs.read.tasks_in.Goals as goal

pub loop-place-preserved : goal.loop-place-preserved
loop-place-preserved c =
    let lines = c.args.lines.now in
    let place = c.loop-place.place in
    let line = c.index-lines-place.result in
    let inside : place < length lines = omega arith in
    let is : get_or lines place line ≡ line = sym c.index-lines-place.is in
    let seen : c.as_slice.result.now ≡ tasks_in (take place lines) = c.as_slice.ensures ∙ c.loop-place.invariant.0 in
    let none : fault_of (place + 1) (tasks_in (take place lines)) line ≡ None = ap (λ ts. fault_of (place + 1) ts line) (sym seen) ∙ c.in_ok-task.ensures.no_fault in (
      c.in_ok-push_some.ensures.ok ∙ (λ t. c.loop-place.invariant.0 t ++ cons_option (c.in_ok-task.ensures.ok t) []) ∙ tasks_more lines place line inside is,
      passed lines place line inside is none ∙ c.loop-place.invariant.1,
    )
