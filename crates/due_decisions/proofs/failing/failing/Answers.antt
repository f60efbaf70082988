use Rattle.std.proofs.Common.{ap, sym, ◌∙◌, cond, None, Some, []}
use Rattle.cluster_defs.specs.Scheduling.{failing_as}
use Rattle.due_decisions.specs.Table.{among}
use Rattle.due_decisions.proofs.failing.failing.Goals as goal

pub returns-then-rests : goal.returns-then-rests
returns-then-rests c =
    let ts = c.args.table.now in
    let live = c.args.engines.now in
    let now = c.args.now in
    let t = c.args.task.now in
    c.failing_request.ensures ∙ ap (λ a. failing_as (among ts live now a) [] (Some c.request.result.now.request)) (sym c.attempts.ensures)
    ∙ ap (failing_as (among ts live now t.attempts) []) (sym c.request.ensures.value)
    ∙ ap (λ b. cond b (failing_as (among ts live now t.attempts) t.row.id t.request) None) c.if-rests.ensures
