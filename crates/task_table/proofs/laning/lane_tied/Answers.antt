use Rattle.std.proofs.Common.{◌≡◌, ap, sym, ◌∙◌, Some}
use Rattle.task_table.specs.Fitting.{tied}
use Rattle.task_table.specs.Waiting.{is_among}
use Rattle.task_table.proofs.Watching.{up_ok, laned_tied}
use Rattle.task_table.proofs.laning.lane_tied.Goals as goal

pub returns-clause-there : goal.returns-clause-there
returns-clause-there c = λ r is some.
    let ts = c.args.table.now in
    let t = c.args.task.now in
    let place = c.args.place in
    let lanes = c.lane_on_each.new.lanes in
    let same : Some c.request.result.now.request ≡ Some r = sym c.request.ensures.value ∙ is in
    let said : c.request.result.now.request ≡ r = cc in
    up_ok c.lane_on_each.result
    (λ laned. laned_tied ts t place r lanes is some (λ n on. laned n (ap (is_among n) c.deref.ensures.value ∙ c.in_ok-engines.ensures.members n ∙ ap (λ q. is_among n (tied ts q)) said ∙ on)))
    c.lane_on_each.ensures.there
