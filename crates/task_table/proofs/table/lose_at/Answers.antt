use Rattle.std.proofs.Common.{sym}
use Rattle.task_table.specs.Seen.{lost_all, on_unsettled}
use Rattle.task_table.proofs.Places.{set_at, past_at, alike_set, apart_set}
use Rattle.task_table.proofs.table.lose_at.Goals as goal

pub returns-in_err-lose-clause-same : goal.returns-in_err-lose-clause-same
returns-in_err-lose-clause-same c = alike_set c.args.tasks.now c.args.place c.index-tasks-place.result c.lose.new.self c.if-place-tasks.true c.lose.ensures.same

pub returns-in_err-lose-clause-apart : goal.returns-in_err-lose-clause-apart
returns-in_err-lose-clause-apart c = apart_set c.args.tasks.now c.args.place c.lose.new.self

pub returns-in_ok-lose-clause-ok : goal.returns-in_ok-lose-clause-ok
returns-in_ok-lose-clause-ok c = set_at (on_unsettled lost_all) c.args.tasks.now c.args.place c.index-tasks-place.result c.lose.new.self c.if-place-tasks.true c.in_ok-lose.ensures.ok

pub returns-in_ok-lose-clause-same : goal.returns-in_ok-lose-clause-same
returns-in_ok-lose-clause-same c = alike_set c.args.tasks.now c.args.place c.index-tasks-place.result c.lose.new.self c.if-place-tasks.true c.lose.ensures.same

pub returns-in_ok-lose-clause-apart : goal.returns-in_ok-lose-clause-apart
returns-in_ok-lose-clause-apart c = apart_set c.args.tasks.now c.args.place c.lose.new.self

pub returns-else-place-tasks-clause-ok : goal.returns-else-place-tasks-clause-ok
returns-else-place-tasks-clause-ok c = sym (past_at (on_unsettled lost_all) c.args.tasks.now c.args.place c.if-place-tasks.false)
