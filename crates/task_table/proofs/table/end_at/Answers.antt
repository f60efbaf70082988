use Rattle.std.proofs.Common.{sym}
use Rattle.task_table.specs.Seen.{ended_on, on_unsettled}
use Rattle.task_table.proofs.Places.{set_at, past_at, alike_set, apart_set}
use Rattle.task_table.proofs.table.end_at.Goals as goal

pub returns-in_err-end_on-clause-same : goal.returns-in_err-end_on-clause-same
returns-in_err-end_on-clause-same c = alike_set c.args.tasks.now c.args.place c.index-tasks-place.result c.end_on.new.self c.if-place-tasks.true c.end_on.ensures.same

pub returns-in_err-end_on-clause-apart : goal.returns-in_err-end_on-clause-apart
returns-in_err-end_on-clause-apart c = apart_set c.args.tasks.now c.args.place c.end_on.new.self

pub returns-in_ok-end_on-clause-ok : goal.returns-in_ok-end_on-clause-ok
returns-in_ok-end_on-clause-ok c = set_at (on_unsettled (ended_on c.args.engine)) c.args.tasks.now c.args.place c.index-tasks-place.result c.end_on.new.self c.if-place-tasks.true c.in_ok-end_on.ensures.ok

pub returns-in_ok-end_on-clause-same : goal.returns-in_ok-end_on-clause-same
returns-in_ok-end_on-clause-same c = alike_set c.args.tasks.now c.args.place c.index-tasks-place.result c.end_on.new.self c.if-place-tasks.true c.end_on.ensures.same

pub returns-in_ok-end_on-clause-apart : goal.returns-in_ok-end_on-clause-apart
returns-in_ok-end_on-clause-apart c = apart_set c.args.tasks.now c.args.place c.end_on.new.self

pub returns-else-place-tasks-clause-ok : goal.returns-else-place-tasks-clause-ok
returns-else-place-tasks-clause-ok c = sym (past_at (on_unsettled (ended_on c.args.engine)) c.args.tasks.now c.args.place c.if-place-tasks.false)
