use Rattle.std.proofs.Common.{sym, ap}
use Rattle.task_table.specs.Seen.{settled_with}
use Rattle.task_table.specs.Places.{name}
use Rattle.task_table.proofs.Places.{set_at, past_at, map_set, apart_set}
use Rattle.task_table.proofs.table.settle_at.Goals as goal

pub returns-then-place-tasks-clause-ok : goal.returns-then-place-tasks-clause-ok
returns-then-place-tasks-clause-ok c = set_at (settled_with c.args.settled c.args.outcome) c.args.tasks.now c.args.place c.index-tasks-place.result c.settle.new.self c.if-place-tasks.true c.settle.ensures

pub returns-then-place-tasks-clause-names : goal.returns-then-place-tasks-clause-names
returns-then-place-tasks-clause-names c = map_set name c.args.tasks.now c.args.place c.index-tasks-place.result c.settle.new.self c.if-place-tasks.true (ap name c.settle.ensures)

pub returns-then-place-tasks-clause-apart : goal.returns-then-place-tasks-clause-apart
returns-then-place-tasks-clause-apart c = apart_set c.args.tasks.now c.args.place c.settle.new.self

pub returns-else-place-tasks-clause-ok : goal.returns-else-place-tasks-clause-ok
returns-else-place-tasks-clause-ok c = sym (past_at (settled_with c.args.settled c.args.outcome) c.args.tasks.now c.args.place c.if-place-tasks.false)
