use Rattle.std.proofs.Common.{sym, ap}
use Rattle.task_table.specs.Seen.{aborted_out}
use Rattle.task_table.specs.Places.{name, settling, asking}
use Rattle.task_table.proofs.Places.{set_at, past_at, alike_set, apart_set}
use Rattle.task_table.proofs.table.abort_at.Goals as goal

pub returns-then-place-tasks-clause-ok : goal.returns-then-place-tasks-clause-ok
returns-then-place-tasks-clause-ok c = set_at aborted_out c.args.tasks.now c.args.place c.index-tasks-place.result c.abort.new.self c.if-place-tasks.true c.abort.ensures

pub returns-then-place-tasks-clause-same : goal.returns-then-place-tasks-clause-same
returns-then-place-tasks-clause-same c =
    alike_set c.args.tasks.now c.args.place c.index-tasks-place.result c.abort.new.self c.if-place-tasks.true (record { name = ap name c.abort.ensures; request = ap asking c.abort.ensures; settled = ap settling c.abort.ensures })

pub returns-then-place-tasks-clause-apart : goal.returns-then-place-tasks-clause-apart
returns-then-place-tasks-clause-apart c = apart_set c.args.tasks.now c.args.place c.abort.new.self

pub returns-else-place-tasks-clause-ok : goal.returns-else-place-tasks-clause-ok
returns-else-place-tasks-clause-ok c = sym (past_at aborted_out c.args.tasks.now c.args.place c.if-place-tasks.false)
