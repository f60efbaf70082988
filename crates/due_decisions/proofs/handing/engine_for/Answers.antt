use Rattle.std.proofs.Common.{◌≡◌, subst}
use Rattle.std.specs.Prelude.{IfOk}
use Rattle.due_decisions.specs.Table.{picked}
use Rattle.due_decisions.proofs.OpenTasks.{rooms_all}
use Rattle.due_decisions.proofs.handing.engine_for.Goals as goal

pub returns-then-takes_any : goal.returns-then-takes_any
returns-then-takes_any g c =
    subst (λ rs. IfOk c.picked.result (λ n. n ≡ picked c.args.scheme c.args.word rs)) (rooms_all c.args.table.now c.args.task.now c.args.rooms.now (c.takes_any.ensures c.if-takes_any.true)) c.picked.ensures
