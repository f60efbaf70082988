use Rattle.std.proofs.Common.{◌≡◌}
use Rattle.task_journal.specs.Cursor.{IsOn}
use Rattle.store_tests.proofs.cursors.given.Given as goal

abbrev pub invariant-loop : goal.invariant-loop
invariant-loop g l = g.D.Disk.tells → IsOn l.cursor (g.D.Disk.content l.disk)
