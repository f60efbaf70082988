use Rattle.std.proofs.Common.{◌≤◌}
use Rattle.edges.specs.Streams.{Took}
use Rattle.task_journal.specs.Reads.{OnlyReads}
use Rattle.database_text.specs.Compared.{IsAhead, turns}
use Rattle.database_text.proofs.check.read_on.Given as goal

abbrev pub invariant-loop-reached : goal.invariant-loop-reached
invariant-loop-reached g l = record {
  ahead : IsAhead g.D.Disk.tells (g.D.Disk.content l.fn.disk) l.comparison l.reached.cursor l.reached.ahead;
  took : Took l.comparison.input (g.S.Source.left l.initial.input) (g.S.Source.left l.input);
  later : g.S.Source.faults l.initial.input ≤ g.S.Source.faults l.input;
  reads : OnlyReads g.D.Disk.content g.D.Disk.image g.D.Disk.moment g.D.Disk.image_since g.D.Disk.faults l.fn.disk l.disk;
}

-- each piece takes a turn
abbrev pub decreases-loop-reached : goal.decreases-loop-reached
decreases-loop-reached g l = turns l.reached.cursor l.reached.ahead
