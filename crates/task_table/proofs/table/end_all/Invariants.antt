use Rattle.std.proofs.Common.{◌≡◌, take}
use Rattle.place_sets.specs.Sets.{at_places}
use Rattle.task_table.specs.Seen.{ended_on, on_unsettled}
use Rattle.task_table.specs.Marking.{Aside}
use Rattle.task_table.specs.Places.{Alike}
use Rattle.task_table.proofs.table.end_all.Given as goal

abbrev pub invariant-loop-place : goal.invariant-loop-place
invariant-loop-place l = record {
  ok : l.tasks ≡ at_places (on_unsettled (ended_on l.engine)) (take l.place-index l.places) l.fn.tasks;
  same : Alike l.fn.tasks l.tasks;
  aside : Aside l.places l.fn.tasks l.tasks;
}
