use Rattle.std.proofs.Common.{◌≡◌, take}
use Rattle.place_sets.specs.Sets.{at_places}
use Rattle.task_table.specs.Seen.{lost_all, on_unsettled}
use Rattle.task_table.specs.Marking.{Aside}
use Rattle.task_table.specs.Places.{Alike}
use Rattle.task_table.proofs.table.lose_each.Given as goal

abbrev pub invariant-loop-place : goal.invariant-loop-place
invariant-loop-place l = record {
  ok : l.tasks ≡ at_places (on_unsettled lost_all) (take l.place-index l.places) l.fn.tasks;
  same : Alike l.fn.tasks l.tasks;
  aside : Aside l.places l.fn.tasks l.tasks;
}
