use Rattle.std.proofs.Common.{◌∙◌, subst, ℕ, Bool, ◌||◌}
use Rattle.std.specs.Prelude.{◌==◌}
use Rattle.std.specs.List.{list_any}
use Rattle.place_sets.specs.Sets.{has, holds_at}
use Rattle.place_sets.specs.Lanes.{in_some}
use Rattle.place_sets.specs.Least.{IsLeast}
use Rattle.place_sets.proofs.Leasts.{least_is}
use Rattle.task_table.specs.Seen.{Seen}
use Rattle.due_decisions.specs.declared.rooms.Room.{Room}
use Rattle.due_decisions.specs.Table.{fits}
use Rattle.due_decisions.proofs.OpenTasks.{fits_covers, no_rooms}
use Rattle.due_decisions.proofs.handing.waiting_task.Goals as goal

pub returns : goal.returns
returns c =
    let ts = c.args.tasks.now in
    let rooms = c.args.rooms.now in
    let m = c.marks-marks.result.now in
    let looks : ℕ → Bool = λ n. list_any (λ (r : Room). r.engine == n) rooms in
    let test : ℕ → Bool = holds_at (λ (t : Seen). list_any (λ (r : Room). fits ts t r.engine) rooms) ts in
    let one : IsLeast test (has m.free) c.waiting_place-free.result =
    subst (λ xs. IsLeast (holds_at (λ (t : Seen). list_any (λ (r : Room). fits xs t r.engine) rooms) xs) (has m.free) c.waiting_place-free.result) c.table-table.ensures c.waiting_place-free.ensures in
    let two : IsLeast test (in_some looks m.lanes) c.in_ok-laned.laned =
    subst (λ xs. IsLeast (holds_at (λ (t : Seen). list_any (λ (r : Room). fits xs t r.engine) rooms) xs) (in_some looks m.lanes) c.in_ok-laned.laned) c.table-table.ensures c.in_ok-laned.ensures in
    c.at.ensures ∙ least_is (λ (t : Seen). list_any (λ (r : Room). fits ts t r.engine) rooms) ts (λ i. has m.free i || in_some looks m.lanes i) c.lesser.result
    (c.lesser.ensures test (has m.free) (in_some looks m.lanes) one two) (fits_covers ts rooms m c.marks-marks.ensures)

pub returns-then-is_empty : goal.returns-then-is_empty
returns-then-is_empty c = no_rooms c.args.tasks.now c.args.rooms.now c.if-is_empty.ensures
