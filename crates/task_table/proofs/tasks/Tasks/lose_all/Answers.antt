use Rattle.std.proofs.Common.{◌≡◌, subst, sym, ◌∙◌}
use Rattle.place_sets.specs.Sets.{at_places}
use Rattle.place_sets.proofs.Sweeping.{sweep}
use Rattle.task_table.specs.Seen.{lost_all, on_unsettled}
use Rattle.std.specs.Prelude.{OnOk}
use Rattle.task_table.specs.Tallying.{AllLess, AllMore}
use Rattle.task_table.specs.Standing.{runs_open}
use Rattle.task_table.specs.Places.{Beside}
use Rattle.task_table.proofs.Marking.{idle_lost}
use Rattle.task_table.proofs.Tallying.{beside_out, beside_lost, beside_swept}
use Rattle.task_table.proofs.tasks.Tasks.lose_all.Goals as goal

pub invariant_of-self : goal.invariant_of-self
invariant_of-self c = beside_out c.self.inside.table c.self.inside.marks c.self.inside.waiters c.self.inside.tallies c.set_aside.new.tallies c.self.invariant c.set_aside.ensures.after

pub invariant_of-self-in_err-lose_in : goal.invariant_of-self-in_err-lose_in
invariant_of-self-in_err-lose_in c =
    let us = c.lose_in.new.table in
    let n = c.lose_in.new.marks in
    let waits = c.self.inside.waiters in
    subst (λ o. Beside us n waits o) (sym c.set_aside.ensures.after) (beside_lost c.self.inside.table us c.self.inside.marks n waits c.self.inside.tallies c.self.invariant c.lose_in.ensures.same c.lose_in.ensures.marked)

pub invariant_of-self-2 : goal.invariant_of-self-2
invariant_of-self-2 c =
    let ts = c.self.inside.table in
    let f = on_unsettled lost_all in
    let keys = c.self.inside.marks.running.keys in
    let before : c.deref.result.now ≡ keys = c.deref.ensures.value ∙ c.in_ok-places.ensures.places in
    let after : c.deref-2.result.now ≡ keys = c.deref-2.ensures.value ∙ c.in_ok-places.ensures.places in
    let swept : c.lose_in.new.table ≡ at_places f keys ts = c.in_ok-lose_in.ensures.ok ∙ sym (sweep runs_open f ts c.self.inside.marks.running c.in_ok-places.ensures.sorted c.self.invariant.marked.running idle_lost) in
    beside_swept c.take_back.result f keys ts c.lose_in.new.table c.self.inside.marks c.lose_in.new.marks c.self.inside.waiters c.self.inside.tallies c.in_ok-rest.rest c.set_aside.new.tallies c.take_back.new.tallies
    c.self.invariant c.lose_in.ensures.same c.lose_in.ensures.marked c.in_ok-places.ensures.sorted swept
    (subst (λ qs. AllLess ts qs c.self.inside.tallies c.in_ok-rest.rest) before c.in_ok-rest.ensures.ok) c.set_aside.ensures.after
    (subst (λ qs. OnOk c.take_back.result (AllMore c.lose_in.new.table qs c.in_ok-rest.rest c.take_back.new.tallies)) after c.take_back.ensures.ok) c.take_back.ensures.err
