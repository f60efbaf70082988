use Rattle.std.proofs.Common.{subst, sym, ap, refl, ◌∙◌}
use Rattle.task_table.specs.Seen.{settled_with, changed}
use Rattle.task_table.specs.Tallying.{AllTold}
use Rattle.task_table.proofs.Places.{at_is_changed, none_is_changed}
use Rattle.task_table.proofs.Tallying.{all_moved, none_told}
use Rattle.task_table.proofs.Waiting.{indexed_settled, bound_of}
use Rattle.task_table.proofs.tasks.Tasks.settle.Goals as goal

pub invariant_of-self-in_err-follow : goal.invariant_of-self-in_err-follow
invariant_of-self-in_err-follow g c =
    let f = settled_with c.args.settled c.args.outcome in
    let us = c.settle_in.new.table in
    record {
      marked = c.settle_in.ensures.marked;
      indexed = indexed_settled f (λ t. refl) (λ t. refl) c.in-Some.place c.self.inside.waiters c.leave_waits.new.waiters c.self.inside.table us c.in_ok-settle_in.ensures.ok c.self.invariant.indexed c.leave_waits.ensures;
      counted = subst (λ o. AllTold us o) (sym (c.in_err-follow.ensures.err ∙ c.take-kept.ensures.after)) (none_told us);
    }

pub invariant_of-self-in-Some : goal.invariant_of-self-in-Some
invariant_of-self-in-Some g c =
    let f = settled_with c.args.settled c.args.outcome in
    let ts = c.self.inside.table in
    let us = c.settle_in.new.table in
    record {
      marked = c.settle_in.ensures.marked;
      indexed = indexed_settled f (λ t. refl) (λ t. refl) c.in-Some.place c.self.inside.waiters c.leave_waits.new.waiters ts us c.in_ok-settle_in.ensures.ok c.self.invariant.indexed c.leave_waits.ensures;
      counted = all_moved f c.in-Some.place ts us c.take-kept.result c.follow.new.tallies c.classes_at-before.result c.classes_at.result
          (subst (λ k. AllTold ts k) (sym c.take-kept.ensures.value) c.self.invariant.counted) c.in_ok-settle_in.ensures.ok c.classes_at-before.ensures c.classes_at.ensures c.in_ok-follow.ensures.ok;
    }

pub returns-in_ok-follow-clause-ok : goal.returns-in_ok-follow-clause-ok
returns-in_ok-follow-clause-ok g c =
    let f = settled_with c.args.settled c.args.outcome in
    c.in_ok-settle_in.ensures.ok ∙ at_is_changed f c.args.id.now c.self.inside.table c.in-Some.place (sym c.in-Some.ensures) ∙ ap (changed c.args.id.now f) c.self.view_is

pub returns-in_default-clause-ok : goal.returns-in_default-clause-ok
returns-in_default-clause-ok g c =
    let f = settled_with c.args.settled c.args.outcome in
    sym c.self.view_is ∙ sym (none_is_changed f c.args.id.now c.self.inside.table (sym c.in_default.ensures)) ∙ ap (changed c.args.id.now f) c.self.view_is

pub returns-in_err-settle_in-clause-cost : goal.returns-in_err-settle_in-clause-cost
returns-in_err-settle_in-clause-cost g c =
    bound_of c.self.inside.table c.args.self.now c.self.inside.waiters c.args.id.now c.deref.result.now c.in_ok-waiting.waiting.items c.settle_in.new.steps c.args.steps.now
    c.self.invariant.indexed c.in_ok-waiting.ensures.sorted c.in_ok-waiting.ensures.places c.deref.ensures.value c.self.view_is c.settle_in.ensures.cost

pub returns-in_err-follow-clause-cost : goal.returns-in_err-follow-clause-cost
returns-in_err-follow-clause-cost g c =
    bound_of c.self.inside.table c.args.self.now c.self.inside.waiters c.args.id.now c.deref.result.now c.in_ok-waiting.waiting.items c.settle_in.new.steps c.args.steps.now
    c.self.invariant.indexed c.in_ok-waiting.ensures.sorted c.in_ok-waiting.ensures.places c.deref.ensures.value c.self.view_is c.settle_in.ensures.cost

pub returns-in_ok-follow-clause-cost : goal.returns-in_ok-follow-clause-cost
returns-in_ok-follow-clause-cost g c =
    bound_of c.self.inside.table c.args.self.now c.self.inside.waiters c.args.id.now c.deref.result.now c.in_ok-waiting.waiting.items c.settle_in.new.steps c.args.steps.now
    c.self.invariant.indexed c.in_ok-waiting.ensures.sorted c.in_ok-waiting.ensures.places c.deref.ensures.value c.self.view_is c.settle_in.ensures.cost
