use Rattle.std.proofs.Common.{subst, sym, ap, ◌∙◌}
use Rattle.task_table.specs.Seen.{replied_with, changed}
use Rattle.task_table.specs.Places.{Beside}
use Rattle.task_table.proofs.Places.{at_is_changed, none_is_changed}
use Rattle.task_table.proofs.Tallying.{beside_lost, beside_moved}
use Rattle.task_table.proofs.tasks.Tasks.take_reply.Goals as goal

pub invariant_of-self : goal.invariant_of-self
invariant_of-self c =
    let us = c.take_reply_in.new.table in
    let n = c.take_reply_in.new.marks in
    let waits = c.self.inside.waiters in
    subst (λ o. Beside us n waits o) (sym c.take-kept.ensures.after) (beside_lost c.self.inside.table us c.self.inside.marks n waits c.self.inside.tallies c.self.invariant c.take_reply_in.ensures.same c.take_reply_in.ensures.marked)

pub invariant_of-self-in_err-follow : goal.invariant_of-self-in_err-follow
invariant_of-self-in_err-follow c =
    let us = c.take_reply_in.new.table in
    let n = c.take_reply_in.new.marks in
    let waits = c.self.inside.waiters in
    subst (λ o. Beside us n waits o) (sym (c.in_err-follow.ensures.err ∙ c.take-kept.ensures.after))
    (beside_lost c.self.inside.table us c.self.inside.marks n waits c.self.inside.tallies c.self.invariant c.take_reply_in.ensures.same c.take_reply_in.ensures.marked)

pub invariant_of-self-in-Continue-branch-2 : goal.invariant_of-self-in-Continue-branch-2
invariant_of-self-in-Continue-branch-2 c =
    let f = replied_with c.args.header.now c.args.how c.args.reply in
    beside_moved f c.in-Some.place c.self.inside.table c.take_reply_in.new.table c.self.inside.marks c.take_reply_in.new.marks c.self.inside.waiters c.self.inside.tallies c.take-kept.result c.follow.new.tallies c.classes_at-before.result c.classes_at.result
    c.self.invariant c.take-kept.ensures.value c.take_reply_in.ensures.same c.take_reply_in.ensures.marked c.in_ok-take_reply_in.ensures.ok c.classes_at-before.ensures c.classes_at.ensures c.in_ok-follow.ensures.ok

pub returns-in_ok-follow : goal.returns-in_ok-follow
returns-in_ok-follow c =
    let f = replied_with c.args.header.now c.args.how c.args.reply in
    c.in_ok-take_reply_in.ensures.ok ∙ at_is_changed f c.args.id.now c.self.inside.table c.in-Some.place (sym c.in-Some.ensures) ∙ ap (changed c.args.id.now f) c.self.view_is

pub returns-in_default : goal.returns-in_default
returns-in_default c =
    let f = replied_with c.args.header.now c.args.how c.args.reply in
    sym c.self.view_is ∙ sym (none_is_changed f c.args.id.now c.self.inside.table (sym c.in_default.ensures)) ∙ ap (changed c.args.id.now f) c.self.view_is
