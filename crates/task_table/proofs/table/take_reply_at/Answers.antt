use Rattle.std.proofs.Common.{sym}
use Rattle.task_table.specs.Seen.{replied_with}
use Rattle.task_table.proofs.Places.{set_at, past_at, alike_set, apart_set}
use Rattle.task_table.proofs.table.take_reply_at.Goals as goal

pub returns-in_err-take_reply-clause-same : goal.returns-in_err-take_reply-clause-same
returns-in_err-take_reply-clause-same c = alike_set c.args.tasks.now c.args.place c.index-tasks-place.result c.take_reply.new.self c.if-place-tasks.true c.take_reply.ensures.same

pub returns-in_ok-take_reply-clause-ok : goal.returns-in_ok-take_reply-clause-ok
returns-in_ok-take_reply-clause-ok c = set_at (replied_with c.args.header.now c.args.how c.args.reply) c.args.tasks.now c.args.place c.index-tasks-place.result c.take_reply.new.self c.if-place-tasks.true c.in_ok-take_reply.ensures.ok

pub returns-in_ok-take_reply-clause-same : goal.returns-in_ok-take_reply-clause-same
returns-in_ok-take_reply-clause-same c = alike_set c.args.tasks.now c.args.place c.index-tasks-place.result c.take_reply.new.self c.if-place-tasks.true c.take_reply.ensures.same

pub returns-else-place-tasks-clause-ok : goal.returns-else-place-tasks-clause-ok
returns-else-place-tasks-clause-ok c = sym (past_at (replied_with c.args.header.now c.args.how c.args.reply) c.args.tasks.now c.args.place c.if-place-tasks.false)

pub returns-in_err-take_reply-clause-apart : goal.returns-in_err-take_reply-clause-apart
returns-in_err-take_reply-clause-apart c = apart_set c.args.tasks.now c.args.place c.take_reply.new.self

pub returns-in_ok-take_reply-clause-apart : goal.returns-in_ok-take_reply-clause-apart
returns-in_ok-take_reply-clause-apart c = apart_set c.args.tasks.now c.args.place c.take_reply.new.self
