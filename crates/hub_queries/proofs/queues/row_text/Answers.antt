use Rattle.std.proofs.Common.{ap, refl}
use Rattle.cluster_defs.specs.Texts.{queue_member}
use Rattle.cluster_defs.specs.RecordAnswers.{queue_in}
use Rattle.hub_queries.proofs.queues.row_text.Goals as goal

pub returns : goal.returns
unfolding queue_member
returns c = λ verbose records same.
    let engine = queue_in records c.args.row.now.number in
    rw (
      c.in_ok-push_str-4.ensures.bytes,
      c.in_ok-push_to-3.ensures verbose engine.tasks (ap (λ z. z.tasks) same),
      c.in_ok-push_str-3.ensures.bytes,
      c.in_ok-push_to-2.ensures verbose engine.completed (ap (λ z. z.completed) same),
      c.in_ok-push_str-2.ensures.bytes,
      c.in_ok-push_to.ensures verbose engine.queue (ap (λ z. z.queue) same),
      c.in_ok-push_str.ensures.bytes,
      c.in_ok-text.ensures,
    ) refl
