use Rattle.std.proofs.Common.{refl}
use Rattle.cluster_defs.specs.Texts.{queue_content, queue_member}
use Rattle.cluster_defs.specs.RecordAnswers.{queue_in}
use Rattle.hub_queries.proofs.Parts.{flat_of_map}
use Rattle.hub_queries.proofs.queues.queue_text.Goals as goal

pub returns : goal.returns
unfolding queue_content
returns c = λ verbose ids records numbers waiting rows.
    rw (
      c.in_ok-push_str.ensures.bytes,
      c.in_ok-push_rows.ensures verbose records numbers rows,
      c.in_ok-push_to.ensures verbose ids waiting,
      c.in_ok-text.ensures.ok,
      flat_of_map (queue_member verbose) (queue_in records) numbers,
    ) refl
