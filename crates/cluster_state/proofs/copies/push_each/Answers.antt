use Rattle.cluster_state.proofs.Copying.{first_open}
use Rattle.cluster_state.proofs.copies.push_each.Goals as goal

pub push-requires : goal.push-requires
push-requires c = first_open c.in-Some.task c.next.new.self.rest.items c.loop-task.task-iterator.rest.items c.in-Some.ensures.steps.0 c.loop-task.invariant.fresh
