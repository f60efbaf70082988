use Rattle.hub_queries.specs.declared.lengths.Lengths.{Lengths}
use Rattle.entry_outs.proofs.Counting.{queue_kept}
use Rattle.entry_outs.proofs.rows.RowsQueueCounts.queue.Goals as goal

pub returns : goal.returns
returns c =
    let lengths : Lengths = record { queue = c.in_ok-queue.queue; completed = c.in_ok-completed.completed; tasks = c.in_ok-tasks.tasks } in
    queue_kept c.args.self.now.tasks.now c.tallies-tallies.result.now c.args.engine lengths c.tallies-tallies.ensures c.args.self.now.shown c.in_ok-queue.ensures c.in_ok-completed.ensures c.in_ok-tasks.ensures
