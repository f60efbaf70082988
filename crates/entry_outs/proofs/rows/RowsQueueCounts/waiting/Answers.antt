use Rattle.entry_outs.proofs.Counting.{waiting_kept}
use Rattle.entry_outs.proofs.rows.RowsQueueCounts.waiting.Goals as goal

pub returns : goal.returns
returns c = waiting_kept c.args.self.now.tasks.now c.tallies-tallies.result.now.unassigned c.kept.result c.tallies-tallies.ensures.unassigned c.kept.ensures
