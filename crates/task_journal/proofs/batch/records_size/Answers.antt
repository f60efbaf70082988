use Rattle.std.proofs.Common.{arith}
use Rattle.task_journal.proofs.Batches.{more_fits}
use Rattle.task_journal.proofs.batch.records_size.Goals as goal

pub overflow_cast-size : goal.overflow_cast-size
overflow_cast-size c = omega (arith, more_fits c.args.entries.now c.loop-entry.entry-index c.entry-item.result c.loop-entry-test.true c.entry-item.is, c.entry_size.ensures, c.requires.short)

pub overflow_add-size : goal.overflow_add-size
overflow_add-size c = omega (arith, more_fits c.args.entries.now c.loop-entry.entry-index c.entry-item.result c.loop-entry-test.true c.entry-item.is, c.entry_size.ensures, c.requires.short, c.loop-entry.invariant)
