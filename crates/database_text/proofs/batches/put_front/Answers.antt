use Rattle.std.proofs.Common.{arith}
use Rattle.task_journal.proofs.Batches.{count_fits}
use Rattle.database_text.proofs.batches.put_front.Goals as goal

pub overflow_cast-entries : goal.overflow_cast-entries
overflow_cast-entries c = omega (arith, count_fits c.args.entries.now, c.records_size-size.ensures, c.if-size.false)
