use Rattle.std.proofs.Common.{arith}
use Rattle.tape.proofs.Fitting.{record_fits}
use Rattle.tape.proofs.reader.first_record.Goals as goal

pub returns-in-Ok-clause-fits : goal.returns-in-Ok-clause-fits
returns-in-Ok-clause-fits c = record_fits c.args.octets.now c.in-Ok.record c.in-Ok.field-0-1.now (λ i. omega (arith, c.type_inv.octets i)) c.in-Ok.ensures
