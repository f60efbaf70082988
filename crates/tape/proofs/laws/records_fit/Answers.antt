use Rattle.tape.proofs.Fitting.{records_fit}
use Rattle.tape.proofs.laws.records_fit.Goals as goal

pub returns : goal.returns
returns c = records_fit
