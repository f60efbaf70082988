use Rattle.quick_commands.proofs.Fitting.{generated_fits}
use Rattle.quick_commands.proofs.work_laws.records_fit.Goals as goal

pub returns : goal.returns
returns c = generated_fits
