use Rattle.journal_standby.proofs.Fronts.{ends_step}
use Rattle.journal_standby.proofs.laws.batches_end_steps.Goals as goal

pub returns : goal.returns
returns c = ends_step
