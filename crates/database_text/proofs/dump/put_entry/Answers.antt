use Rattle.database_text.proofs.Fronts.{front_none}
use Rattle.database_text.proofs.dump.put_entry.Goals as goal
use Rattle.cluster_types.proofs.Options.{at_err}

pub returns-in_err-add_line-clause-err : goal.returns-in_err-add_line-clause-err
returns-in_err-add_line-clause-err g c = at_err _ (front_none _ _)
