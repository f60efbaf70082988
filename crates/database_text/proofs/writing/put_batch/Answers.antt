use Rattle.database_text.proofs.WrittenFronts.{some_none}
use Rattle.database_text.proofs.writing.put_batch.Goals as goal
use Rattle.cluster_types.proofs.Options.{at_err}

pub returns-in_err-put_front-clause-err : goal.returns-in_err-put_front-clause-err
returns-in_err-put_front-clause-err g c = at_err _ (some_none _ _)
