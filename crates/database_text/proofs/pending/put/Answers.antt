use Rattle.database_text.proofs.WrittenFronts.{sent_take}
use Rattle.database_text.proofs.pending.put.Goals as goal

pub returns-in-Err-clause-err : goal.returns-in-Err-clause-err
returns-in-Err-clause-err g c =
    sent_take _ c.in-Err.ensures.err.0 _ _ c.in-Err.ensures.err.2
