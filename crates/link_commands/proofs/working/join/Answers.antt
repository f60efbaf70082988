use Rattle.link_commands.proofs.WorkingPieces.{unjoined}
use Rattle.link_commands.proofs.working.join.Goals as goal
use Rattle.cluster_types.proofs.Options.{at_err}

pub returns-in_err-join-clause-err : goal.returns-in_err-join-clause-err
returns-in_err-join-clause-err g c = at_err _ (unjoined _ _ _ _ c.now-moment.ensures.limit)

pub returns-in_err-octets-clause-err : goal.returns-in_err-octets-clause-err
returns-in_err-octets-clause-err g c = at_err _ (unjoined _ _ _ _ c.now-moment.ensures.limit)
