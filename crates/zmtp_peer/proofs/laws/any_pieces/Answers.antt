use Rattle.zmtp_peer.proofs.Pieces.{talked_append, sent_append, identity_append, messages_append}
use Rattle.zmtp_peer.proofs.laws.any_pieces.Goals as goal

pub returns-clause-state : goal.returns-clause-state
returns-clause-state c = talked_append

pub returns-clause-sent : goal.returns-clause-sent
returns-clause-sent c = sent_append

pub returns-clause-identity : goal.returns-clause-identity
returns-clause-identity c = identity_append

pub returns-clause-messages : goal.returns-clause-messages
returns-clause-messages c = messages_append
