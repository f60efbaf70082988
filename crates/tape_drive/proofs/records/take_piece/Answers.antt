use Rattle.std.proofs.Common.{◌∙◌, Option, ap, subst}
use Rattle.cluster_types.specs.declared.config.Channel.{Channel}
use Rattle.zmtp_peer.specs.declared.phase.PeerFed.{PeerFed}
use Rattle.tape_drive.specs.Inputs.{stream_inputs}
use Rattle.tape_drive.specs.Links.{link_on, given_on}
use Rattle.tape_drive.specs.Steps.{AreTaken}
use Rattle.tape_drive.proofs.Within.{given_taken}
use Rattle.tape_drive.proofs.records.take_piece.Goals as goal

pub returns-clause-taken : goal.returns-clause-taken
returns-clause-taken c =
    subst (λ (o : Option (Channel × PeerFed)). AreTaken (stream_inputs c.args.key.now c.args.from.conn c.args.from.moment c.args.from.word o))
    (c.in_ok-given.ensures.given ∙ ap (λ o. given_on o (link_on c.args.links.now c.args.from.conn)) c.as_slice.ensures)
    (given_taken c.args.key.now c.args.from.conn c.args.from.moment c.args.from.word c.in_ok-given.given c.requires.conn c.requires.moment c.in_ok-given.ensures.short)
