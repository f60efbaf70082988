use Rattle.std.proofs.Common.{◌∙◌}
use Rattle.cluster_types.proofs.Options.{at_err}
use Rattle.link_messages.proofs.Fronts.{front_of_more, front_whole}
use Rattle.link_commands.proofs.FirstAnswer.{piece_taken}
use Rattle.link_commands.proofs.AskingPieces.{due_added, due_front}
use Rattle.link_commands.proofs.asking.take_piece.Goals as goal

pub returns-in_err-fed-clause-err : goal.returns-in_err-fed-clause-err
returns-in_err-fed-clause-err g c = at_err _ (front_of_more _ _ _ _ c.in_err-fed.ensures.err)

pub returns-in_err-open_where-clause-err : goal.returns-in_err-open_where-clause-err
returns-in_err-open_where-clause-err g c =
    at_err _ (due_front c.args.key.now c.args.request.now c.args.peer.now.talk c.args.piece.now _ _ _ _ c.in_ok-fed.ensures.ready c.in_ok-fed.ensures.ok c.in_err-open_where.ensures.err)

pub returns-in_err-answer-clause-err : goal.returns-in_err-answer-clause-err
returns-in_err-answer-clause-err g c =
    at_err _ (front_whole _ _ _ (due_added c.args.key.now c.args.request.now c.args.peer.now.talk c.args.piece.now _ _ _ _ c.in_ok-fed.ensures.ready c.in_ok-fed.ensures.ok c.in_ok-open_where.ensures.ok))

pub returns-clause-ok : goal.returns-clause-ok
returns-clause-ok g c =
    due_added c.args.key.now c.args.request.now c.args.peer.now.talk c.args.piece.now _ _ _ _ c.in_ok-fed.ensures.ready c.in_ok-fed.ensures.ok c.in_ok-open_where.ensures.ok

pub returns-clause-taken : goal.returns-clause-taken
returns-clause-taken g c =
    piece_taken c.args.key.now c.args.id.now c.args.peer.now.talk c.args.piece.now _ _ _ _ c.taken_by.ensures c.in_ok-answer.ensures (c.as_slice.ensures ∙ c.in_ok-fed.ensures.messages) c.in_ok-fed.ensures.fault
