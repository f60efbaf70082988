use Rattle.std.proofs.Common.{List, ℕ, ◌∙◌, Option, subst}
use Rattle.engine_core.specs.State.{standing}
use Rattle.zmtp_peer.specs.PeerStream.{messages}
use Rattle.link_commands.specs.Working.{Opens, WroteAll, WroteSome}
use Rattle.link_commands.proofs.WorkingPieces.{send_of_piece, opening_of_piece, answers_of_piece, piece_is_done}
use Rattle.link_commands.proofs.working.take_piece.Goals as goal
use Rattle.cluster_types.proofs.Options.{at_err}

pub returns-in_err-fed-clause-err : goal.returns-in_err-fed-clause-err
returns-in_err-fed-clause-err g c =
    at_err _ (send_of_piece c.args.key.now (standing c.args.engine.now) c.args.peer.now.talk c.args.piece.now (g.K.Sink.written c.args.writer.now) (g.K.Sink.written c.hear.new.writer) c.in_err-fed.ensures.err)

pub returns-in_err-join_where-clause-err : goal.returns-in_err-join_where-clause-err
returns-in_err-join_where-clause-err g c =
    let o = c.in_err-join_where.ensures.err in
    let added = c.in_ok-fed.ensures.ok in
    at_err _ (opening_of_piece c.args.key.now (standing c.args.engine.now) c.args.peer.now.talk c.args.piece.now o.0 (g.K.Sink.written c.args.writer.now) (g.K.Sink.written c.hear.new.writer) (g.K.Sink.written c.join_where.new.writer) added
    (subst (λ (r : Option (List ℕ)). Opens c.args.key.now c.args.engine.now.uuid r o.0) c.in_ok-fed.ensures.ready o.1) o.2)

pub returns-in_err-answer_all-clause-err : goal.returns-in_err-answer_all-clause-err
returns-in_err-answer_all-clause-err g c =
    let o = c.in_ok-join_where.ensures.ok in
    let added = c.in_ok-fed.ensures.ok in
    at_err _ (answers_of_piece c.args.key.now (standing c.args.engine.now) c.args.peer.now.talk c.args.piece.now o.0 (g.K.Sink.written c.args.writer.now) (g.K.Sink.written c.hear.new.writer) (g.K.Sink.written c.join_where.new.writer) (g.K.Sink.written c.answer_all.new.writer) added
    (subst (λ (r : Option (List ℕ)). Opens c.args.key.now c.args.engine.now.uuid r o.0) c.in_ok-fed.ensures.ready o.1) o.2
    (subst (λ (ms : List (List (List ℕ))). WroteSome c.args.key.now (standing c.args.engine.now) ms (g.K.Sink.written c.join_where.new.writer) (g.K.Sink.written c.answer_all.new.writer)) (c.as_slice.ensures ∙ c.in_ok-fed.ensures.messages) c.in_err-answer_all.ensures.err))

pub returns-clause-ok : goal.returns-clause-ok
returns-clause-ok g c =
    let o = c.in_ok-join_where.ensures.ok in
    let added = c.in_ok-fed.ensures.ok in
    let all : WroteAll c.args.key.now (standing c.args.engine.now) (messages c.args.peer.now.talk c.args.piece.now) (g.K.Sink.written c.join_where.new.writer) (g.K.Sink.written c.answer_all.new.writer) (standing c.answer_all.new.engine) =
    subst (λ (ms : List (List (List ℕ))). WroteAll c.args.key.now (standing c.args.engine.now) ms (g.K.Sink.written c.join_where.new.writer) (g.K.Sink.written c.answer_all.new.writer) (standing c.answer_all.new.engine)) (c.as_slice.ensures ∙ c.in_ok-fed.ensures.messages) c.in_ok-answer_all.ensures.ok in
    piece_is_done c.args.key.now (standing c.args.engine.now) (standing c.answer_all.new.engine) c.args.peer.now.talk c.args.piece.now o.0 all.0 (g.K.Sink.written c.args.writer.now) (g.K.Sink.written c.hear.new.writer) (g.K.Sink.written c.join_where.new.writer) (g.K.Sink.written c.answer_all.new.writer) added
    (subst (λ (r : Option (List ℕ)). Opens c.args.key.now c.args.engine.now.uuid r o.0) c.in_ok-fed.ensures.ready o.1) o.2 all.1 all.2
