use Rattle.std.proofs.Common.{◌∙◌, List, [], ℕ, sym, subst}
use Rattle.std.specs.Prelude.{All}
use Rattle.history_lock.specs.Names.{known}
use Rattle.zmtp_peer.specs.Limits.{IsShortMessage}
use Rattle.session_threads.specs.Reading.{Entered, EnteredFront}
use Rattle.session_threads.proofs.Entering.{front_none}
use Rattle.session_threads.proofs.reading.take_piece.Goals as goal
use Rattle.cluster_types.proofs.Options.{at_err}

pub returns-in_err-fed-clause-err : goal.returns-in_err-fed-clause-err
returns-in_err-fed-clause-err g c = at_err _ (front_none _ _ _ _)

pub hear_all-requires-clause-short : goal.hear_all-requires-clause-short
hear_all-requires-clause-short g c = subst (λ (ms : List (List (List ℕ))). All IsShortMessage ms) (sym c.as_slice.ensures) c.in_ok-fed.ensures.short_messages

pub returns-in_err-hear_all-clause-err : goal.returns-in_err-hear_all-clause-err
returns-in_err-hear_all-clause-err g c =
    at_err _ (subst (λ (ms : List (List (List ℕ))). EnteredFront c.args.context.now.key.now c.args.connection.number ms (known c.args.pass.now) (known c.hear_all.new.pass)) (c.as_slice.ensures ∙ c.in_ok-fed.ensures.messages) c.in_err-hear_all.ensures.err)

pub returns-clause-ok : goal.returns-clause-ok
returns-clause-ok g c =
    subst (λ (ms : List (List (List ℕ))). Entered c.args.context.now.key.now c.args.connection.number ms [] (known c.args.pass.now) (known c.hear_all.new.pass)) (c.as_slice.ensures ∙ c.in_ok-fed.ensures.messages) c.in_ok-hear_all.ensures.ok
