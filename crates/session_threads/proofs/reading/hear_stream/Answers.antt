use Rattle.std.proofs.Common.{◌≡◌, ◌∙◌, List, [], ℕ, Some, Err, sym, ap, subst}
use Rattle.std.specs.Prelude.{All}
use Rattle.history_lock.specs.Names.{known}
use Rattle.zmtp_peer.specs.Limits.{IsShortMessage}
use Rattle.session_threads.specs.Ends.{EndsHearing}
use Rattle.session_threads.specs.Reading.{Entered, EnteredFront}
use Rattle.session_threads.proofs.Causes.{cause_since}
use Rattle.session_threads.proofs.Going.{heard_early, front_of, front_early, front_behind, with_behind}
use Rattle.session_threads.proofs.reading.hear_stream.Goals as goal

pub hear_all-requires-clause-short : goal.hear_all-requires-clause-short
hear_all-requires-clause-short g c = subst (λ (ms : List (List (List ℕ))). All IsShortMessage ms) (sym c.as_slice.ensures) c.requires.short

pub returns-in-Err-clause-front : goal.returns-in-Err-clause-front
returns-in-Err-clause-front g c =
    front_early _ _ _ _ _ _ _ (subst (λ (ms : List (List (List ℕ))). EnteredFront c.args.context.now.key.now c.args.connection.number ms (known c.args.pass.now) (known c.hear_all.new.pass)) c.as_slice.ensures c.in-Err.ensures.err)

pub returns-in-Err-clause-ended : goal.returns-in-Err-clause-ended
returns-in-Err-clause-ended g c = λ is. absurd (subst EndsHearing is c.in-Err.ensures.ends)

pub returns-in-Err-clause-fault : goal.returns-in-Err-clause-fault
returns-in-Err-clause-fault g c = λ f is. absurd (subst EndsHearing is c.in-Err.ensures.ends)

pub returns-in-Err-clause-link : goal.returns-in-Err-clause-link
returns-in-Err-clause-link g c = λ is. absurd (subst EndsHearing is c.in-Err.ensures.ends)

pub returns-in-Err-clause-closed : goal.returns-in-Err-clause-closed
returns-in-Err-clause-closed g c = λ is. c.in-Err.ensures.closed (ap Err is)

pub returns-in-Some-clause-front : goal.returns-in-Some-clause-front
returns-in-Some-clause-front g c =
    front_of _ _ _ _ _ _ _ _ _ (heard_early _ _ _ c.args.greeted.peer.talk _ _ _ (subst (λ (ms : List (List (List ℕ))). Entered c.args.context.now.key.now c.args.connection.number ms [] (known c.args.pass.now) (known c.hear_all.new.pass)) c.as_slice.ensures c.in-Ok.ensures.ok))

pub returns-in-Some-clause-fault : goal.returns-in-Some-clause-fault
returns-in-Some-clause-fault g c =
    λ f is.
    let same : Some c.in-Some.fault ≡ Some f = cc in (
      c.args.greeted.peer.talk,
      heard_early _ _ _ c.args.greeted.peer.talk _ _ _ (subst (λ (ms : List (List (List ℕ))). Entered c.args.context.now.key.now c.args.connection.number ms [] (known c.args.pass.now) (known c.hear_all.new.pass)) c.as_slice.ensures c.in-Ok.ensures.ok),
      sym c.fault.ensures ∙ c.in-Some.is ∙ same,
    )

pub returns-clause-front : goal.returns-clause-front
returns-clause-front g c =
    front_behind _ _ _ _ _ _ _ _ _ (subst (λ (ms : List (List (List ℕ))). Entered c.args.context.now.key.now c.args.connection.number ms [] (known c.args.pass.now) (known c.hear_all.new.pass)) c.as_slice.ensures c.in-Ok.ensures.ok) c.read_on.ensures.front

pub returns-clause-ended : goal.returns-clause-ended
returns-clause-ended g c =
    λ is.
    let h = c.read_on.ensures.ended is in
    (with_behind _ _ _ _ _ _ _ _ _ _ (subst (λ (ms : List (List (List ℕ))). Entered c.args.context.now.key.now c.args.connection.number ms [] (known c.args.pass.now) (known c.hear_all.new.pass)) c.as_slice.ensures c.in-Ok.ensures.ok) h.0, h.1)

pub returns-clause-fault : goal.returns-clause-fault
returns-clause-fault g c =
    λ f is. with_behind _ _ _ _ _ _ _ _ _ _ (subst (λ (ms : List (List (List ℕ))). Entered c.args.context.now.key.now c.args.connection.number ms [] (known c.args.pass.now) (known c.hear_all.new.pass)) c.as_slice.ensures c.in-Ok.ensures.ok) (c.read_on.ensures.fault f is)

pub returns-clause-link : goal.returns-clause-link
returns-clause-link g c =
    λ is.
    let h = c.read_on.ensures.link is in
    (with_behind _ _ _ _ _ _ _ _ _ _ (subst (λ (ms : List (List (List ℕ))). Entered c.args.context.now.key.now c.args.connection.number ms [] (known c.args.pass.now) (known c.hear_all.new.pass)) c.as_slice.ensures c.in-Ok.ensures.ok) h.0, h.1)

pub returns-clause-cause : goal.returns-clause-cause
returns-clause-cause g c =
    let e = subst (λ (ms : List (List (List ℕ))). Entered c.args.context.now.key.now c.args.connection.number ms [] (known c.args.pass.now) (known c.hear_all.new.pass)) c.as_slice.ensures c.in-Ok.ensures.ok in
    cause_since _ _ _ _ e.adds.later c.read_on.ensures.cause
