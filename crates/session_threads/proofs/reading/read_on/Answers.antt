use Rattle.std.proofs.Common.{◌≡◌, ◌∙◌, List, [], ℕ, Option, Some, Err, refl, sym, ap, subst, arith, le_refl}
use Rattle.history_lock.specs.Names.{known}
use Rattle.zmtp_peer.specs.PeerStream.{Talk, fault_of}
use Rattle.session_threads.specs.Ends.{EndsHearing}
use Rattle.session_threads.specs.Reading.{Heard}
use Rattle.session_threads.proofs.Causes.{cause_since}
use Rattle.session_threads.proofs.Going.{heard_none, heard_piece, front_of, front_in_piece}
use Rattle.session_threads.proofs.reading.read_on.Goals as goal

pub loop-init : goal.loop-init
loop-init g c = record { idle = c.requires.idle; room = refl; heard = heard_none _ _ _ _ _; faultless = c.requires.faultless; reads = le_refl _ }

pub returns-in-End-clause-front : goal.returns-in-End-clause-front
returns-in-End-clause-front g c = front_of _ _ _ _ c.loop.peer.talk _ _ _ _ (subst (λ (r : Option (List ℕ)). Heard c.args.context.now.key.now c.args.connection.number [] c.args.peer.talk c.loop.peer.talk (g.S.Source.left c.args.reader.now) r (known c.args.pass.now) (known c.loop.pass)) (sym c.in-End.ensures.reads.1) c.loop.invariant.heard)

pub returns-in-End-clause-ended : goal.returns-in-End-clause-ended
returns-in-End-clause-ended g c =
    λ _. (
      (c.loop.peer.talk, subst (λ (r : Option (List ℕ)). Heard c.args.context.now.key.now c.args.connection.number [] c.args.peer.talk c.loop.peer.talk (g.S.Source.left c.args.reader.now) r (known c.args.pass.now) (known c.loop.pass)) (sym c.in-End.ensures.reads.1) c.loop.invariant.heard, c.loop.invariant.faultless),
      λ octets is. c.in-End.ensures.reads.0 octets (sym c.in-End.ensures.reads.1 ∙ is),
    )

pub returns-in-Failed-clause-front : goal.returns-in-Failed-clause-front
returns-in-Failed-clause-front g c = front_of _ _ _ _ c.loop.peer.talk _ _ _ _ (subst (λ (r : Option (List ℕ)). Heard c.args.context.now.key.now c.args.connection.number [] c.args.peer.talk c.loop.peer.talk (g.S.Source.left c.args.reader.now) r (known c.args.pass.now) (known c.loop.pass)) (sym c.in-Failed.ensures.reads) c.loop.invariant.heard)

pub returns-in-Failed-clause-link : goal.returns-in-Failed-clause-link
returns-in-Failed-clause-link g c =
    λ _. (
      (c.loop.peer.talk, subst (λ (r : Option (List ℕ)). Heard c.args.context.now.key.now c.args.connection.number [] c.args.peer.talk c.loop.peer.talk (g.S.Source.left c.args.reader.now) r (known c.args.pass.now) (known c.loop.pass)) (sym c.in-Failed.ensures.reads) c.loop.invariant.heard, c.loop.invariant.faultless),
      (let cause = c.in-Failed.ensures.cause.1 in let before = c.loop.invariant.reads in omega (arith, cause, before)),
    )

pub returns-in-Ok-Some-clause-front : goal.returns-in-Ok-Some-clause-front
returns-in-Ok-Some-clause-front g c =
    front_of _ _ _ _ _ _ _ _ _ (heard_piece _ _ _ _ c.loop.peer.talk _ _ _ _ _ _ _ c.loop.invariant.heard c.in-Bytes.ensures.reads.2 c.in-Ok-Some.ensures.ok)

pub returns-in-Ok-Some-clause-fault : goal.returns-in-Ok-Some-clause-fault
returns-in-Ok-Some-clause-fault g c =
    λ f is.
    let same : Some c.in-Ok-Some.fault ≡ Some f = cc in (
      _,
      heard_piece _ _ _ _ c.loop.peer.talk _ _ _ _ _ _ _ c.loop.invariant.heard c.in-Bytes.ensures.reads.2 c.in-Ok-Some.ensures.ok,
      sym c.in-Ok-Some.ensures.fault ∙ c.in-Ok-Some.field-0-is ∙ same,
    )

pub returns-in-Err-clause-front : goal.returns-in-Err-clause-front
returns-in-Err-clause-front g c = front_in_piece _ _ _ _ c.loop.peer.talk _ _ _ _ _ _ _ c.loop.invariant.heard c.in-Bytes.ensures.reads.2 c.in-Err.ensures.err

pub returns-in-Err-clause-ended : goal.returns-in-Err-clause-ended
returns-in-Err-clause-ended g c = λ is. absurd (subst EndsHearing is c.in-Err.ensures.ends)

pub returns-in-Err-clause-fault : goal.returns-in-Err-clause-fault
returns-in-Err-clause-fault g c = λ f is. absurd (subst EndsHearing is c.in-Err.ensures.ends)

pub returns-in-Err-clause-link : goal.returns-in-Err-clause-link
returns-in-Err-clause-link g c = λ is. absurd (subst EndsHearing is c.in-Err.ensures.ends)

pub returns-in-Err-clause-closed : goal.returns-in-Err-clause-closed
returns-in-Err-clause-closed g c = λ is. c.in-Err.ensures.closed (ap Err is)

pub returns-in-Err-clause-cause : goal.returns-in-Err-clause-cause
returns-in-Err-clause-cause g c = cause_since _ _ _ _ c.loop.invariant.heard.entered.adds.later c.in-Err.ensures.cause

pub loop-preserved : goal.loop-preserved
loop-preserved g c = record {
  idle = c.in-Ok-None.ensures.idle;
  room = c.in-Ok-None.ensures.room ∙ c.loop.invariant.room;
  heard = subst (λ (t : Talk). Heard c.args.context.now.key.now c.args.connection.number [] c.args.peer.talk t (g.S.Source.left c.args.reader.now) (g.S.Source.left c.read.new.self) (known c.args.pass.now) (known c.take_piece.new.pass)) (sym c.in-Ok-None.ensures.talk)
      (heard_piece _ _ _ _ c.loop.peer.talk _ _ _ _ _ _ _ c.loop.invariant.heard c.in-Bytes.ensures.reads.2 c.in-Ok-None.ensures.ok);
  faultless = ap (λ (t : Talk). fault_of t.phase) c.in-Ok-None.ensures.talk ∙ sym c.in-Ok-None.ensures.fault ∙ c.in-Ok-None.field-0-is;
  reads = let cause = c.in-Bytes.ensures.cause in let before = c.loop.invariant.reads in omega (arith, cause, before);
}
