use Rattle.std.proofs.Common.{◌≡◌, ◌∙◌, List, ℕ, Option, Some, None, sym, ap, subst, arith}
use Rattle.link_commands.proofs.FirstAnswer.{answer_taken, fault_taken, nothing_taken}
use Rattle.link_commands.proofs.AskingGoing.{Going, begun, goes_on, answers_here, unanswered, front_greeting, front_here, front_in_piece}
use Rattle.link_commands.proofs.asking.ask_under.Goals as goal
use Rattle.link_messages.proofs.Fronts.{front_whole}
use Rattle.zmtp_peer.specs.PeerStream.{Talk, fault_of}

pub returns-in_err-peer-clause-front : goal.returns-in_err-peer-clause-front
returns-in_err-peer-clause-front g c =
    front_greeting c.args.key.now c.args.request.now (g.S.Source.left c.args.reader.now) (g.K.Sink.written c.args.writer.now) (g.K.Sink.written c.greet.new.writer) c.in_err-peer.ensures.err

pub loop-init : goal.loop-init
loop-init g c = record {
  going = subst (λ (t : Talk). Going c.args.key.now c.args.request.now (g.S.Source.left c.args.reader.now) (g.S.Source.left c.args.reader.now) (g.K.Sink.written c.args.writer.now) (g.K.Sink.written c.greet.new.writer) t) (sym c.in_ok-peer.ensures.talk)
      (begun c.args.key.now c.args.request.now (g.S.Source.left c.args.reader.now) (g.K.Sink.written c.args.writer.now) (g.K.Sink.written c.greet.new.writer) c.in_ok-peer.ensures.ok);
  faultless = ap (λ (t : Talk). fault_of t.phase) c.in_ok-peer.ensures.talk;
  reads = omega arith;
  writes = omega (arith, c.greet.ensures.later);
}

pub returns-in-Err-clause-ended : goal.returns-in-Err-clause-ended
returns-in-Err-clause-ended g c =
    λ is. (
      unanswered c.args.key.now c.args.request.now (g.S.Source.left c.args.reader.now) (g.S.Source.left c.read.new.reader) (g.K.Sink.written c.args.writer.now) (g.K.Sink.written c.loop.writer) c.loop.peer.talk None (subst (λ (r : Option (List ℕ)). Going c.args.key.now c.args.request.now (g.S.Source.left c.args.reader.now) r (g.K.Sink.written c.args.writer.now) (g.K.Sink.written c.loop.writer) c.loop.peer.talk) (sym c.in-Err.ensures.still) c.loop.invariant.going) c.loop.invariant.faultless,
      c.in-Err.ensures.ended (cc),
    )

pub returns-in-Err-clause-front : goal.returns-in-Err-clause-front
returns-in-Err-clause-front g c = front_here c.args.key.now c.args.request.now (g.S.Source.left c.args.reader.now) (g.S.Source.left c.read.new.reader) (g.K.Sink.written c.args.writer.now) (g.K.Sink.written c.loop.writer) c.loop.peer.talk (subst (λ (r : Option (List ℕ)). Going c.args.key.now c.args.request.now (g.S.Source.left c.args.reader.now) r (g.K.Sink.written c.args.writer.now) (g.K.Sink.written c.loop.writer) c.loop.peer.talk) (sym c.in-Err.ensures.still) c.loop.invariant.going)

pub returns-in_err-taken-clause-front : goal.returns-in_err-taken-clause-front
returns-in_err-taken-clause-front g c =
    front_in_piece c.args.key.now c.args.request.now (g.S.Source.left c.args.reader.now) (g.S.Source.left c.loop.reader) (g.S.Source.left c.read.new.reader) (g.K.Sink.written c.args.writer.now) (g.K.Sink.written c.loop.writer) (g.K.Sink.written c.take_piece.new.writer) c.loop.peer.talk _ c.loop.invariant.going c.in-Ok.ensures.ok c.in_err-taken.ensures.err

pub returns-in-Answer-clause-answered : goal.returns-in-Answer-clause-answered
returns-in-Answer-clause-answered g c =
    answers_here c.args.key.now c.args.request.now c.args.id.now (g.S.Source.left c.args.reader.now) (g.S.Source.left c.loop.reader) (g.S.Source.left c.read.new.reader) (g.K.Sink.written c.args.writer.now) (g.K.Sink.written c.loop.writer) (g.K.Sink.written c.take_piece.new.writer) c.loop.peer.talk _ _ c.requires.id c.loop.invariant.going c.in-Ok.ensures.ok c.in_ok-taken.ensures.ok (answer_taken _ _ _ _ c.in_ok-taken.ensures.taken c.in-Answer.is)

pub returns-in-Answer-clause-front : goal.returns-in-Answer-clause-front
returns-in-Answer-clause-front g c =
    front_in_piece c.args.key.now c.args.request.now (g.S.Source.left c.args.reader.now) (g.S.Source.left c.loop.reader) (g.S.Source.left c.read.new.reader) (g.K.Sink.written c.args.writer.now) (g.K.Sink.written c.loop.writer) (g.K.Sink.written c.take_piece.new.writer) c.loop.peer.talk _ c.loop.invariant.going c.in-Ok.ensures.ok (front_whole _ _ _ c.in_ok-taken.ensures.ok)

pub returns-in-Fault-clause-fault : goal.returns-in-Fault-clause-fault
returns-in-Fault-clause-fault g c =
    λ f is.
    let same : Some c.in-Fault.fault ≡ Some f = cc in
    let ends = fault_taken _ _ _ c.in-Fault.fault c.in_ok-taken.ensures.taken c.in-Fault.is in
    unanswered c.args.key.now c.args.request.now (g.S.Source.left c.args.reader.now) (g.S.Source.left c.read.new.reader) (g.K.Sink.written c.args.writer.now) (g.K.Sink.written c.take_piece.new.writer) _ (Some f) (goes_on c.args.key.now c.args.request.now c.args.id.now (g.S.Source.left c.args.reader.now) (g.S.Source.left c.loop.reader) (g.S.Source.left c.read.new.reader) (g.K.Sink.written c.args.writer.now) (g.K.Sink.written c.loop.writer) (g.K.Sink.written c.take_piece.new.writer) c.loop.peer.talk _ c.requires.id c.loop.invariant.going c.in-Ok.ensures.ok c.in_ok-taken.ensures.ok ends.0) (ends.1 ∙ same)

pub returns-in-Fault-clause-front : goal.returns-in-Fault-clause-front
returns-in-Fault-clause-front g c =
    front_in_piece c.args.key.now c.args.request.now (g.S.Source.left c.args.reader.now) (g.S.Source.left c.loop.reader) (g.S.Source.left c.read.new.reader) (g.K.Sink.written c.args.writer.now) (g.K.Sink.written c.loop.writer) (g.K.Sink.written c.take_piece.new.writer) c.loop.peer.talk _ c.loop.invariant.going c.in-Ok.ensures.ok (front_whole _ _ _ c.in_ok-taken.ensures.ok)

pub loop-preserved : goal.loop-preserved
loop-preserved g c =
    let ends = nothing_taken _ _ _ c.in_ok-taken.ensures.taken c.in-Nothing.is in
    record {
      going = subst (λ (t : Talk). Going c.args.key.now c.args.request.now (g.S.Source.left c.args.reader.now) (g.S.Source.left c.read.new.reader) (g.K.Sink.written c.args.writer.now) (g.K.Sink.written c.take_piece.new.writer) t) (sym c.in_ok-taken.ensures.talk) (goes_on c.args.key.now c.args.request.now c.args.id.now (g.S.Source.left c.args.reader.now) (g.S.Source.left c.loop.reader) (g.S.Source.left c.read.new.reader) (g.K.Sink.written c.args.writer.now) (g.K.Sink.written c.loop.writer) (g.K.Sink.written c.take_piece.new.writer) c.loop.peer.talk _ c.requires.id c.loop.invariant.going c.in-Ok.ensures.ok c.in_ok-taken.ensures.ok ends.0);
      faultless = ap (λ (t : Talk). fault_of t.phase) c.in_ok-taken.ensures.talk ∙ ends.1;
      reads = omega (arith, c.in-Ok.ensures.later, c.loop.invariant.reads);
      writes = omega (arith, c.in_ok-taken.ensures.later, c.loop.invariant.writes);
    }
