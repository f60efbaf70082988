use Rattle.std.proofs.Common.{◌≡◌, ◌∙◌, List, ℕ, Option, Some, None, Err, sym, ap, subst, arith}
use Rattle.engine_core.specs.State.{standing}
use Rattle.zmtp_peer.specs.PeerStream.{Talk, fault_of}
use Rattle.link_commands.proofs.WorkingGoing.{Going, begun, front_greeting, goes_on, ends_with, front_here, front_in_piece}
use Rattle.link_commands.proofs.working.serve_engine.Goals as goal

pub returns-in-Err-clause-front : goal.returns-in-Err-clause-front
returns-in-Err-clause-front g c =
    front_greeting c.args.key.now (standing c.args.engine.now) (g.S.Source.left c.args.reader.now) (g.K.Sink.written c.args.writer.now) (g.K.Sink.written c.greet.new.writer) c.in-Err.ensures.err

pub loop-init : goal.loop-init
loop-init g c = record {
  going = subst (λ (t : Talk). Going c.args.key.now (standing c.args.engine.now) (g.S.Source.left c.args.reader.now) (g.S.Source.left c.args.reader.now) (g.K.Sink.written c.args.writer.now) (g.K.Sink.written c.greet.new.writer) (standing c.args.engine.now) t) (sym c.in-Ok.ensures.talk)
      (begun c.args.key.now (standing c.args.engine.now) (g.S.Source.left c.args.reader.now) (g.K.Sink.written c.args.writer.now) (g.K.Sink.written c.greet.new.writer) c.in-Ok.ensures.ok);
  faultless = ap (λ (t : Talk). fault_of t.phase) c.in-Ok.ensures.talk;
  reads = omega arith;
  writes = omega (arith, c.greet.ensures.later);
}

pub returns-in-Err-read-clause-ended : goal.returns-in-Err-read-clause-ended
returns-in-Err-read-clause-ended g c =
    λ is. (
      ends_with c.args.key.now (standing c.args.engine.now) (standing c.loop.engine) (g.S.Source.left c.args.reader.now) (g.S.Source.left c.read.new.reader) (g.K.Sink.written c.args.writer.now) (g.K.Sink.written c.loop.writer) c.loop.peer.talk None (subst (λ (r : Option (List ℕ)). Going c.args.key.now (standing c.args.engine.now) (g.S.Source.left c.args.reader.now) r (g.K.Sink.written c.args.writer.now) (g.K.Sink.written c.loop.writer) (standing c.loop.engine) c.loop.peer.talk) (sym c.in-Err-read.ensures.still) c.loop.invariant.going) c.loop.invariant.faultless,
      c.in-Err-read.ensures.ended (ap Err is),
    )

pub returns-in-Err-read-clause-front : goal.returns-in-Err-read-clause-front
returns-in-Err-read-clause-front g c = front_here c.args.key.now (standing c.args.engine.now) (standing c.loop.engine) (g.S.Source.left c.args.reader.now) (g.S.Source.left c.read.new.reader) (g.K.Sink.written c.args.writer.now) (g.K.Sink.written c.loop.writer) c.loop.peer.talk (subst (λ (r : Option (List ℕ)). Going c.args.key.now (standing c.args.engine.now) (g.S.Source.left c.args.reader.now) r (g.K.Sink.written c.args.writer.now) (g.K.Sink.written c.loop.writer) (standing c.loop.engine) c.loop.peer.talk) (sym c.in-Err-read.ensures.still) c.loop.invariant.going)

pub returns-in-Ok-Some-clause-fault : goal.returns-in-Ok-Some-clause-fault
returns-in-Ok-Some-clause-fault g c =
    λ f is.
    let same : Some c.in-Ok-Some.fault ≡ Some f = cc in
    ends_with c.args.key.now (standing c.args.engine.now) (standing c.take_piece.new.engine) (g.S.Source.left c.args.reader.now) (g.S.Source.left c.read.new.reader) (g.K.Sink.written c.args.writer.now) (g.K.Sink.written c.take_piece.new.writer) _ (Some f) (goes_on c.args.key.now (standing c.args.engine.now) (standing c.loop.engine) (standing c.take_piece.new.engine) (g.S.Source.left c.args.reader.now) (g.S.Source.left c.loop.reader) (g.S.Source.left c.read.new.reader) (g.K.Sink.written c.args.writer.now) (g.K.Sink.written c.loop.writer) (g.K.Sink.written c.take_piece.new.writer) c.loop.peer.talk _ c.loop.invariant.going c.in-Ok-read.ensures.ok c.in-Ok-Some.ensures.ok) (sym c.in-Ok-Some.ensures.fault ∙ c.in-Ok-Some.field-0-is ∙ same)

pub returns-in-Ok-Some-clause-front : goal.returns-in-Ok-Some-clause-front
returns-in-Ok-Some-clause-front g c = front_here c.args.key.now (standing c.args.engine.now) (standing c.take_piece.new.engine) (g.S.Source.left c.args.reader.now) (g.S.Source.left c.read.new.reader) (g.K.Sink.written c.args.writer.now) (g.K.Sink.written c.take_piece.new.writer) _ (goes_on c.args.key.now (standing c.args.engine.now) (standing c.loop.engine) (standing c.take_piece.new.engine) (g.S.Source.left c.args.reader.now) (g.S.Source.left c.loop.reader) (g.S.Source.left c.read.new.reader) (g.K.Sink.written c.args.writer.now) (g.K.Sink.written c.loop.writer) (g.K.Sink.written c.take_piece.new.writer) c.loop.peer.talk _ c.loop.invariant.going c.in-Ok-read.ensures.ok c.in-Ok-Some.ensures.ok)

pub returns-in-Err-take_piece-clause-front : goal.returns-in-Err-take_piece-clause-front
returns-in-Err-take_piece-clause-front g c =
    front_in_piece c.args.key.now (standing c.args.engine.now) (standing c.loop.engine) (g.S.Source.left c.args.reader.now) (g.S.Source.left c.loop.reader) (g.S.Source.left c.read.new.reader) (g.K.Sink.written c.args.writer.now) (g.K.Sink.written c.loop.writer) (g.K.Sink.written c.take_piece.new.writer) c.loop.peer.talk _ c.loop.invariant.going c.in-Ok-read.ensures.ok c.in-Err-take_piece.ensures.err

pub loop-preserved : goal.loop-preserved
loop-preserved g c = record {
  going = subst (λ (t : Talk). Going c.args.key.now (standing c.args.engine.now) (g.S.Source.left c.args.reader.now) (g.S.Source.left c.read.new.reader) (g.K.Sink.written c.args.writer.now) (g.K.Sink.written c.take_piece.new.writer) (standing c.take_piece.new.engine) t) (sym c.in-Ok-None.ensures.talk) (goes_on c.args.key.now (standing c.args.engine.now) (standing c.loop.engine) (standing c.take_piece.new.engine) (g.S.Source.left c.args.reader.now) (g.S.Source.left c.loop.reader) (g.S.Source.left c.read.new.reader) (g.K.Sink.written c.args.writer.now) (g.K.Sink.written c.loop.writer) (g.K.Sink.written c.take_piece.new.writer) c.loop.peer.talk _ c.loop.invariant.going c.in-Ok-read.ensures.ok c.in-Ok-None.ensures.ok);
  faultless = ap (λ (t : Talk). fault_of t.phase) c.in-Ok-None.ensures.talk ∙ sym c.in-Ok-None.ensures.fault ∙ c.in-Ok-None.field-0-is;
  reads = omega (arith, c.in-Ok-read.ensures.later, c.loop.invariant.reads);
  writes = omega (arith, c.take_piece.ensures.later, c.loop.invariant.writes);
}
