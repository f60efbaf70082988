use Rattle.std.proofs.Common.{◌≡◌, ◌∙◌, List, ℕ, Some, Ok, Err, sym, ap, subst, arith}
use Rattle.zmtp_peer.specs.PeerStream.{Talk, fault_of}
use Rattle.link_messages.specs.declared.end.SessionEnd.TheVariants.{ZmtpFault}
use Rattle.edges.specs.Streams.{AddedFront}
use Rattle.link_messages.proofs.Shaking.{Shaking, greeting_front, shaking_on, shaking_front, shaking_refused, shaking_done}
use Rattle.link_messages.proofs.greeting.greet.Goals as goal
use Rattle.cluster_types.proofs.Options.{at_err}

pub returns-in_err-write-clause-front : goal.returns-in_err-write-clause-front
returns-in_err-write-clause-front g c =
    at_err _ (greeting_front _ _ _ (subst (λ (xs : List ℕ). AddedFront xs (g.K.Sink.written c.args.writer.now) (g.K.Sink.written c.write.new.writer)) c.greeting.ensures c.in_err-write.ensures.err.1))

pub returns-in-Err-clause-front : goal.returns-in-Err-clause-front
returns-in-Err-clause-front g c = shaking_front _ _ _ _ _ _ c.loop.peer.talk _ c.loop.invariant.shaking c.in-Bytes.ensures.reads.2 c.in-Err.ensures.err

pub returns-in-Err-clause-fault : goal.returns-in-Err-clause-fault
returns-in-Err-clause-fault g c =
    λ f is.
    let same : c.in-Err.end ≡ ZmtpFault f = cc in
    let h = c.in-Err.ensures.fault f (ap Err same) in
    shaking_refused _ _ _ _ _ (Some f) (shaking_on _ _ _ _ _ _ c.loop.peer.talk _ c.loop.invariant.shaking c.in-Bytes.ensures.reads.2 h.2 h.0) h.1

pub returns-in-Ok-Some-clause-ok : goal.returns-in-Ok-Some-clause-ok
returns-in-Ok-Some-clause-ok g c =
    let h = rw c.in-Ok-Some.field-0-is at c.in-Ok-Some.ensures.some in
    shaking_done _ _ _ _ _ _ c.loop.peer.talk _ _ _ _ c.loop.invariant.shaking c.in-Bytes.ensures.reads.2 c.in-Ok-Some.ensures.sent c.in-Ok-Some.ensures.talk h

pub loop-preserved : goal.loop-preserved
loop-preserved g c =
    let n = c.in-Ok-None.ensures.none (ap Ok c.in-Ok-None.field-0-is) in
    record {
      shaking = subst (λ (t : Talk). Shaking (g.S.Source.left c.args.reader.now) (g.S.Source.left c.read.new.self) (g.K.Sink.written c.args.writer.now) (g.K.Sink.written c.take_piece.new.writer) t) (sym c.in-Ok-None.ensures.talk)
          (shaking_on _ _ _ _ _ _ c.loop.peer.talk _ c.loop.invariant.shaking c.in-Bytes.ensures.reads.2 c.in-Ok-None.ensures.sent n.0);
      faultless = ap (λ (t : Talk). fault_of t.phase) c.in-Ok-None.ensures.talk ∙ n.1;
      reads = let cause = c.in-Bytes.ensures.cause in let before = c.loop.invariant.reads in omega (arith, cause, before);
      writes = let later = c.take_piece.ensures.later in let before = c.loop.invariant.writes in omega (arith, later, before);
    }
