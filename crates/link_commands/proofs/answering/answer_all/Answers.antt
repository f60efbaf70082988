use Rattle.std.proofs.Common.{List, ℕ, subst, arith}
use Rattle.edges.specs.Streams.{Added, AddedFront}
use Rattle.link_commands.proofs.WorkingPieces.{some_here, some_next, all_next}
use Rattle.link_commands.proofs.answering.answer_all.Goals as goal
use Rattle.cluster_types.proofs.Options.{at_err}

pub returns-in_err-octets-clause-err : goal.returns-in_err-octets-clause-err
returns-in_err-octets-clause-err g c = at_err _ (some_here _ _ _ c.args.messages.now c.loop-frames.frames-index _ _ c.loop-frames.invariant.wrote)

pub returns-in_err-write-clause-err : goal.returns-in_err-write-clause-err
returns-in_err-write-clause-err g c =
    at_err _ (some_next _ _ _ _ c.args.messages.now c.loop-frames.frames-index c.frames-item.result c.in_ok-octets.octets.items _ _ _ (omega arith) c.frames-item.is c.loop-frames.invariant.wrote c.in_ok-octets.ensures
    (subst (λ (xs : List ℕ). AddedFront xs (g.K.Sink.written c.loop-frames.writer) (g.K.Sink.written c.write.new.writer)) c.as_slice.ensures.value c.in_err-write.ensures.err.1))

pub loop-frames-preserved : goal.loop-frames-preserved
loop-frames-preserved g c = record {
  wrote = all_next _ _ _ _ c.args.messages.now c.loop-frames.frames-index c.frames-item.result c.in_ok-octets.octets.items _ _ _ (omega arith) c.frames-item.is c.loop-frames.invariant.wrote c.in_ok-octets.ensures
      (subst (λ (xs : List ℕ). Added xs (g.K.Sink.written c.loop-frames.writer) (g.K.Sink.written c.write.new.writer)) c.as_slice.ensures.value c.in_ok-write.ensures.ok);
  later = omega (arith, c.in_ok-write.ensures.later);
}
