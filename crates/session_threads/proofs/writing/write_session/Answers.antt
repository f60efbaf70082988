use Rattle.std.proofs.Common.{◌∙◌, List, ℕ, refl, subst, arith, le_refl}
use Rattle.edges.specs.Streams.{Added, AddedFront}
use Rattle.session_threads.proofs.Sending.{sent_none, sent_more, whole, front_now, front_more}
use Rattle.session_threads.proofs.writing.write_session.Goals as goal
use Rattle.link_messages.proofs.Fronts.{front_none}

pub loop-init : goal.loop-init
loop-init g c = record { idle = c.requires.idle; room = refl; sent = sent_none _ _ _ _; writes = le_refl _ }

pub returns-in-Err-clause-front : goal.returns-in-Err-clause-front
returns-in-Err-clause-front g c =
    let t = c.in-Err.ensures.err in
    front_more _ _ _ _ _ _ _ _ t.0 c.loop.invariant.sent t.1 (front_none t.0 _)

pub returns-in-Err-write-clause-front : goal.returns-in-Err-write-clause-front
returns-in-Err-write-clause-front g c =
    front_more _ _ _ _ _ _ _ _ c.in-Ok.batch.octets.items c.loop.invariant.sent c.in-Ok.ensures.ok
    (subst (λ (xs : List ℕ). AddedFront xs (g.K.Sink.written c.loop.writer) (g.K.Sink.written c.write.new.writer)) c.as_slice.ensures.value c.in-Err-write.ensures.err.1)

pub returns-in-Closed-clause-front : goal.returns-in-Closed-clause-front
returns-in-Closed-clause-front g c =
    front_now _ _ _ _ _ _ (sent_more _ _ _ _ _ _ _ _ c.in-Ok.batch.octets.items c.loop.invariant.sent c.in-Ok.ensures.ok
    (subst (λ (xs : List ℕ). Added xs (g.K.Sink.written c.loop.writer) (g.K.Sink.written c.write.new.writer)) c.as_slice.ensures.value c.in-Ok-write.ensures.ok))

pub returns-in-Closed-clause-whole : goal.returns-in-Closed-clause-whole
returns-in-Closed-clause-whole g c =
    λ _. whole _ _ _ _ _ _ (sent_more _ _ _ _ _ _ _ _ c.in-Ok.batch.octets.items c.loop.invariant.sent c.in-Ok.ensures.ok
    (subst (λ (xs : List ℕ). Added xs (g.K.Sink.written c.loop.writer) (g.K.Sink.written c.write.new.writer)) c.as_slice.ensures.value c.in-Ok-write.ensures.ok))

pub loop-preserved : goal.loop-preserved
loop-preserved g c = record {
  idle = c.in-Ok.ensures.idle;
  room = c.in-Ok.ensures.room ∙ c.loop.invariant.room;
  sent = sent_more _ _ _ _ _ _ _ _ c.in-Ok.batch.octets.items c.loop.invariant.sent c.in-Ok.ensures.ok
      (subst (λ (xs : List ℕ). Added xs (g.K.Sink.written c.loop.writer) (g.K.Sink.written c.write.new.writer)) c.as_slice.ensures.value c.in-Ok-write.ensures.ok);
  writes = let later = c.write.ensures.later in let before = c.loop.invariant.writes in omega (arith, later, before);
}
