use Rattle.std.proofs.Common.{sym, subst}
use Rattle.session_threads.specs.Ends.{EndsStream, KeepsEnd}
use Rattle.session_threads.proofs.Finishing.{cause_of_both, rests_of_both, gone_of_both}
use Rattle.session_threads.proofs.Going.{reads_front, reads_whole}
use Rattle.session_threads.proofs.reading.read_session.Goals as goal

pub returns-clause-front : goal.returns-clause-front
returns-clause-front g c = reads_front _ _ _ _ _ _ _ _ _ c.hear_stream-end.ensures.front c.finish-end.ensures.down

pub returns-clause-ended : goal.returns-clause-ended
returns-clause-ended g c =
    λ is.
    let h = c.hear_stream-end.ensures.ended (subst (KeepsEnd c.hear_stream-end.result) is c.finish-end.ensures.keeps) in
    (reads_whole _ _ _ _ _ _ _ _ _ _ h.0 c.finish-end.ensures.down (c.finish-end.ensures.gone (subst EndsStream (sym is) tt)), h.1)

pub returns-clause-fault : goal.returns-clause-fault
returns-clause-fault g c =
    λ f is.
    let h = c.hear_stream-end.ensures.fault f (subst (KeepsEnd c.hear_stream-end.result) is c.finish-end.ensures.keeps) in
    reads_whole _ _ _ _ _ _ _ _ _ _ h c.finish-end.ensures.down (c.finish-end.ensures.gone (subst EndsStream (sym is) tt))

pub returns-clause-link : goal.returns-clause-link
returns-clause-link g c =
    λ is.
    let h = c.hear_stream-end.ensures.link (subst (KeepsEnd c.hear_stream-end.result) is c.finish-end.ensures.keeps) in
    (reads_whole _ _ _ _ _ _ _ _ _ _ h.0 c.finish-end.ensures.down (c.finish-end.ensures.gone (subst EndsStream (sym is) tt)), h.1)

pub returns-clause-closed : goal.returns-clause-closed
returns-clause-closed g c =
    λ is.
    let closed = subst (KeepsEnd c.hear_stream-end.result) is c.finish-end.ensures.keeps in
    gone_of_both c.hear_stream-end.result _ _ _ (c.hear_stream-end.ensures.closed closed).0 (c.finish-end.ensures.closed closed)

pub returns-clause-cause : goal.returns-clause-cause
returns-clause-cause g c =
    cause_of_both c.hear_stream-end.result c.finish-end.result _ _ _ c.hear_stream-end.ensures.front.entered.entered.adds.later c.finish-end.ensures.down.adds.later c.hear_stream-end.ensures.cause c.finish-end.ensures.cause

pub returns-clause-rests : goal.returns-clause-rests
returns-clause-rests g c = rests_of_both c.hear_stream-end.result _ _ (λ is. (c.hear_stream-end.ensures.closed is).1) c.finish-end.ensures.closed c.finish-end.ensures.rests
