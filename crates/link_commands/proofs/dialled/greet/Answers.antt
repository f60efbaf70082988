use Rattle.std.proofs.Common.{List, ℕ, subst, ap}
use Rattle.cluster_types.proofs.Options.{at_err}
use Rattle.edges.specs.Streams.{Added, AddedFront}
use Rattle.zmtp_peer.specs.PeerStream.{Held}
use Rattle.link_commands.proofs.dialled.greet.Goals as goal

pub returns-in_err-write-clause-err : goal.returns-in_err-write-clause-err
returns-in_err-write-clause-err g c =
    at_err _ (subst (λ (xs : List ℕ). AddedFront xs (g.K.Sink.written c.args.writer.now) (g.K.Sink.written c.write.new.writer)) c.greeting.ensures c.in_err-write.ensures.err.1)

pub returns-clause-ok : goal.returns-clause-ok
returns-clause-ok g c = subst (λ (xs : List ℕ). Added xs (g.K.Sink.written c.args.writer.now) (g.K.Sink.written c.write.new.writer)) c.greeting.ensures c.in_ok-write.ensures.ok

pub returns-clause-talk : goal.returns-clause-talk
returns-clause-talk g c = ap (λ (h : Held). h.talk) c.new-peer.ensures
