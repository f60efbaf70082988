use Rattle.std.proofs.Common.{List, ℕ, subst, ◌∙◌}
use Rattle.cluster_types.proofs.Options.{at_err}
use Rattle.edges.specs.Streams.{Added, AddedFront}
use Rattle.link_messages.proofs.Fronts.{front_none}
use Rattle.link_commands.proofs.dialled.hear.Goals as goal

pub returns-in_err-fed-clause-err : goal.returns-in_err-fed-clause-err
returns-in_err-fed-clause-err g c = at_err _ (front_none _ _)

pub returns-in_err-write-clause-err : goal.returns-in_err-write-clause-err
returns-in_err-write-clause-err g c =
    at_err _ (subst (λ (xs : List ℕ). AddedFront xs (g.K.Sink.written c.args.writer.now) (g.K.Sink.written c.write.new.writer)) (c.as_slice.ensures ∙ c.in_ok-fed.ensures.sent) c.in_err-write.ensures.err.1)

pub returns-clause-ok : goal.returns-clause-ok
returns-clause-ok g c =
    subst (λ (xs : List ℕ). Added xs (g.K.Sink.written c.args.writer.now) (g.K.Sink.written c.write.new.writer)) (c.as_slice.ensures ∙ c.in_ok-fed.ensures.sent) c.in_ok-write.ensures.ok
