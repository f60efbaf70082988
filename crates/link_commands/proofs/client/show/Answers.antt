use Rattle.std.proofs.Common.{[], ◌∷◌, ◌++◌, ℕ, List, subst}
use Rattle.edges.specs.Streams.{Added, AddedFront}
use Rattle.link_messages.proofs.Fronts.{front_behind, front_of_more, front_take}
use Rattle.link_commands.proofs.client.show.Goals as goal

pub returns-in_err-write_all-clause-part : goal.returns-in_err-write_all-clause-part
returns-in_err-write_all-clause-part g c = λ is.
    subst (λ (xs : List ℕ). AddedFront (xs ++ 10 ∷ []) (g.K.Sink.written c.args.output.now) (g.K.Sink.written c.write_all.new.sink)) c.content-2.ensures
    (front_of_more c.content-2.result.now (10 ∷ []) _ _ (front_take c.content-2.result.now c.in_err-write_all.ensures.err.0 _ _ c.in_err-write_all.ensures.err.2))

pub returns-in_err-write_all-2-clause-part : goal.returns-in_err-write_all-2-clause-part
returns-in_err-write_all-2-clause-part g c = λ is.
    subst (λ (xs : List ℕ). AddedFront (xs ++ 10 ∷ []) (g.K.Sink.written c.args.output.now) (g.K.Sink.written c.write_all-2.new.sink)) c.content-2.ensures
    (front_behind c.content-2.result.now (10 ∷ []) _ _ _ c.in_ok-write_all.ensures.ok (front_take (10 ∷ []) c.in_err-write_all-2.ensures.err.0 _ _ c.in_err-write_all-2.ensures.err.2))
