use Rattle.std.proofs.Common.{◌≡◌, [], subst, MatchOption}
use Rattle.thread_edges.specs.Links.{IsUnused}
use Rattle.thread_edges.proofs.Firsts.{first_of}
use Rattle.thread_edges.proofs.memory.Links.take_first.Goals as goal

pub returns-clause-cases : goal.returns-clause-cases
returns-clause-cases c = subst (λ old. MatchOption c.pop_front.result (old ≡ []) IsUnused) c.self.view_is (first_of IsUnused _ _ _ c.pop_front.ensures.items c.self.invariant c.pop_front.ensures.rest)
