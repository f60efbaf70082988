use Rattle.std.proofs.Common.{◌≤◌, All, sym, subst}
use Rattle.cluster_types.specs.Limits.{last_moment}
use Rattle.thread_edges.proofs.Moments.{after_within}
use Rattle.thread_edges.proofs.clock.ListClockClock.now.Goals as goal

pub invariant_of-self : goal.invariant_of-self
invariant_of-self c = subst (λ xs. All (λ m. m ≤ last_moment) xs) (sym c.next.ensures.1) (after_within last_moment _ c.self.invariant)
