use Rattle.std.proofs.Common.{subst}
use Rattle.std.specs.List.Sorted.{IsStrictlySortedBy}
use Rattle.std.specs.Ordering.{nat_cmp}
use Rattle.place_sets.specs.Lanes.{keys_in}
use Rattle.task_graph.specs.Listing.{waiting_for}
use Rattle.task_graph.proofs.waiters.Waiters.of.Goals as goal

pub returns-in-None-clause-sorted : goal.returns-in-None-clause-sorted
unfolding IsStrictlySortedBy
returns-in-None-clause-sorted c =
    subst (λ waits. IsStrictlySortedBy nat_cmp (waiting_for waits c.args.id.now)) c.self.view_is
    (subst (λ id. IsStrictlySortedBy nat_cmp (waiting_for c.self.inside.sets.entries id)) c.as_str.ensures
    (subst (λ o. IsStrictlySortedBy nat_cmp (keys_in o)) c.in-None.ensures.value tt))
