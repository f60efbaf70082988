use Rattle.std.proofs.Common.{List, reverse, get_or, sym, subst}
use Rattle.std.specs.Prelude.{All}
use Rattle.std.proofs.lemmas.List.{get_or_default}
use Rattle.cluster_types.specs.declared.entry.Entry.{Entry}
use Rattle.cluster_defs.specs.Histories.{Legal}
use Rattle.cluster_state.specs.Plain.{InTime}
use Rattle.cluster_core.specs.Steps.{AllInTime}
use Rattle.cluster_core.proofs.Plans.{time_at}
use Rattle.store_tests.proofs.thinning.thin_of.Goals as goal

in_time : (xs : List Entry) → AllInTime (reverse xs) → All InTime xs
in_time xs time = λ k d lt. time_at xs k (get_or xs k d) lt (get_or_default xs k d (get_or xs k d) lt) time

pub thinned-requires-clause-legal : goal.thinned-requires-clause-legal
thinned-requires-clause-legal c =
    subst (λ (xs : List Entry). Legal (reverse xs)) (sym c.in_ok-entries.ensures) (subst Legal (sym c.history.ensures.is) c.history.ensures.legal)

pub thinned-requires-clause-time : goal.thinned-requires-clause-time
thinned-requires-clause-time c =
    subst (λ (xs : List Entry). All InTime xs) (sym c.in_ok-entries.ensures) (in_time c.history.result.now (subst AllInTime (sym c.history.ensures.is) c.history.ensures.time))
