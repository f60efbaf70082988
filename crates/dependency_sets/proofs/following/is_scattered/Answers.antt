use Rattle.std.proofs.Common.{ap, sym, ◌∙◌}
use Rattle.std.specs.List.{list_any}
use Rattle.cluster_defs.specs.Dependencies.{apart}
use Rattle.dependency_sets.proofs.Scattered.{scattered_by_first, scattered_none}
use Rattle.dependency_sets.proofs.following.is_scattered.Goals as goal

pub returns-in-Some : goal.returns-in-Some
returns-in-Some g c =
    let s = g.F.Finished.finished c.args.finished.now in
    let ids = c.args.ids.now in
    c.any_apart.ensures ∙ ap (λ o. list_any (λ j. apart o (s j)) ids) c.settled.ensures ∙ scattered_by_first s ids c.in-Some.first.now (sym c.in-Some.ensures)

pub returns-in-None : goal.returns-in-None
returns-in-None g c = sym (scattered_none (g.F.Finished.finished c.args.finished.now) c.args.ids.now (sym c.in-None.ensures))
