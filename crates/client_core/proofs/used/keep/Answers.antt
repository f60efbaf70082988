use Rattle.std.proofs.Common.{◌≡◌, Some, None, true, false, option_map, ap, ◌∙◌}
use Rattle.std.specs.Option.{option_map_or}
use Rattle.client_core.specs.declared.stand.Stand.TheVariants.{Unsettled}
use Rattle.client_core.specs.declared.task.Task.TheVariants.{Open as TaskOpen}
use Rattle.client_core.specs.Clients.{used_in, stand_of, is_unsettled, unsettled}
use Rattle.client_core.proofs.Entries.{set_of, lookup_of}
use Rattle.client_core.proofs.Counts.{unsettled_same}
use Rattle.client_core.proofs.used.keep.Goals as goal

pub returns-in-Some-clause-watched : goal.returns-in-Some-clause-watched
returns-in-Some-clause-watched g c =
    let task = TaskOpen (Some c.args.watcher) in
    ap used_in (c.get_mut.follows.holds task).0 ∙ set_of c.args.used.now.entries c.args.id.now task

pub returns-in-Some-clause-counted : goal.returns-in-Some-clause-counted
returns-in-Some-clause-counted g c =
    let task = TaskOpen (Some c.args.watcher) in
    ap unsettled (ap used_in (c.get_mut.follows.holds task).0 ∙ set_of c.args.used.now.entries c.args.id.now task)
    ∙ unsettled_same (used_in c.args.used.now.entries) c.args.id.now true (ap (λ s. option_map_or is_unsettled s false) c.requires)

pub returns-in_default-clause-watched : goal.returns-in_default-clause-watched
returns-in_default-clause-watched g c =
    let none : None ≡ Some (Unsettled false) = ap (option_map stand_of) c.in_default.ensures.value ∙ lookup_of c.args.used.now.entries c.args.id.now ∙ c.requires in
    absurd (cc)
