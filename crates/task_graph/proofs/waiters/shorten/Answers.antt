use Rattle.std.proofs.Common.{bytes_eq, Some, ap, subst, ◌∙◌, ◌&&◌, not}
use Rattle.std.specs.Prelude.{◌==◌}
use Rattle.std.specs.HashMap.{get_by_text}
use Rattle.std.proofs.lemmas.Map.Text.{hash_map_updates_text}
use Rattle.place_sets.specs.Lanes.{in_set}
use Rattle.place_sets.proofs.Exact.{exactly_left_out}
use Rattle.task_graph.specs.Listing.{TakenOut}
use Rattle.task_graph.proofs.Lists.{taken}
use Rattle.task_graph.proofs.waiters.shorten.Goals as goal
use Rattle.cluster_types.proofs.Options.{has_one}

pub returns-in-Some : goal.returns-in-Some
returns-in-Some c =
    let m = c.args.sets.now in
    let set = c.leave_out.new.set in
    let n = c.get_mut.follows.lender set in
    let key = c.as_str.result.now in
    subst (λ i. TakenOut (bytes_eq i) c.args.place m.entries n.entries) c.as_str.ensures
    (taken (get_by_text m) (get_by_text n) key set c.args.place (hash_map_updates_text key m n (Some set) ((c.get_mut.follows.holds set).3 (has_one _ _ c.in-Some.ensures.value)))
    (λ i. exactly_left_out c.in-Some.set.now set c.args.place c.leave_out.ensures.stay c.leave_out.ensures.gone c.leave_out.ensures.only i ∙ ap (λ o. not (i == c.args.place) && in_set o i) c.in-Some.ensures.value))
