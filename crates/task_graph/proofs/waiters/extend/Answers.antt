use Rattle.std.proofs.Common.{◌≡◌, ℕ, List, bytes_eq, ap, subst, ◌∙◌, ◌||◌}
use Rattle.std.specs.Prelude.{◌==◌}
use Rattle.std.specs.HashMap.{get_by_text}
use Rattle.std.proofs.lemmas.Map.Text.{hash_map_updates_text}
use Rattle.std.proofs.Common.{Some}
use Rattle.place_sets.specs.Lanes.{in_set}
use Rattle.place_sets.proofs.Exact.{exactly_added}
use Rattle.task_graph.specs.Listing.{Noted}
use Rattle.task_graph.proofs.Lists.{noted, stays}
use Rattle.task_graph.proofs.waiters.extend.Goals as goal
use Rattle.cluster_types.proofs.Options.{has_one, at_err}

pub returns-in_ok-add-in-Some-clause-ok : goal.returns-in_ok-add-in-Some-clause-ok
returns-in_ok-add-in-Some-clause-ok c = λ _.
    let m = c.args.sets.now in
    let set = c.add.new.set in
    let n = c.get_mut.follows.lender set in
    let key = c.as_str.result.now in
    subst (λ i. Noted (bytes_eq i) c.args.place m.entries n.entries) c.as_str.ensures
    (noted (get_by_text m) (get_by_text n) key set c.args.place (hash_map_updates_text key m n (Some set) ((c.get_mut.follows.holds set).3 (has_one _ _ c.in-Some.ensures.value)))
    (λ i. exactly_added c.in-Some.set.now set c.args.place c.in_ok-add-in-Some.ensures.there c.add.ensures.grows c.add.ensures.only i ∙ ap (λ o. (i == c.args.place) || in_set o i) c.in-Some.ensures.value))

pub returns-in_err-add-in-Some-clause-err : goal.returns-in_err-add-in-Some-clause-err
returns-in_err-add-in-Some-clause-err c =
    let m = c.args.sets.now in
    let set = c.add.new.set in
    let n = c.get_mut.follows.lender set in
    let key = c.as_str.result.now in
    at_err c.from_residual.result (stays (get_by_text m) (get_by_text n) key set c.args.place (hash_map_updates_text key m n (Some set) ((c.get_mut.follows.holds set).3 (has_one _ _ c.in-Some.ensures.value)))
    (λ i. c.in_err-add-in-Some.ensures.err i ∙ ap (λ o. in_set o i) c.in-Some.ensures.value))
