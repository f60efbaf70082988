use Rattle.std.proofs.Common.{◌≡◌, cond, bytes_eq, Some, true, subst, ◌&&◌}
use Rattle.std.specs.HashMap.{get_by_text}
use Rattle.std.specs.Option.{is_some}
use Rattle.std.proofs.lemmas.Map.Text.{hash_map_updates_text}
use Rattle.engine_registry.proofs.Telling.{pointed}
use Rattle.engine_registry.proofs.by_uuid.point.Goals as goal
use Rattle.cluster_types.proofs.Options.{has_one}

pub returns-in-Some : goal.returns-in-Some
returns-in-Some c = λ j.
    let m = c.args.places.now in
    let n = c.get_mut.follows.lender c.args.place in
    let key = c.as_str.result.now in
    let there : is_some (get_by_text m key) ≡ true = has_one (get_by_text m key) _ c.in-Some.ensures.value in
    subst (λ i. get_by_text n j ≡ cond (bytes_eq i j && is_some (get_by_text m j)) (Some c.args.place) (get_by_text m j)) c.as_str.ensures
    (pointed (get_by_text m) key j (Some c.args.place) (get_by_text n j) there
    (hash_map_updates_text key m n (Some c.args.place) ((c.get_mut.follows.holds c.args.place).3 there) j))
