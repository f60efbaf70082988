use Rattle.std.proofs.Common.{None}
use Rattle.std.proofs.lemmas.Map.Text.{hash_map_updates_text}
use Rattle.engine_registry.proofs.by_uuid.take_out.Goals as goal

pub returns : goal.returns
returns c = λ j.
    let sets = hash_map_updates_text c.as_str.result.now c.args.places.now c.remove.new.self None c.remove.ensures.updates j in
    rw c.as_str.ensures at sets
