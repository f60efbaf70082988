use Rattle.std.proofs.Common.{string_bytes, Some, sym}
use Rattle.std.specs.HashMap.{get_by_text}
use Rattle.std.proofs.lemmas.Map.Text.{hash_map_updates_text}
use Rattle.task_graph.proofs.Lists.{noted, alone_noted}
use Rattle.task_graph.proofs.waiters.begin.Goals as goal

pub returns-clause-ok : goal.returns-clause-ok
returns-clause-ok c =
    let old = get_by_text c.args.sets.now in
    let new = get_by_text c.insert.new.self in
    let set = c.in_ok-set.set in
    noted old new c.args.id.now set c.args.place
    (λ j. let sets = hash_map_updates_text (string_bytes c.in_ok-key.key) c.args.sets.now c.insert.new.self (Some set) c.in_ok-insert.ensures.updates j in
    rw (c.in_ok-key.ensures.ok, c.as_str.ensures) at sets)
    (alone_noted set (old c.args.id.now) c.args.place c.requires c.in_ok-set.ensures.there c.in_ok-set.ensures.only)
