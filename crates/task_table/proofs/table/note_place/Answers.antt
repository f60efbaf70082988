use Rattle.std.proofs.Common.{string_bytes, Some}
use Rattle.std.proofs.lemmas.Map.Text.{hash_map_updates_text}
use Rattle.task_table.proofs.table.note_place.Goals as goal

pub returns-clause-ok : goal.returns-clause-ok
returns-clause-ok c = λ j.
    let sets = hash_map_updates_text (string_bytes c.in_ok-key.key) c.args.places.now c.insert.new.self (Some c.args.place) c.in_ok-insert.ensures.updates j in
    rw (c.in_ok-key.ensures.ok, c.as_str.ensures) at sets
