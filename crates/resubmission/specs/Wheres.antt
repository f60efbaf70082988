-- The ids of the records that pass a test.
use Rattle.std.specs.Prelude.{List, [], ◌∷◌, Option, Some, None, Bool, if◌then◌else◌}
use Rattle.cluster_types.specs.declared.record.Record.{Record}
use Rattle.cluster_defs.specs.Words.{Id}

-- the id of a record that is there and passes a test
abbrev pub id_if : (Record → Bool) → Option Record → List Id
id_if p None = []
id_if p (Some r) = if p r then r.id ∷ [] else []
