-- How many ids a queue reply has, in the place of which.
use Rattle.std.specs.Prelude.{length}
use Rattle.cluster_defs.specs.Texts.{EngineQueue}
use Rattle.hub_queries.specs.declared.lengths.Lengths.{Lengths}

-- the lengths of an engine's lists
abbrev pub lengths_of : EngineQueue → Lengths
lengths_of engine = record { queue = length engine.queue; completed = length engine.completed; tasks = length engine.tasks }
