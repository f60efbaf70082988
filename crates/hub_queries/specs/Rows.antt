-- What is kept for each engine of a queue reply.
use Rattle.std.specs.Prelude.{ℕ, List, Bool}
use Rattle.cluster_types.specs.declared.record.Record.{Record}
use Rattle.cluster_defs.specs.RecordAnswers.{queue_in}
use Rattle.hub_queries.specs.Tallies.{tallied}
use Rattle.hub_queries.specs.declared.rows.Row.{Row}

-- the tallies of an engine's queue, off some records
abbrev pub row_of : Bool → List Record → ℕ → Row
row_of verbose records n = record {
  number = n;
  queue = tallied verbose (queue_in records n).queue;
  completed = tallied verbose (queue_in records n).completed;
  tasks = tallied verbose (queue_in records n).tasks;
}
