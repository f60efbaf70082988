-- What is known of each task, as one list of records in order of number.
use Rattle.std.specs.Prelude.{List, map, None, if◌then◌else◌, option_map}
use Rattle.cluster_types.specs.declared.record.Record.{Record}
use Rattle.cluster_defs.specs.Words.{Id}
use Rattle.cluster_defs.specs.Tasks.{engine_of, runs}
use Rattle.cluster_defs.specs.Facts.{Facts, is_direct_id}
use Rattle.cluster_defs.specs.Outcomes.{number_of, outcome}

-- a task's record: its last engine, whether it runs, how it was settled, and its outcome until it is purged
abbrev pub record_of : Facts → Id → Record
record_of f id = record {
  id = id;
  number = number_of f id;
  direct = is_direct_id f id;
  engine = engine_of (f.task id).last;
  running = runs (f.task id).last;
  settled = option_map (λ s. (s.verdict, s.cause)) (f.settled id);
  purged = f.purged id;
  outcome = if f.purged id then None else outcome f id;
}

abbrev pub records_of : Facts → List Record
records_of f = map (record_of f) f.known
