-- Which record may follow some.
use Rattle.std.specs.Prelude.{◌+◌, ◌==◌, List, length, Bool, not, ◌&&◌, ◌||◌, is_some, is_none}
use Rattle.cluster_types.specs.declared.record.Record.{Record}
use Rattle.cluster_defs.specs.RecordAnswers.{record_in}

-- it has its outcome, where it is settled and not purged
abbrev pub has_outcome : Record → Bool
has_outcome r = not (is_some r.settled) || (r.purged || is_some r.outcome)

-- it has the next number and an id of its own
abbrev pub is_next : List Record → Record → Bool
is_next records r = r.number == length records + 1 && is_none (record_in records r.id) && has_outcome r
