-- How a listed id stands, by its record.
use Rattle.std.specs.Prelude.{Option, Bool, not, ◌&&◌, is_some, is_none}
use Rattle.cluster_types.specs.declared.record.Record.{Record}
use Rattle.cluster_defs.specs.RecordAnswers.{gone_as, is_settled_record}
use Rattle.resubmission.specs.declared.standing.Standing.{Standing}
use Rattle.resubmission.specs.declared.standing.Standing.TheVariants.{Unknown, Gone, Purged, Inflight, Settled}

-- whether an id that has this record, or none, stands so
abbrev pub stands : Standing → Option Record → Bool
stands Unknown r = is_none r
stands Gone r = gone_as r
stands Purged r = is_some r && gone_as r
stands Inflight r = not (is_settled_record r)
stands Settled r = is_settled_record r
