-- A plain list of records, as a list.
use Rattle.std.specs.Prelude.{List}
use Rattle.cluster_types.specs.declared.record.Record.{Record}
use Rattle.resubmission.specs.declared.list.RecordList.{RecordList}

abbrev pub listed : RecordList → List Record
listed l = l.items.items
