use Rattle.std.proofs.Common.{◌≡◌, ◌++◌, take}
use Rattle.std.specs.List.{flat_map}
use Rattle.quick_commands.specs.Generated.{engine_records}
use Rattle.quick_commands.proofs.records.push_engines.Given as goal

abbrev pub invariant-loop-conn : goal.invariant-loop-conn
invariant-loop-conn l = l.records.items ≡ l.fn.records.items ++ flat_map engine_records (take l.conn-index l.conns)
