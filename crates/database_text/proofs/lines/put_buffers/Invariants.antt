use Rattle.std.proofs.Common.{◌≡◌, ◌++◌, map, take}
use Rattle.std.specs.List.{flat_map}
use Rattle.database_text.specs.Lines.{hexadecimal, field}
use Rattle.database_text.proofs.lines.put_buffers.Given as goal

abbrev pub invariant-loop-buffer : goal.invariant-loop-buffer
invariant-loop-buffer l = l.into.items ≡ l.fn.into.items ++ flat_map field (map hexadecimal (take l.buffer-index l.buffers))
