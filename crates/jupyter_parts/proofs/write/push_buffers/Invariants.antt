use Rattle.std.proofs.Common.{◌≡◌, ◌++◌, take}
use Rattle.jupyter_parts.proofs.write.push_buffers.Given as goal

abbrev pub invariant-loop-buffer : goal.invariant-loop-buffer
invariant-loop-buffer l = l.frames ≡ l.fn.frames ++ take l.buffer-index l.buffer-items
