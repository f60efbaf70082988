use Rattle.std.proofs.Common.{◌≡◌, ◌++◌, drop}
use Rattle.jupyter_parts.proofs.read.buffers.Given as goal

abbrev pub invariant-loop-place : goal.invariant-loop-place
invariant-loop-place l = l.buffers ++ drop l.place l.frames ≡ drop l.from l.frames
