use Rattle.std.proofs.Common.{◌≡◌, take, drop, find}
use Rattle.jupyter_parts.specs.Signed.{is_target}
use Rattle.jupyter_parts.proofs.read.target.Given as goal

abbrev pub invariant-loop-place : goal.invariant-loop-place
invariant-loop-place l = find is_target (take l.end l.frames) ≡ find is_target (drop l.place (take l.end l.frames))
