use Rattle.std.proofs.Common.{◌≡◌, ◌-◌, ◌^◌, min, take, length}
use Rattle.std.specs.Prelude.{sum_by}
use Rattle.tape_drive.proofs.rules.octets_of.Given as goal

abbrev pub invariant-loop-place : goal.invariant-loop-place
invariant-loop-place l = l.size ≡ min (sum_by length (take l.place l.frames)) (2 ^ 64 - 1)
