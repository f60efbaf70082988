use Rattle.std.proofs.Common.{◌≡◌, ◌-◌, ◌^◌, min, take}
use Rattle.tape_drive.specs.Sizes.{frames_size}
use Rattle.tape_drive.proofs.sizes.frames_size.Given as goal

abbrev pub invariant-loop-place : goal.invariant-loop-place
invariant-loop-place l = l.size ≡ min (frames_size (take l.place l.frames)) (2 ^ 64 - 1)
