use Rattle.std.proofs.Common.{◌≡◌, ◌++◌, take}
use Rattle.std.specs.List.{flat_map}
use Rattle.edges.specs.Spelling.{blob}
use Rattle.tape.proofs.writing.put_frames.Given as goal

abbrev pub invariant-loop-place : goal.invariant-loop-place
invariant-loop-place l = l.into.items ≡ l.fn.into.items ++ flat_map blob (take l.place l.frames)
