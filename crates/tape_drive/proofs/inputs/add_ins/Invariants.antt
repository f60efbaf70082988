use Rattle.std.proofs.Common.{◌≡◌, ◌++◌, take}
use Rattle.std.specs.List.{flat_map}
use Rattle.tape_drive.specs.Inputs.{in_of}
use Rattle.tape_drive.proofs.inputs.add_ins.Given as goal

abbrev pub invariant-loop-frames : goal.invariant-loop-frames
invariant-loop-frames l = l.inputs.items ≡ l.fn.inputs.items ++ flat_map (in_of l.key l.from.conn l.from.moment l.from.word) (take l.frames-index l.messages)
