use Rattle.std.proofs.Common.{◌≡◌, ◌-◌, ◌^◌, min, length, take}
use Rattle.record_codec.specs.Spelling.{blobs}
use Rattle.record_codec.proofs.size.size_of_buffers.Given as goal

abbrev pub invariant-loop-buffer : goal.invariant-loop-buffer
invariant-loop-buffer l = l.size ≡ min (length (blobs (take l.buffer-index l.buffers))) (2 ^ 64 - 1)
