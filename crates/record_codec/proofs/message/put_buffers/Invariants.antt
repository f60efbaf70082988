use Rattle.std.proofs.Common.{◌≡◌, ◌++◌, take}
use Rattle.record_codec.specs.Spelling.{blobs}
use Rattle.record_codec.proofs.message.put_buffers.Given as goal

abbrev pub invariant-loop-buffer : goal.invariant-loop-buffer
invariant-loop-buffer l = l.into.items ≡ l.fn.into.items ++ blobs (take l.buffer-index l.buffers)
