use Rattle.std.proofs.Common.{◌≡◌, ◌-◌}
use Rattle.record_codec.specs.Reading.{blobs_at}
use Rattle.record_codec.proofs.Loops.{with_front}
use Rattle.record_codec.proofs.message.buffers.Given as goal

abbrev pub invariant-loop : goal.invariant-loop
invariant-loop l = with_front l.list (blobs_at (l.count - l.counter) l.rest) ≡ blobs_at l.count l.octets
