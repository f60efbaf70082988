use Rattle.std.proofs.Common.{◌≡◌, ◌++◌, drop, length}
use Rattle.zmtp_peer.specs.Message.{message_written}
use Rattle.zmtp_peer.proofs.writing.message_octets.Given as goal

-- what is written, and what is left, are the whole message
abbrev pub invariant-loop-place : goal.invariant-loop-place
invariant-loop-place l = record {
  count : l.count ≡ length l.frames;
  so_far : l.octets.items ++ message_written (drop l.place l.frames) ≡ message_written l.frames;
}
