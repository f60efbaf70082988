use Rattle.std.proofs.Common.{◌≡◌, ◌++◌, ◌≤◌, ◌-◌, drop, length}
use Rattle.zmtp_peer.specs.PeerStream.{talked, sent, identity, or_later, messages}
use Rattle.zmtp_peer.proofs.peer.Peer.octets.Given as goal

-- what is left of the piece gives what the whole piece gives
abbrev pub invariant-loop-at : goal.invariant-loop-at
invariant-loop-at l = record {
  within : l.at ≤ length l.piece;
  talked : talked l.self.talk (drop l.at l.piece) ≡ talked l.fn.self.talk l.piece;
  sent : l.send.items ++ sent l.self.talk (drop l.at l.piece) ≡ sent l.fn.self.talk l.piece;
  ready : or_later l.ready (identity l.self.talk (drop l.at l.piece)) ≡ identity l.fn.self.talk l.piece;
  messages : l.messages ++ messages l.self.talk (drop l.at l.piece) ≡ messages l.fn.self.talk l.piece;
  spent : l.self.spent ≡ l.fn.self.spent;
}

abbrev pub decreases-loop-at : goal.decreases-loop-at
decreases-loop-at l = length l.piece - l.at
