use Rattle.std.proofs.Common.{◌≡◌, ◌≤◌, ℕ, length, take}
use Rattle.cluster_defs.specs.Outs.{outs_on}
use Rattle.cluster_store.specs.Queues.{left_at, room_at}
use Rattle.cluster_store.proofs.queues.Queues.make_rooms.Given as goal

-- nothing moves, and there is room for each out so far
abbrev pub invariant-loop-out : goal.invariant-loop-out
invariant-loop-out l = record {
  left : (c : ℕ) → left_at l.self c ≡ left_at l.fn.self c;
  room : (c : ℕ) → length (outs_on c (take l.out-index l.outs)) ≤ room_at l.self c;
}
