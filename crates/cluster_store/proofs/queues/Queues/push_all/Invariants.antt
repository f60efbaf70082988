use Rattle.std.proofs.Common.{◌≡◌, ◌≤◌, ◌++◌, ℕ, length}
use Rattle.cluster_defs.specs.Outs.{outs_on}
use Rattle.cluster_store.specs.Queues.{left_at, room_at, waits}
use Rattle.cluster_store.proofs.queues.Queues.push_all.Given as goal

-- those that came wait, and there is room for those to come
abbrev pub invariant-loop-out : goal.invariant-loop-out
invariant-loop-out l = record {
  left : (c : ℕ) → left_at l.self c ≡ left_at l.fn.self c ++ waits l.need (outs_on c l.yielded);
  room : (c : ℕ) → length (outs_on c l.out-iterator.rest.items) ≤ room_at l.self c;
}
