use Rattle.std.proofs.Common.{◌≡◌, ℕ, take}
use Rattle.std.specs.Prelude.{◌==◌}
use Rattle.std.specs.List.{list_any}
use Rattle.place_sets.specs.Flags.{is_set}
use Rattle.due_decisions.proofs.rooms.open_numbers.Given as goal

abbrev pub invariant-loop-room : goal.invariant-loop-room
invariant-loop-room l = (n : ℕ) → is_set l.open.items n ≡ list_any (λ r. r.engine == n) (take l.room-index l.rooms)
