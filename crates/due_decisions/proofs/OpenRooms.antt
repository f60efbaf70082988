-- Engines with room, by what is kept of them.
use Rattle.std.proofs.Common.{◌≡◌, ap, ◌∙◌, ℕ, List, [], ◌∷◌, ◌++◌, Bool, true, false, ◌||◌, map, refl}
use Rattle.std.specs.Prelude.{◌==◌, filter}
use Rattle.std.specs.List.{list_any}
use Rattle.cluster_defs.specs.declared.engine.Engine.{Engine}
use Rattle.cluster_defs.specs.Engines.{lists_number}
use Rattle.place_sets.specs.Counts.{count_of}
use Rattle.place_sets.specs.Flags.{is_set}
use Rattle.task_table.specs.Seen.{Seen}
use Rattle.task_table.specs.Loading.{load_in, Counts}
use Rattle.due_decisions.specs.declared.rooms.Room.{Room}
use Rattle.cluster_defs.specs.Scheduling.{leaves_room}
use Rattle.due_decisions.specs.Table.{rooms_in}
use Rattle.cluster_types.proofs.Booleans.{or_swap}
use Rattle.cluster_types.proofs.Lists.{same_map}

any_push : {X : Type 0} (p : X → Bool) (xs : List X) (x : X) → (p x || list_any p xs) ≡ list_any p (xs ++ x ∷ [])
any_push p [] x = refl
any_push p (y ∷ xs) x = or_swap (p x) (p y) (list_any p xs) ∙ ap (λ b. p y || b) (any_push p xs x)

-- a room more
pub open_more : (rs : List Room) (r : Room) (old new : List Bool) → ((n : ℕ) → is_set old n ≡ list_any (λ r. r.engine == n) rs) → ((n : ℕ) → is_set new n ≡ (r.engine == n || is_set old n)) → (n : ℕ) → is_set new n ≡ list_any (λ r. r.engine == n) (rs ++ r ∷ [])
open_more rs r old new is sets n = sets n ∙ ap (λ b. r.engine == n || b) (is n) ∙ any_push (λ (x : Room). x.engine == n) rs r

-- the loads that right counts tell
pub rooms_counted : (ts : List Seen) (counts by_use : List ℕ) (engines : List Engine) (hwm : ℕ) → Counts ts counts
    → filter (λ (r : Room). leaves_room hwm r.load) (map (λ n. let r : Room = record { engine = n; load = count_of counts n } in r) (filter (λ n. lists_number n engines) by_use)) ≡ rooms_in ts engines hwm by_use
rooms_counted ts counts by_use engines hwm is =
    ap (filter (λ (r : Room). leaves_room hwm r.load)) (same_map (λ n. let r : Room = record { engine = n; load = count_of counts n } in r) (λ n. let r : Room = record { engine = n; load = load_in ts n } in r)
    (λ n. ap (λ l. let r : Room = record { engine = n; load = l } in r) (is n)) (filter (λ n. lists_number n engines) by_use))
