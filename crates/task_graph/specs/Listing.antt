-- Tasks that wait for others, by the id that they wait for.
use Rattle.std.specs.Prelude.{◌≡◌, ◌==◌, ◌&&◌, ◌||◌, ℕ, List, Option, Bool, false, not, take, String, bytes_eq, string_bytes}
use Rattle.std.specs.Global.{Global}
use Rattle.std.specs.List.{list_any}
use Rattle.std.specs.Map.{lookup}
use Rattle.std.specs.BTreeSet.{BTreeSet}
use Rattle.place_sets.specs.Lanes.{in_set, keys_in}

-- for each id a set of places
abbrev pub Waits : Type 0
Waits = List (String Global × BTreeSet ℕ)

abbrev pub set_of : Waits → List ℕ → Option (BTreeSet ℕ)
set_of waits id = lookup (λ k. bytes_eq id (string_bytes k)) waits

-- the places of the tasks that wait for an id, ascending
abbrev pub waiting_for : Waits → List ℕ → List ℕ
waiting_for waits id = keys_in (set_of waits id)

-- whether the task at a place waits for an id
abbrev pub is_waiting : Waits → List ℕ → ℕ → Bool
is_waiting waits id place = in_set (set_of waits id) place

-- whether some ids list an id
abbrev pub lists : List (List ℕ) → List ℕ → Bool
lists ids id = list_any (λ i. bytes_eq i id) ids

-- the task at a place waits for the ids of some kind too
abbrev pub Noted : (List ℕ → Bool) → ℕ → Waits → Waits → Type 0
Noted kind place old new = (j : List ℕ) (i : ℕ) → is_waiting new j i ≡ ((kind j && (i == place)) || is_waiting old j i)

-- it waits for the first of some ids too, as many as there may be
abbrev pub NotedInPart : List (List ℕ) → ℕ → Waits → Waits → Type 0
NotedInPart ids place old new = (many : ℕ) × Noted (lists (take many ids)) place old new

-- it waits for none of them any more
abbrev pub TakenOut : (List ℕ → Bool) → ℕ → Waits → Waits → Type 0
TakenOut kind place old new = (j : List ℕ) (i : ℕ) → is_waiting new j i ≡ (not (kind j && (i == place)) && is_waiting old j i)

-- all is as it was, but whether it waits for them
abbrev pub SameBut : (List ℕ → Bool) → ℕ → Waits → Waits → Type 0
SameBut kind place old new = (j : List ℕ) (i : ℕ) → (kind j && (i == place)) ≡ false → is_waiting new j i ≡ is_waiting old j i

-- each task waits for what it waited for
abbrev pub SameWaits : Waits → Waits → Type 0
SameWaits old new = (j : List ℕ) (i : ℕ) → is_waiting new j i ≡ is_waiting old j i
