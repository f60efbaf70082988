-- Where engines stand in a list, by a key of theirs.
use Rattle.std.specs.Prelude.{◌≡◌, ℕ, List, slice_get, Option, Some, None, Bool, true, ◌==◌, if◌then◌else◌, find, bytes_eq}
use Rattle.std.specs.Option.{is_some, option_and_then}
use Rattle.cluster_defs.specs.declared.engine.Engine.{Engine}

abbrev pub on : ℕ → Engine → Bool
on conn e = e.conn == conn

abbrev pub named : List ℕ → Engine → Bool
named uuid e = bytes_eq e.uuid uuid

abbrev pub numbered : ℕ → Engine → Bool
numbered number e = e.number == number

abbrev pub passing : (Engine → Bool) → Option Engine → Option Engine
passing p None = None
passing p (Some e) = if p e then Some e else None

-- the engine at a place, where it passes a test
abbrev pub engine_at : List Engine → (Engine → Bool) → Option ℕ → Option Engine
engine_at live p place = passing p (option_and_then (slice_get live) place)

-- at the place of a key is the first engine that has it; where none has it, the place tells nothing
abbrev pub Tells : {K : Type 0} → (K → Engine → Bool) → List Engine → (K → Option ℕ) → Type 0
Tells {K} test live place_of = (k : K) → engine_at live (test k) (place_of k) ≡ find (test k) live

-- the keys of these engines have the places that they had
abbrev pub Keeps : {K : Type 0} → (K → Engine → Bool) → List Engine → (K → Option ℕ) → (K → Option ℕ) → Type 0
Keeps {K} test live old new = (k : K) → is_some (find (test k) live) ≡ true → new k ≡ old k

-- the keys of these engines have some place
abbrev pub HasEach : {K : Type 0} → (K → Engine → Bool) → List Engine → (K → Option ℕ) → Type 0
HasEach {K} test live place_of = (k : K) → is_some (find (test k) live) ≡ true → is_some (place_of k) ≡ true
