-- What is kept beside the live engines.
use Rattle.std.specs.Prelude.{◌≡◌, ℕ, List, Option, Bool, true, nat_le}
use Rattle.std.specs.List.{list_all}
use Rattle.cluster_defs.specs.declared.engine.Engine.{Engine}
use Rattle.engine_registry.specs.Places.{on, named, numbered, Tells}
use Rattle.engine_registry.specs.Lone.{are_apart}

-- no mark is below it
abbrev pub is_least : List Engine → ℕ → Bool
is_least live least = list_all (λ e. nat_le least e.mark) live

-- the places of connections, uuids and numbers, whether no two engines are on one connection, and a bound of the marks
pub record Indexed (live : List Engine) (by_conn : ℕ → Option ℕ) (by_uuid : List ℕ → Option ℕ) (by_number : ℕ → Option ℕ) (apart : Bool) (bound : ℕ) : Type 0 where
  pub conns : Tells on live by_conn
  pub uuids : Tells named live by_uuid
  pub numbers : Tells numbered live by_number
  pub lone : apart ≡ true → are_apart live ≡ true
  pub least : is_least live bound ≡ true
