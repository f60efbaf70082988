-- How far octets were written.
use Rattle.std.specs.Prelude.{◌≡◌, ℕ, List, ◌++◌, Option}
use Rattle.edges.specs.Streams.{Added}

-- of these octets a front was written, and the rest is still to come
pub record Sent (octets : List ℕ) (before now : Option (List ℕ)) (rest : List ℕ) : Type 0 where
  pub front : List ℕ
  pub parts : octets ≡ front ++ rest
  pub added : Added front before now

-- a front of these octets was written
abbrev pub SentSome : List ℕ → (before now : Option (List ℕ)) → Type 0
SentSome octets before now = (rest : List ℕ) × Sent octets before now rest
