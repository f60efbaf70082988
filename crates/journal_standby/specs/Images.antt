-- The octets of a disk, as they were read.
use Rattle.std.specs.Prelude.{ℕ, List}

-- the octets, and how many calls failed
pub record Copy : Type 0 where
  pub octets : List ℕ
  pub faults : ℕ
