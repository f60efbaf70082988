-- What codes do to the values of names.
use Rattle.std.specs.Prelude.{◌≡◌, ◌≢◌, ◌≤◌, ◌<◌, ◌+◌, ◌^◌, ℕ, ℤ, pos, List, length, Ok, get_or, FitsSigned}
use Rattle.std.specs.Int.{w64}
use Rattle.arith_syntax.specs.Tree.{Tree}
use Rattle.arith_syntax.specs.Grammar.{Grammar}
use Rattle.arith_eval.specs.Names.{Environment}
use Rattle.arith_eval.specs.Value.{value_of_program}
use Rattle.array_maps.specs.Blocks.{block_start, block_length}
use Rattle.array_maps.specs.Codes.{scatter_code, scatter_codes}
use Rattle.array_maps.specs.Making.{made}
use Rattle.array_maps.specs.Names.{element, is_array_name}

-- a code runs from these names without a fault, and leaves others
pub record Leaves (code : List ℕ) (before after : Environment) : Type 0 where
  pub trees : List Tree
  pub program : Grammar code trees
  pub value : ℤ
  pub ends : (value_of_program trees before).value ≡ Ok value
  pub names : (value_of_program trees before).names ≡ after

-- a code has a value under these names
pub record Gives (code : List ℕ) (names : Environment) (value : ℤ) : Type 0 where
  pub trees : List Tree
  pub program : Grammar code trees
  pub is : (value_of_program trees names).value ≡ Ok value

-- an element is one of these many, from a first one on
abbrev pub IsAmongElements : ℕ → ℕ → ℕ → Type 0
IsAmongElements start count k = (start ≤ k) × (k < start + count)

-- a code leaves these many elements with their values, and every other name as it was
pub record Sets (code name : List ℕ) (values : List ℤ) (start count : ℕ) (before : Environment) : Type 0 where
  pub after : Environment
  pub runs : Leaves code before after
  pub elements : (k : ℕ) → IsAmongElements start count k → Gives (element name k) after (get_or values k (pos 0))
  pub others : (y : List ℕ) → ((k : ℕ) → IsAmongElements start count k → y ≢ element name k) → after y ≡ before y

-- the code of a part sets the elements of its block
abbrev pub Scatters : List ℕ → List ℤ → ℕ → ℕ → Environment → Type 0
Scatters name values parts part before =
    Sets (scatter_code name values parts part) name values (block_start (length values) parts part) (block_length (length values) parts part) before

-- each value is a number of 64 bits
abbrev pub AreNumbers : List ℤ → Type 0
AreNumbers values = (k : ℕ) → FitsSigned w64 (get_or values k (pos 0))

-- the codes that scatter gives for numbers of 64 bits, of which a slice has fewer than 2^64
pub record AreScattered (name : List ℕ) (values : List ℤ) (parts : ℕ) (codes : List (List ℕ)) : Type 0 where
  pub few : length values < 2 ^ 64
  pub numbers : AreNumbers values
  pub are : made (is_array_name name (length values)) (scatter_codes name values parts) ≡ Ok codes
