-- The blocks of a list: parts whose lengths differ by one at most, the longer ones first.
use Rattle.std.specs.Prelude.{ℕ, zero, suc, ◌+◌, ◌/◌, ◌%◌, List, length, take, drop, nat_lt, if◌then◌else◌}

-- how many of n items a part has
abbrev pub block_length : ℕ → ℕ → ℕ → ℕ
block_length n parts part = if nat_lt part (n % parts) then n / parts + 1 else n / parts

-- a part begins where the parts before it end
abbrev pub block_start : ℕ → ℕ → ℕ → ℕ
block_start n parts zero = 0
block_start n parts (suc part) = block_start n parts part + block_length n parts part

-- the items of a part
abbrev pub block_of : {X : Type 0} → List X → ℕ → ℕ → List X
block_of items parts part = take (block_length (length items) parts part) (drop (block_start (length items) parts part) items)
