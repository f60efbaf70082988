-- How many there are of each number: the item at its place, and none behind the end.
use Rattle.std.specs.Prelude.{◌≡◌, ◌⊎◌, ℕ, ◌+◌, ◌-◌, ◌^◌, ◌==◌, List, slice_get, Option, Some, None, Bool, false, if◌then◌else◌}
use Rattle.std.specs.Global.{Vec}

abbrev pub or_zero : Option ℕ → ℕ
or_zero None = 0
or_zero (Some count) = count

abbrev pub count_of : List ℕ → ℕ → ℕ
count_of counts n = or_zero (slice_get counts n)

-- whether a number is this one
abbrev pub hits : Option ℕ → ℕ → Bool
hits None n = false
hits (Some m) n = m == n

-- one of this number, and none of others
abbrev pub one_at : Option ℕ → ℕ → ℕ
one_at number n = if hits number n then 1 else 0

-- the last count of 32 bits
abbrev pub greatest : ℕ
greatest = 2 ^ 32 - 1

-- whether there are so many of a number
abbrev pub AreAt : ℕ → List ℕ → Option ℕ → Type 0
AreAt many counts None = ⊥
AreAt many counts (Some n) = count_of counts n ≡ many

-- one fewer of a number; it can't be told where there is none
abbrev pub Lowered : List ℕ → ℕ → Option (Vec ℕ) → Type 0
Lowered old number None = count_of old number ≡ 0
Lowered old number (Some new) = (n : ℕ) → count_of new.items n + one_at (Some number) n ≡ count_of old n

-- one more of a number; it can't be told where there are as many as 32 bits tell
abbrev pub Raised : List ℕ → ℕ → Option (Vec ℕ) → Type 0
Raised old number None = count_of old number ≡ greatest
Raised old number (Some new) = (n : ℕ) → count_of new.items n ≡ count_of old n + one_at (Some number) n

-- one fewer of the first number and one more of the second; it can't be told where there is none of the first, or as many of
-- the second as 32 bits tell
abbrev pub Moved : Option (Vec ℕ) → Option ℕ → Option ℕ → Option (Vec ℕ) → Type 0
Moved None before after new = new ≡ None
Moved (Some old) before after None = AreAt 0 old.items before ⊎ AreAt greatest old.items after
Moved (Some old) before after (Some new) = (n : ℕ) → count_of new.items n + one_at before n ≡ count_of old.items n + one_at after n
