-- What the value of an option may be.
use Rattle.std.specs.Prelude.{map, option_map, unwrap_or, ℕ, ◌==◌, ◌&&◌, ◌||◌, Bool, false, not, List, [], ◌∷◌, length, nat_lt, nat_le, Option, Some, None, bytes_eq, codes, if◌then◌else◌}
use Rattle.std.specs.Borrow.{Bor}
use Rattle.std.specs.List.{list_all}
use Rattle.std.specs.Char.{is_ascii_digit}
use Rattle.std.specs.Str.Parse.{digits_value}
use Rattle.cluster_types.specs.declared.config.Scheme.{Scheme}
use Rattle.cluster_types.specs.declared.config.Scheme.TheVariants.{Lru, LeastLoad, PlainRandom, TwoBin}

-- the texts of a slice, or none
abbrev pub listed : Option (Bor (List (Bor (List ℕ)))) → List (List ℕ)
listed slice = unwrap_or (option_map (λ texts. map (λ text. text.now) texts.now) slice) []

-- an option that is needed, and comes once
abbrev pub needed : {A : Type 0} → (List ℕ → Option A) → List (List ℕ) → Option A
needed read (value ∷ []) = read value
needed read _ = None

-- an option that comes at most once, and what stands for it where it doesn't come
abbrev pub optional : {A : Type 0} → A → (List ℕ → Option A) → List (List ℕ) → Option A
optional default read [] = Some default
optional default read (value ∷ []) = read value
optional default read _ = None

-- a key has 1 to 4,096 octets
abbrev pub key_from : List ℕ → Option (List ℕ)
key_from value = if nat_lt 0 (length value) && nat_le (length value) 4096 then Some value else None

unfoldable pub lru_word : List ℕ
lru_word = codes "lru"

unfoldable pub leastload_word : List ℕ
leastload_word = codes "leastload"

unfoldable pub plainrandom_word : List ℕ
plainrandom_word = codes "plainrandom"

unfoldable pub twobin_word : List ℕ
twobin_word = codes "twobin"

abbrev pub scheme_from : List ℕ → Option Scheme
scheme_from value =
    if bytes_eq value lru_word then Some Lru
    else if bytes_eq value leastload_word then Some LeastLoad
    else if bytes_eq value plainrandom_word then Some PlainRandom
    else if bytes_eq value twobin_word then Some TwoBin
    else None

-- decimal digits alone, with a 0 ahead only where it is the whole number
abbrev pub is_number : List ℕ → Bool
is_number [] = false
is_number (digit ∷ digits) = list_all is_ascii_digit (digit ∷ digits) && (not (digit == 48) || length digits == 0)

abbrev pub within : ℕ → ℕ → ℕ → Option ℕ
within low high number = if nat_le low number && nat_le number high then Some number else None

-- a number from low to high
abbrev pub number_from : ℕ → ℕ → List ℕ → Option ℕ
number_from low high value = if is_number value then within low high (digits_value 10 value) else None
