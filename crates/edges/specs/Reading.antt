-- Reading fields at the front of octets, from left to right.
use Rattle.std.specs.Prelude.{◌≡◌, ℕ, ◌-◌, List, [], ◌∷◌, length, take, drop, Result, Ok, Err, nat_lt, ◌==◌, if◌then◌else◌}
use Rattle.std.specs.Int.{Width, w32, byte_len, from_be_bytes}
use Rattle.cluster_types.specs.declared.config.Channel.{Channel}
use Rattle.cluster_types.specs.declared.config.Channel.TheVariants.{Hub, Task, Mux, Engine}
use Rattle.edges.specs.declared.stop.Stop.{Stop}
use Rattle.edges.specs.declared.stop.Stop.TheVariants.{Short, Bad}
use Rattle.edges.specs.declared.stop.ReadError.{ReadError}
use Rattle.edges.specs.declared.stop.ReadError.TheVariants as errors

-- a value, and the octets after it; or why none stands there
abbrev pub Read : Type 0 → Type 0
Read A = Result (A × List ℕ) Stop

-- one reader behind another
infixl 10 ◌>>=◌
abbrev pub ◌>>=◌ : {A B : Type 0} → Result A Stop → (A → Result B Stop) → Result B Stop
(Ok x) >>= f = f x
(Err e) >>= f = Err e

-- an error is what the reading stops at, unless memory ran out
abbrev pub Fails : {Y : Type 0} → ReadError → Result Y Stop → Type 0
Fails errors.OutOfMemory read = Unit {0}
Fails (errors.Stop s) read = read ≡ Err s

-- what a function returned, seen by `view`, is what the reading gives, unless memory ran out
abbrev pub Gives : {X Y : Type 0} → (X → Y) → Result X ReadError → Result Y Stop → Type 0
Gives view (Ok x) read = read ≡ Ok (view x)
Gives view (Err e) read = Fails e read

-- what a function that takes no memory returned, seen by `view`, is what the reading gives
abbrev pub IsRead : {X Y : Type 0} → (X → Y) → Result X Stop → Result Y Stop → Type 0
IsRead view (Ok x) read = read ≡ Ok (view x)
IsRead view (Err s) read = read ≡ Err s

-- what a function that passes over a value returned is what the reading of the value leaves
abbrev pub Passes : {X Y : Type 0} → (X → List ℕ) → Result X Stop → Result (Y × List ℕ) Stop → Type 0
Passes {Y = Y} view (Ok x) read = (value : Y) × (read ≡ Ok (value, view x))
Passes view (Err s) read = read ≡ Err s

abbrev pub octet_at : List ℕ → Read ℕ
octet_at [] = Err (Short 1)
octet_at (x ∷ octets) = Ok (x, octets)

-- a number, the highest octet first
abbrev pub number_at : Width → List ℕ → Read ℕ
number_at w octets =
    if nat_lt (length octets) (byte_len w) then Err (Short (byte_len w - length octets))
    else Ok (from_be_bytes w (take (byte_len w) octets), drop (byte_len w) octets)

-- so many octets
abbrev pub front_at : ℕ → List ℕ → Read (List ℕ)
front_at n octets =
    if nat_lt (length octets) n then Err (Short (n - length octets))
    else Ok (take n octets, drop n octets)

-- octets behind their length in one octet
unfoldable pub str8_at : List ℕ → Read (List ℕ)
str8_at octets = do
  n ← octet_at octets
  front_at n.0 n.1

-- octets behind their length in four octets
unfoldable pub blob_at : List ℕ → Read (List ℕ)
blob_at octets = do
  n ← number_at w32 octets
  front_at n.0 n.1

-- a channel, by its code
unfoldable pub channel_at : List ℕ → Read Channel
channel_at octets = do
  code ← octet_at octets
  if code.0 == 0 then Ok (Hub, code.1)
      else if code.0 == 1 then Ok (Task, code.1)
      else if code.0 == 2 then Ok (Mux, code.1)
      else if code.0 == 3 then Ok (Engine, code.1)
      else Err Bad
