-- A tape, octet by octet: an octet ends a record, shows that none stands there, or is kept.
use Rattle.std.specs.Prelude.{◌≡◌, ℕ, ◌+◌, ◌-◌, min, List, [], ◌∷◌, ◌++◌, length, drop, Option, Some, None, Ok, Err, IsErr, Bool, true, false, ◌==◌, if◌then◌else◌}
use Rattle.cluster_types.specs.Limits.{tape_limit}
use Rattle.edges.specs.declared.stop.Stop.TheVariants.{Short, Bad}
use Rattle.edges.specs.Reading.{Read}
use Rattle.tape.specs.declared.record.TapeRecord.{TapeRecord}
use Rattle.tape.specs.Reading.{record_at}

-- a record stands at a place, and what follows it begins at another
pub record IsRecord (octets : List ℕ) (at : ℕ) (r : TapeRecord) (next : ℕ) : Type 0 where
  pub rest : List ℕ
  pub stands : record_at (drop at octets) ≡ Ok (r, rest)
  pub place : next ≡ length octets - length rest

-- no whole record stands at a place
abbrev pub NoRecord : List ℕ → ℕ → Type 0
NoRecord octets at = IsErr (record_at (drop at octets))

-- the place of the first octet that belongs to no whole record, the octets from there, and whether none can stand there
pub record Tape : Type 0 where
  pub at : ℕ
  pub rest : List ℕ
  pub ended : Bool

abbrev pub blank : Tape
blank = record { at = 0; rest = []; ended = false }

-- places past 2 ^ 32 are not told apart
abbrev pub capped_place : ℕ → ℕ → ℕ
capped_place at n = min (at + n) tape_limit

-- what the octets of an unfinished record with one more are
abbrev pub taken : ℕ → List ℕ → Read TapeRecord → Tape × List TapeRecord
taken at rest (Ok r) = (record { at = capped_place at (length rest); rest = []; ended = false }, r.0 ∷ [])
taken at rest (Err (Short k)) = (record { at = at; rest = rest; ended = false }, [])
taken at rest (Err Bad) = (record { at = at; rest = rest; ended = true }, [])

abbrev pub step : Tape → ℕ → Tape × List TapeRecord
step t x = if t.ended then (t, []) else taken t.at (t.rest ++ x ∷ []) (record_at (t.rest ++ x ∷ []))

-- what is known after these octets
abbrev pub tape_after : Tape → List ℕ → Tape
tape_after t [] = t
tape_after t (x ∷ xs) = tape_after (step t x).0 xs

-- the records that these octets end
abbrev pub records : Tape → List ℕ → List TapeRecord
records t [] = []
records t (x ∷ xs) = (step t x).1 ++ records (step t x).0 xs

-- the place of the first record that is not whole
abbrev pub fault : Tape → Option ℕ
fault t = if t.ended then Some t.at else if length t.rest == 0 then None else Some t.at

abbrev pub listed : Option TapeRecord → List TapeRecord
listed None = []
listed (Some r) = r ∷ []
