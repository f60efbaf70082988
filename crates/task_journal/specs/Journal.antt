-- A journal: a head, and behind it batches of records behind gates.
use Rattle.std.specs.Prelude.{◌≡◌, ℕ, zero, suc, ◌+◌, ◌-◌, List, [], ◌∷◌, ◌++◌, length, take, drop, replicate, codes, Option, Some, None, Result, Ok, Err, nat_lt, ◌==◌, if◌then◌else◌}
use Rattle.std.specs.Int.{w32, from_be_bytes}
use Rattle.cluster_types.specs.declared.entry.Entry.{Entry}
use Rattle.edges.specs.Reading.{Read}
use Rattle.task_journal.specs.declared.fault.OpenFault.{OpenFault}
use Rattle.task_journal.specs.declared.fault.OpenFault.TheVariants.{NotAJournal, Damaged, DiskFault, OutOfMemory}
use Rattle.task_journal.specs.declared.found.Found.{Found}
use Rattle.task_journal.specs.declared.gate.GateState.{GateState}
use Rattle.task_journal.specs.declared.gate.GateState.TheVariants.{Missing, Closed, Short, Open}
use Rattle.edges.specs.Difference.{difference}
use Rattle.task_journal.specs.declared.version.Version.{Version}
use Rattle.task_journal.specs.Versions.{version_in, as_second, entry_in}

infixl 10 ◌>>=◌
abbrev pub ◌>>=◌ : {A B : Type 0} → Result A OpenFault → (A → Result B OpenFault) → Result B OpenFault
(Ok x) >>= f = f x
(Err e) >>= f = Err e

-- nothing, and one more list in front of what is found
abbrev pub nothing : Found
nothing = record { entries = []; places = [] }

abbrev pub behind : Found → Found → Found
behind front found = record { entries = front.entries ++ found.entries; places = front.places ++ found.places }

abbrev pub with_front : Found → Result Found OpenFault → Result Found OpenFault
with_front front read = read >>= λ found. Ok (behind front found)

-- A place is the number of octets up to an end, less those that are left before this end.
abbrev pub record_of : Read Entry → ℕ → Result (Entry × List ℕ) OpenFault
record_of (Ok x) place = Ok x
record_of (Err s) place = Err (Damaged place)

-- the record at the front of octets that go on to an end
unfoldable pub record_at : Version → ℕ → List ℕ → Result (Entry × List ℕ) OpenFault
record_at version end octets = record_of (entry_in version octets) (end - length octets)

abbrev pub one : Entry → ℕ → Found
one entry place = record { entries = entry ∷ []; places = place ∷ [] }

-- so many records, and nothing after them
unfoldable pub records_at : Version → ℕ → ℕ → List ℕ → Result Found OpenFault
records_at version zero end octets = if length octets == 0 then Ok nothing else Err (Damaged (end - length octets))
records_at version (suc n) end octets = do
  first ← record_at version end octets
  with_front (one first.0 (end - length octets)) (records_at version n end first.1)

-- what the octets from a gate on begin with
abbrev pub gate_in : List ℕ → GateState
gate_in [] = Missing
gate_in (gate ∷ octets) =
    if gate == 167 then (if nat_lt (length octets) 9 then Short else Open (from_be_bytes w32 (take 4 (drop 1 octets))) (from_be_bytes w32 (take 4 (drop 5 octets))))
    else Closed

-- What is found from a gate on, where these octets stand behind it: behind an open one a pad, a length, a number, so
-- many octets which are exactly that many records, and the next gate.
abbrev pub from_gate : Version → GateState → ℕ → List ℕ → (ℕ → Result Found OpenFault) → Result Found OpenFault
from_gate version Missing total octets next = Err (Damaged total)
from_gate version Closed total octets next = Ok (record { entries = []; places = (total - length octets - 1) ∷ [] })
from_gate version Short total octets next = Err (Damaged (total - length octets - 1))
from_gate version (Open len count) total octets next = do
  found ← records_at version count (total - length (drop (9 + len) octets)) (take len (drop 9 octets))
  with_front found (next (9 + len))

-- what is found behind so many octets, up to the first closed gate, whose place stands last
unfoldable pub found_from : Version → ℕ → ℕ → List ℕ → Result Found OpenFault
found_from version total skip [] = Err (Damaged total)
found_from version total (suc skip) (x ∷ octets) = found_from version total skip octets
found_from version total zero (gate ∷ octets) = from_gate version (gate_in (gate ∷ octets)) total octets (λ skip. found_from version total skip octets)

-- the name of the format, the number 1, the version octet of the second version, and 18 zeros
abbrev pub head : List ℕ
head = codes "IPCJRNL1" ++ 0 ∷ 0 ∷ 0 ∷ 1 ∷ 2 ∷ replicate 18 0

-- where octets first differ from a head, but for the version octet
abbrev pub head_fault : List ℕ → Option ℕ
head_fault octets = difference 0 head (as_second octets)

abbrev pub headed : Option ℕ → Result Found OpenFault → Result Found OpenFault
headed None found = found
headed (Some place) found = Err (NotAJournal place)

-- What a disk stands for: its entries, the places of their records, and last the place of the first closed gate.
-- With fewer than 33 octets it is empty.
unfoldable pub journal : List ℕ → Result Found OpenFault
journal octets =
    if nat_lt (length octets) 33 then Ok (record { entries = []; places = 0 ∷ [] })
    else headed (head_fault octets) (found_from (version_in octets) (length octets) 31 octets)

-- the last item
abbrev pub last_of : List ℕ → Option ℕ
last_of [] = None
last_of (x ∷ []) = Some x
last_of (x ∷ (y ∷ ys)) = last_of (y ∷ ys)

abbrev pub holding : List Entry → List ℕ → Found
holding entries places = record { entries = entries; places = places }

-- a disk stands for these entries
abbrev pub StandsFor : List ℕ → List Entry → Type 0
StandsFor octets entries = (places : List ℕ) × (journal octets ≡ Ok (holding entries places))

-- the place of the first closed gate
abbrev pub place_in : Result Found OpenFault → Option ℕ
place_in (Ok found) = last_of found.places
place_in (Err e) = None

-- the entries, without their places
abbrev pub entries_of : Result Found OpenFault → Result (List Entry) OpenFault
entries_of (Ok found) = Ok found.entries
entries_of (Err e) = Err e

-- two disks stand for the same entries, or for none with the same fault
abbrev pub IsSame : List ℕ → List ℕ → Type 0
IsSame octets others = entries_of (journal octets) ≡ entries_of (journal others)

-- an error that tells of the octets is the one that reading gives
abbrev pub Fails : {Y : Type 0} → OpenFault → Result Y OpenFault → Type 0
Fails (NotAJournal place) read = read ≡ Err (NotAJournal place)
Fails (Damaged place) read = read ≡ Err (Damaged place)
Fails DiskFault read = Unit {0}
Fails OutOfMemory read = Unit {0}

-- What a function returned, seen by view, is what reading gives, unless the disk failed or memory ran out.
abbrev pub Gives : {X Y : Type 0} → (X → Y) → Result X OpenFault → Result Y OpenFault → Type 0
Gives view (Ok x) read = read ≡ Ok (view x)
Gives view (Err e) read = Fails e read

-- an error that tells nothing of the octets
abbrev pub IsOfDisk : OpenFault → Type 0
IsOfDisk DiskFault = Unit {0}
IsOfDisk OutOfMemory = Unit {0}
IsOfDisk _ = ⊥
