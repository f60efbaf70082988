-- How each command ends, and what it leaves.
use Rattle.std.specs.Prelude.{◌≡◌, ◌⊎◌, ℕ, List, Option}
use Rattle.cluster_types.specs.declared.entry.Entry.{Entry}
use Rattle.command_words.specs.declared.command.Command.{Command}
use Rattle.command_words.specs.declared.command.Command.TheVariants.{Replay, Dump, Check, Compact, Work, Follow}
use Rattle.command_words.specs.declared.ending.Ending.{Ending}
use Rattle.command_words.specs.declared.ending.Ending.TheVariants.{Done, Usage, ReadFault, WriteFault, DiskFault, Damaged, OutOfMemory, Different}
use Rattle.command_words.specs.Lines.{line, status}
use Rattle.edges.specs.declared.sink.Sink.{Ghosts as OfSink}
use Rattle.database_text.specs.Texts.{IsDamaged, Told, DiffersFrom}
use Rattle.edges.specs.Streams.{AddedFront, Added, IsAtEnd}
use Rattle.database_text.specs.Compacted.{compact_octets, HoldsNoFit, IsUnfitAt, IsCompacted}
use Rattle.database_text.specs.Lines.{text}
use Rattle.task_journal.specs.Journal.{StandsFor}
use Rattle.quick_commands.specs.Following.{FollowEnds, MayLeaveFollowed}
use Rattle.quick_commands.specs.Replays.{ReplayEnds, MayLeave}
use Rattle.quick_commands.specs.Works.{WorkEnds}
use Rattle.quick_commands.specs.Written.{Said}

-- the line of an end is written to the errors, and nothing where all was done
abbrev pub Says : Ending → (before now : Option (List ℕ)) → (faults later : ℕ) → Type 0
Says Done before now faults later = now ≡ before
Says end before now faults later = Said (line end) before now faults later

-- a status is that of an end of which this holds, and the line of this end was written
abbrev pub IsTold : {E : Type 0} → OfSink E → (old new : E) → ℕ → (Ending → Type 0) → Type 0
IsTold errors old new code Holds =
    (e : Ending) × (code ≡ status e) × Says e (errors.written old) (errors.written new) (errors.faults old) (errors.faults new) × Holds e

-- words without a reading were told so, unless there was no memory
abbrev pub Unread : Ending → Type 0
Unread end = (end ≡ Usage) ⊎ (end ≡ OutOfMemory)

-- a fact of a list of entries, for which the disk stands where it tells
abbrev pub Of : (tells : Type 0) → List ℕ → (List Entry → Type 0) → Type 0
Of tells content P = (list : List Entry) × (tells → StandsFor content list) × P list

-- a front of the text of the entries was written, and nothing where the disk is refused
abbrev pub Printed : (tells : Type 0) → List ℕ → (before now : Option (List ℕ)) → Type 0
Printed tells content before now = tells → ((list : List Entry) → StandsFor content list → AddedFront (text list) before now) × ((place : ℕ) → IsDamaged content place → now ≡ before)

-- how a dump ends: with the text of the entries, or a front of it
abbrev pub DumpEnds : (tells : Type 0) → List ℕ → (before now : Option (List ℕ)) → Ending → Type 0
DumpEnds tells content before now Done = Of tells content (λ list. Added (text list) before now)
DumpEnds tells content before now WriteFault = Printed tells content before now
DumpEnds tells content before now OutOfMemory = Printed tells content before now
DumpEnds tells content before now DiskFault = Printed tells content before now
DumpEnds tells content before now (Damaged place) = tells → (now ≡ before) × IsDamaged content place
DumpEnds tells content before now _ = ⊥

-- how a check ends: the input is the text of the entries, or differs from it at a place
abbrev pub CheckEnds : (tells : Type 0) → List ℕ → (left rest : Option (List ℕ)) → Ending → Type 0
CheckEnds tells content left rest Done = Of tells content (λ list. Told left (λ octets. octets ≡ text list)) × IsAtEnd rest
CheckEnds tells content left rest (Different place) = DiffersFrom tells content left place
CheckEnds tells content left rest (Damaged place) = tells → (rest ≡ left) × IsDamaged content place
CheckEnds tells content left rest ReadFault = tells → (place : ℕ) → IsDamaged content place → ⊥
CheckEnds tells content left rest DiskFault = tells → (place : ℕ) → IsDamaged content place → rest ≡ left
CheckEnds tells content left rest OutOfMemory = tells → (place : ℕ) → IsDamaged content place → rest ≡ left
CheckEnds tells content left rest _ = ⊥

-- a front of the octets of a journal without what purges let go was written
abbrev pub CompactedInPart : (tells : Type 0) → List ℕ → (before now : Option (List ℕ)) → Type 0
CompactedInPart tells content before now = tells → (list : List Entry) → StandsFor content list → AddedFront (compact_octets list) before now

-- how a compact ends: with the octets of a journal of the list without what purges let go, or a front of them
abbrev pub CompactEnds : (tells : Type 0) → List ℕ → (before now : Option (List ℕ)) → Ending → Type 0
CompactEnds tells content before now Done = IsCompacted tells content before now
CompactEnds tells content before now WriteFault = (tells → HoldsNoFit content → ⊥) × CompactedInPart tells content before now
CompactEnds tells content before now OutOfMemory = (tells → HoldsNoFit content → now ≡ before) × CompactedInPart tells content before now
CompactEnds tells content before now DiskFault = now ≡ before
CompactEnds tells content before now (Damaged place) = (now ≡ before) × (tells → IsUnfitAt content place)
CompactEnds tells content before now _ = ⊥

-- how a command ends
abbrev pub Ends : (tells : Type 0) → List ℕ → (left rest before now : Option (List ℕ)) → (old new : List ℕ → Type 0) → Command → Ending → Type 0
Ends tells content left rest before now old new (Replay database options) end = ReplayEnds tells content options left rest before now old new end
Ends tells content left rest before now old new (Dump database) end = DumpEnds tells content before now end
Ends tells content left rest before now old new (Check database) end = (now ≡ before) × CheckEnds tells content left rest end
Ends tells content left rest before now old new (Compact database) end = CompactEnds tells content before now end
Ends tells content left rest before now old new (Work seed tasks) end = WorkEnds tells content seed tasks before now new end
Ends tells content left rest before now old new (Follow database) end = (now ≡ before) × FollowEnds tells content left rest old new end

-- whether a command is about a database, and not about a disk in memory
abbrev pub HasDatabase : Command → Type 0
HasDatabase (Work seed tasks) = ⊥
HasDatabase _ = Unit {0}

-- whether a command changes nothing on the disk
abbrev pub OnlyLooks : Command → Type 0
OnlyLooks (Replay database options) = ⊥
OnlyLooks (Work seed tasks) = ⊥
OnlyLooks (Follow database) = ⊥
OnlyLooks _ = Unit {0}

-- what a crash at any moment of a command about a database may leave
abbrev pub MayLeaveOf : Command → List ℕ → List ℕ → (List ℕ → Type 0) → List ℕ → Type 0
MayLeaveOf (Replay database options) content octets old c = MayLeave content options octets old c
MayLeaveOf (Follow database) content octets old c = MayLeaveFollowed content octets old c
MayLeaveOf _ content octets old c = old c
