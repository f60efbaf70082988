-- How a dump, a check and a compact end.
use Rattle.std.proofs.Common.{◌≡◌, ◌⊎◌, inl, inr, ⊎_elim, ℕ, ◌≤◌, List, Option, refl, arith}
use Rattle.cluster_types.specs.declared.entry.Entry.{Entry}
use Rattle.command_words.specs.declared.ending.Ending.{Ending}
use Rattle.command_words.specs.declared.ending.Ending.TheVariants.{Done, Usage, ReadFault, WriteFault, DiskFault, BadTape, Damaged, OutOfMemory, HistoryFull, Different, StandbyDiffers, PrimaryRefused}
use Rattle.database_text.specs.Texts.{IsDamaged, IsRefusal, Told, DiffersFrom}
use Rattle.edges.specs.Streams.{AddedFront, Added, IsAtEnd}
use Rattle.disk_model.specs.Crashes.{LeavesOnly}
use Rattle.database_text.specs.Lines.{text}
use Rattle.task_journal.specs.Journal.{StandsFor}
use Rattle.task_journal.specs.Reads.{OnlyReads}
use Rattle.database_text.specs.Compacted.{HoldsNoFit, IsCompacted, IsUnfitAt}
use Rattle.quick_commands.specs.Commands.{Of, DumpEnds, CheckEnds, CompactEnds, CompactedInPart}

-- an end that is none of these
never : (e : Ending) → ((place : ℕ) → e ≡ Damaged place → ⊥) → (e ≡ DiskFault → ⊥) → (e ≡ OutOfMemory → ⊥) → IsRefusal e → ⊥
never e damaged disk memory refusal = ⊎_elim (λ d. damaged d.0 d.1) (λ other. ⊎_elim disk memory other) refusal

not_dump : (e : Ending) → ((place : ℕ) → e ≡ Damaged place → ⊥) → (e ≡ DiskFault → ⊥) → (e ≡ OutOfMemory → ⊥) → (e ≡ Done → ⊥) → (e ≡ WriteFault → ⊥) → IsRefusal e ⊎ (e ≡ Done) ⊎ (e ≡ WriteFault) → ⊥
not_dump e damaged disk memory done write either = ⊎_elim (λ r. never e damaged disk memory r) (λ other. ⊎_elim done write other) either

pub dump_ends : (tells : Type 0) (content : List ℕ) (before now : Option (List ℕ)) (e : Ending) → IsRefusal e ⊎ (e ≡ Done) ⊎ (e ≡ WriteFault) → (e ≡ Done → Of tells content (λ list. Added (text list) before now)) →
    (tells → (list : List Entry) → StandsFor content list → AddedFront (text list) before now) → (tells → (place : ℕ) → e ≡ Damaged place → IsDamaged content place) → (tells → (place : ℕ) → IsDamaged content place → IsRefusal e × (now ≡ before)) → (tells → (place : ℕ) → e ≡ Damaged place → now ≡ before) →
    DumpEnds tells content before now e
dump_ends tells content before now Done either done front damaged refused unwritten = done refl
dump_ends tells content before now Usage either done front damaged refused unwritten = absurd (not_dump Usage (λ place is. cc) (λ is. cc) (λ is. cc) (λ is. cc) (λ is. cc) either)
dump_ends tells content before now ReadFault either done front damaged refused unwritten = absurd (not_dump ReadFault (λ place is. cc) (λ is. cc) (λ is. cc) (λ is. cc) (λ is. cc) either)
dump_ends tells content before now WriteFault either done front damaged refused unwritten = λ told. (front told, λ place is. (refused told place is).1)
dump_ends tells content before now DiskFault either done front damaged refused unwritten = λ told. (front told, λ place is. (refused told place is).1)
dump_ends tells content before now (BadTape place) either done front damaged refused unwritten = absurd (not_dump (BadTape place) (λ place is. cc) (λ is. cc) (λ is. cc) (λ is. cc) (λ is. cc) either)
dump_ends tells content before now (Damaged place) either done front damaged refused unwritten = λ told. (unwritten told place refl, damaged told place refl)
dump_ends tells content before now OutOfMemory either done front damaged refused unwritten = λ told. (front told, λ place is. (refused told place is).1)
dump_ends tells content before now (HistoryFull entries bytes) either done front damaged refused unwritten = absurd (not_dump (HistoryFull entries bytes) (λ place is. cc) (λ is. cc) (λ is. cc) (λ is. cc) (λ is. cc) either)
dump_ends tells content before now (Different place) either done front damaged refused unwritten = absurd (not_dump (Different place) (λ place is. cc) (λ is. cc) (λ is. cc) (λ is. cc) (λ is. cc) either)
dump_ends tells content before now (StandbyDiffers place) either done front damaged refused unwritten = absurd (not_dump (StandbyDiffers place) (λ place is. cc) (λ is. cc) (λ is. cc) (λ is. cc) (λ is. cc) either)
dump_ends tells content before now (PrimaryRefused place) either done front damaged refused unwritten = absurd (not_dump (PrimaryRefused place) (λ place is. cc) (λ is. cc) (λ is. cc) (λ is. cc) (λ is. cc) either)

not_check : (e : Ending) → ((place : ℕ) → e ≡ Damaged place → ⊥) → (e ≡ DiskFault → ⊥) → (e ≡ OutOfMemory → ⊥) → (e ≡ Done → ⊥) → (e ≡ ReadFault → ⊥) → ((place : ℕ) → e ≡ Different place → ⊥) →
    IsRefusal e ⊎ (e ≡ Done) ⊎ (e ≡ ReadFault) ⊎ ((place : ℕ) × (e ≡ Different place)) → ⊥
not_check e damaged disk memory done read different either = ⊎_elim (λ r. never e damaged disk memory r) (λ other. ⊎_elim done (λ more. ⊎_elim read (λ d. different d.0 d.1) more) other) either

pub check_ends : (tells : Type 0) (content : List ℕ) (left rest : Option (List ℕ)) (e : Ending) → IsRefusal e ⊎ (e ≡ Done) ⊎ (e ≡ ReadFault) ⊎ ((place : ℕ) × (e ≡ Different place)) →
    (e ≡ Done → Of tells content (λ list. Told left (λ octets. octets ≡ text list))) → (e ≡ Done → IsAtEnd rest) → ((place : ℕ) → e ≡ Different place → DiffersFrom tells content left place) →
    (tells → (place : ℕ) → e ≡ Damaged place → IsDamaged content place) → (tells → (place : ℕ) → IsDamaged content place → IsRefusal e × (rest ≡ left)) → (tells → (place : ℕ) → e ≡ Damaged place → rest ≡ left) → CheckEnds tells content left rest e
check_ends tells content left rest Done either done end different damaged refused unread = (done refl, end refl)
check_ends tells content left rest Usage either done end different damaged refused unread = absurd (not_check Usage (λ place is. cc) (λ is. cc) (λ is. cc) (λ is. cc) (λ is. cc) (λ place is. cc) either)
check_ends tells content left rest ReadFault either done end different damaged refused unread = λ told place is. never ReadFault (λ at no. cc) (λ no. cc) (λ no. cc) (refused told place is).0
check_ends tells content left rest WriteFault either done end different damaged refused unread = absurd (not_check WriteFault (λ place is. cc) (λ is. cc) (λ is. cc) (λ is. cc) (λ is. cc) (λ place is. cc) either)
check_ends tells content left rest DiskFault either done end different damaged refused unread = λ told place is. (refused told place is).1
check_ends tells content left rest (BadTape place) either done end different damaged refused unread = absurd (not_check (BadTape place) (λ place is. cc) (λ is. cc) (λ is. cc) (λ is. cc) (λ is. cc) (λ place is. cc) either)
check_ends tells content left rest (Damaged place) either done end different damaged refused unread = λ told. (unread told place refl, damaged told place refl)
check_ends tells content left rest OutOfMemory either done end different damaged refused unread = λ told place is. (refused told place is).1
check_ends tells content left rest (HistoryFull entries bytes) either done end different damaged refused unread = absurd (not_check (HistoryFull entries bytes) (λ place is. cc) (λ is. cc) (λ is. cc) (λ is. cc) (λ is. cc) (λ place is. cc) either)
check_ends tells content left rest (StandbyDiffers place) either done end different damaged refused unread = absurd (not_check (StandbyDiffers place) (λ place is. cc) (λ is. cc) (λ is. cc) (λ is. cc) (λ is. cc) (λ place is. cc) either)
check_ends tells content left rest (PrimaryRefused place) either done end different damaged refused unread = absurd (not_check (PrimaryRefused place) (λ place is. cc) (λ is. cc) (λ is. cc) (λ is. cc) (λ is. cc) (λ place is. cc) either)
check_ends tells content left rest (Different place) either done end different damaged refused unread = different place refl

pub compact_ends : (tells : Type 0) (content : List ℕ) (before now : Option (List ℕ)) (e : Ending) → IsRefusal e ⊎ (e ≡ Done) ⊎ (e ≡ WriteFault) → (e ≡ Done → IsCompacted tells content before now) →
    CompactedInPart tells content before now → (tells → (place : ℕ) → e ≡ Damaged place → IsUnfitAt content place) → (tells → HoldsNoFit content → IsRefusal e × (now ≡ before)) → ((e ≡ DiskFault) ⊎ ((place : ℕ) × (e ≡ Damaged place)) → now ≡ before) →
    CompactEnds tells content before now e
compact_ends tells content before now Done either done front damaged refused unwritten = done refl
compact_ends tells content before now Usage either done front damaged refused unwritten = absurd (not_dump Usage (λ place is. cc) (λ is. cc) (λ is. cc) (λ is. cc) (λ is. cc) either)
compact_ends tells content before now ReadFault either done front damaged refused unwritten = absurd (not_dump ReadFault (λ place is. cc) (λ is. cc) (λ is. cc) (λ is. cc) (λ is. cc) either)
compact_ends tells content before now WriteFault either done front damaged refused unwritten = (λ told none. never WriteFault (λ place is. cc) (λ is. cc) (λ is. cc) (refused told none).0, front)
compact_ends tells content before now DiskFault either done front damaged refused unwritten = unwritten (inl refl)
compact_ends tells content before now (BadTape place) either done front damaged refused unwritten = absurd (not_dump (BadTape place) (λ place is. cc) (λ is. cc) (λ is. cc) (λ is. cc) (λ is. cc) either)
compact_ends tells content before now (Damaged place) either done front damaged refused unwritten = (unwritten (inr (place, refl)), λ told. damaged told place refl)
compact_ends tells content before now OutOfMemory either done front damaged refused unwritten = (λ told none. (refused told none).1, front)
compact_ends tells content before now (HistoryFull entries bytes) either done front damaged refused unwritten = absurd (not_dump (HistoryFull entries bytes) (λ place is. cc) (λ is. cc) (λ is. cc) (λ is. cc) (λ is. cc) either)
compact_ends tells content before now (Different place) either done front damaged refused unwritten = absurd (not_dump (Different place) (λ place is. cc) (λ is. cc) (λ is. cc) (λ is. cc) (λ is. cc) either)
compact_ends tells content before now (StandbyDiffers place) either done front damaged refused unwritten = absurd (not_dump (StandbyDiffers place) (λ place is. cc) (λ is. cc) (λ is. cc) (λ is. cc) (λ is. cc) either)
compact_ends tells content before now (PrimaryRefused place) either done front damaged refused unwritten = absurd (not_dump (PrimaryRefused place) (λ place is. cc) (λ is. cc) (λ is. cc) (λ is. cc) (λ is. cc) either)

-- what only reads leaves what was there
pub reads_leave : {D : Type 0} (content : D → List ℕ) (image : D → List ℕ → Type 0) (moment : D → ℕ) (image_since : D → ℕ → List ℕ → Type 0) (faults : D → ℕ) → ((disk : D) (t : ℕ) (c : List ℕ) → t ≤ moment disk → image disk c → image_since disk t c) →
    ((disk : D) (c : List ℕ) → image_since disk (moment disk) c → image disk c) → (old new : D) → OnlyReads content image moment image_since faults old new → LeavesOnly moment image_since old new (image old)
reads_leave content image moment image_since faults counts_now only_now old new r = record {
  later = r.later;
  each = λ c since. ⊎_elim (λ told. only_now old c told) (λ now. now) (r.since (moment old) c (omega arith) since);
  keeps = r.keeps;
  before = λ t c le since. ⊎_elim (λ told. inl told) (λ now. inr (r.keeps (moment old) c (omega arith) (counts_now old (moment old) c (omega arith) now))) (r.since t c le since);
}
