-- How the program ends, by its status.
use Rattle.std.proofs.Common.{◌≡◌, ℕ, List, Option, Some, None, refl, ap, ◌∙◌, ◌⊎◌, ⊎_elim, inl, inr}
use Rattle.std.specs.Prelude.{IfSome}
use Rattle.command_words.specs.declared.command.Command.{Command}
use Rattle.command_words.specs.declared.command.Command.TheVariants.{Replay, Dump, Check, Compact, Work, Follow}
use Rattle.command_words.specs.declared.ending.Ending.{Ending}
use Rattle.command_words.specs.declared.ending.Ending.TheVariants.{Done, Usage, ReadFault, WriteFault, DiskFault, BadTape, Damaged, OutOfMemory, HistoryFull, Different, StandbyDiffers, PrimaryRefused}
use Rattle.command_words.specs.Lines.{status, line}
use Rattle.quick_commands.specs.Commands.{Says, Ends, Unread}
use Rattle.quick_commands.specs.Written.{Said}

pub if_some : {T : Type 0} (o : Option T) (P Q : T → Type 0) → IfSome o P → ((x : T) → P x → Q x) → IfSome o Q
if_some None P Q fact go = tt
if_some (Some x) P Q fact go = go x fact

-- the end of a status
pub ends_usage : (e : Ending) → status e ≡ 2 → e ≡ Usage
ends_usage Done is = cc
ends_usage Usage is = refl
ends_usage ReadFault is = cc
ends_usage WriteFault is = cc
ends_usage DiskFault is = cc
ends_usage (BadTape place) is = cc
ends_usage (Damaged place) is = cc
ends_usage OutOfMemory is = cc
ends_usage (HistoryFull entries bytes) is = cc
ends_usage (Different place) is = cc
ends_usage (StandbyDiffers place) is = cc
ends_usage (PrimaryRefused place) is = cc

pub ends_read_fault : (e : Ending) → status e ≡ 3 → e ≡ ReadFault
ends_read_fault Done is = cc
ends_read_fault Usage is = cc
ends_read_fault ReadFault is = refl
ends_read_fault WriteFault is = cc
ends_read_fault DiskFault is = cc
ends_read_fault (BadTape place) is = cc
ends_read_fault (Damaged place) is = cc
ends_read_fault OutOfMemory is = cc
ends_read_fault (HistoryFull entries bytes) is = cc
ends_read_fault (Different place) is = cc
ends_read_fault (StandbyDiffers place) is = cc
ends_read_fault (PrimaryRefused place) is = cc

pub ends_write_fault : (e : Ending) → status e ≡ 4 → e ≡ WriteFault
ends_write_fault Done is = cc
ends_write_fault Usage is = cc
ends_write_fault ReadFault is = cc
ends_write_fault WriteFault is = refl
ends_write_fault DiskFault is = cc
ends_write_fault (BadTape place) is = cc
ends_write_fault (Damaged place) is = cc
ends_write_fault OutOfMemory is = cc
ends_write_fault (HistoryFull entries bytes) is = cc
ends_write_fault (Different place) is = cc
ends_write_fault (StandbyDiffers place) is = cc
ends_write_fault (PrimaryRefused place) is = cc

pub ends_disk_fault : (e : Ending) → status e ≡ 5 → e ≡ DiskFault
ends_disk_fault Done is = cc
ends_disk_fault Usage is = cc
ends_disk_fault ReadFault is = cc
ends_disk_fault WriteFault is = cc
ends_disk_fault DiskFault is = refl
ends_disk_fault (BadTape place) is = cc
ends_disk_fault (Damaged place) is = cc
ends_disk_fault OutOfMemory is = cc
ends_disk_fault (HistoryFull entries bytes) is = cc
ends_disk_fault (Different place) is = cc
ends_disk_fault (StandbyDiffers place) is = cc
ends_disk_fault (PrimaryRefused place) is = cc

-- the line of an end that isn't Done is what it says
pub says_line : (e : Ending) (before now : Option (List ℕ)) (faults later : ℕ) → (e ≡ Done → ⊥) → Said (line e) before now faults later → Says e before now faults later
says_line Done before now faults later not said = absurd (not refl)
says_line Usage before now faults later not said = said
says_line ReadFault before now faults later not said = said
says_line WriteFault before now faults later not said = said
says_line DiskFault before now faults later not said = said
says_line (BadTape place) before now faults later not said = said
says_line (Damaged place) before now faults later not said = said
says_line OutOfMemory before now faults later not said = said
says_line (HistoryFull entries bytes) before now faults later not said = said
says_line (Different place) before now faults later not said = said
says_line (StandbyDiffers place) before now faults later not said = said
says_line (PrimaryRefused place) before now faults later not said = said

pub unread_status : (n : ℕ) (e : Ending) → n ≡ status e → Unread e → (n ≡ 2) ⊎ (n ≡ 8)
unread_status n e is unread = ⊎_elim (λ u. inl (is ∙ ap status u)) (λ m. inr (is ∙ ap status m)) unread

-- no command ends as words without a reading do
pub never_usage : (tells : Type 0) (content : List ℕ) (left rest before now : Option (List ℕ)) (old new : List ℕ → Type 0) (c : Command) → Ends tells content left rest before now old new c Usage → ⊥
never_usage tells content left rest before now old new (Replay database options) ends = ends
never_usage tells content left rest before now old new (Dump database) ends = ends
never_usage tells content left rest before now old new (Check database) ends = ends.1
never_usage tells content left rest before now old new (Compact database) ends = ends
never_usage tells content left rest before now old new (Work seed tasks) ends = ends
never_usage tells content left rest before now old new (Follow database) ends = ends.1

pub read_by_none : {T : Type 0} (o : Option T) (P : T → Type 0) → IfSome o P → ((x : T) → P x → ⊥) → o ≡ None
read_by_none None P fact go = refl
read_by_none (Some x) P fact go = absurd (go x fact)
