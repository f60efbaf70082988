-- A command that isn't begun, for want of memory.
use Rattle.std.proofs.Common.{inl, ℕ, List, Option, Some, None, refl, arith}
use Rattle.std.specs.Prelude.{IfSome}
use Rattle.command_words.specs.declared.command.Command.{Command}
use Rattle.command_words.specs.declared.command.Command.TheVariants.{Replay, Dump, Check, Compact, Work, Follow}
use Rattle.command_words.specs.declared.ending.Ending.TheVariants.{OutOfMemory}
use Rattle.disk_model.specs.Crashes.{LeavesOnly}
use Rattle.database_text.specs.Compacted.{compact_octets}
use Rattle.database_text.specs.Lines.{text}
use Rattle.task_journal.specs.Reads.{OnlyReads}
use Rattle.quick_commands.specs.Commands.{Ends, MayLeaveOf}
use Rattle.quick_commands.proofs.Endings.{unopened_ends, still}
use Rattle.database_text.proofs.Fronts.{front_none}

pub some_all : {T : Type 0} (o : Option T) (P : T → Type 0) → ((x : T) → P x) → IfSome o P
some_all None P all = tt
some_all (Some x) P all = all x

pub memory_ends : (tells : Type 0) (content : List ℕ) (left w : Option (List ℕ)) (old : List ℕ → Type 0) (k : Command) → Ends tells content left left w w old old k OutOfMemory
memory_ends tells content left w old (Replay database options) = unopened_ends tells content options left left w old
memory_ends tells content left w old (Dump database) = λ told. ((λ list stands. front_none (text list) w), λ place is. refl)
memory_ends tells content left w old (Check database) = (refl, λ told place is. refl)
memory_ends tells content left w old (Compact database) = (λ told none. refl, λ told list stands. front_none (compact_octets list) w)
memory_ends tells content left w old (Work seed tasks) = refl
memory_ends tells content left w old (Follow database) = (refl, inl (λ c is. is))

pub still_leaves : {D : Type 0} (image : D → List ℕ → Type 0) (moment : D → ℕ) (image_since : D → ℕ → List ℕ → Type 0) → ((disk : D) (c : List ℕ) → image_since disk (moment disk) c → image disk c) → (disk : D) (content octets : List ℕ) (k : Command) →
    LeavesOnly moment image_since disk disk (MayLeaveOf k content octets (image disk))
still_leaves image moment image_since only_now disk content octets (Replay database options) = still image moment image_since only_now disk (MayLeaveOf (Replay database options) content octets (image disk)) (λ c now. inl (inl now))
still_leaves image moment image_since only_now disk content octets (Dump database) = still image moment image_since only_now disk (image disk) (λ c now. now)
still_leaves image moment image_since only_now disk content octets (Check database) = still image moment image_since only_now disk (image disk) (λ c now. now)
still_leaves image moment image_since only_now disk content octets (Compact database) = still image moment image_since only_now disk (image disk) (λ c now. now)
still_leaves image moment image_since only_now disk content octets (Work seed tasks) = still image moment image_since only_now disk (image disk) (λ c now. now)
still_leaves image moment image_since only_now disk content octets (Follow database) = still image moment image_since only_now disk (MayLeaveOf (Follow database) content octets (image disk)) (λ c now. inl (inl now))
