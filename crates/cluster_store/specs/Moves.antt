-- What each call of a store does to the world that it stands in, and what an opening goes on from.
use Rattle.std.specs.Prelude.{◌≡◌, ◌≤◌, ◌⊎◌, ℕ, List, [], ◌∷◌, ◌++◌, length, reverse, None, false, true}
use Rattle.cluster_types.specs.declared.config.Config.{Config}
use Rattle.cluster_types.specs.declared.entry.Input.{Input as InputType}
use Rattle.cluster_types.specs.declared.entry.Entry.TheVariants.{Input}
use Rattle.cluster_defs.specs.Scheduling.{due, Allowed}
use Rattle.cluster_defs.specs.Histories.{History, facts, decide_all}
use Rattle.cluster_defs.specs.Lives.{World, Move, Crash, May, is_open, moved_by}
use Rattle.task_journal.specs.Journal.{StandsFor}
use Rattle.task_journal.specs.Settled.{Unharmed}
use Rattle.cluster_store.specs.declared.taken.Taken.{Taken}
use Rattle.cluster_store.specs.Stores.{StoreView, StandsIn, Becomes, told, told_by, up_to, written, answer, is_live, next_to}
use Rattle.cluster_store.specs.Openings.{opened, HasOpen}
use Rattle.cluster_store.specs.Worlds.{world_after, MayGo}

-- moves that may be made in a world, and that lead to one in which a store stands
pub record LeadsTo {D : Type 0} (w : World) (new : StoreView D) : Type 0 where
  pub moves : List Move
  pub may : MayGo w moves
  pub stands : StandsIn new (world_after w moves)

-- a step that is taken
abbrev pub StepLeads : Type 0 → Type 0
StepLeads D =
    (old new : StoreView D) (w : World) (input : InputType) → StandsIn old w → Allowed (facts old.history) (Input input) → is_open (Input input) ≡ false
    → Becomes old (decide_all (Input input ∷ old.history)) (told old) old.fulls new → LeadsTo w new

-- a step that is refused, whatever it counts
abbrev pub RefusalStays : Type 0 → Type 0
RefusalStays D = (old new : StoreView D) (w : World) (fulls : ℕ) → StandsIn old w → Becomes old old.history (told old) fulls new → StandsIn new w

-- a flush that is done
abbrev pub FlushLeads : Type 0 → Type 0
FlushLeads D =
    (old new : StoreView D) (w : World) → StandsIn old w → old.mark ≤ length old.history → due (facts old.history) ≡ None
    → new.history ≡ old.history → ((c : ℕ) → told new c ≡ told old c) → new.mark ≡ length old.history → LeadsTo w new

-- a flush that fails
abbrev pub FaultStays : Type 0 → Type 0
FaultStays D =
    (old new : StoreView D) (w : World) → StandsIn old w → new.history ≡ old.history → ((c : ℕ) → told new c ≡ told old c) → new.mark ≡ old.mark → StandsIn new w

-- a take
abbrev pub TakeLeads : Type 0 → Type 0
TakeLeads D =
    (old new : StoreView D) (w : World) (conn : ℕ) (taken : Taken) → StandsIn old w → taken ≡ answer (is_live old.history conn) old.mark (next_to old conn)
    → Becomes old old.history (told_by taken conn (told old)) old.fulls new → LeadsTo w new

-- an opening, of a new database or after a crash
abbrev pub OpeningLeads : Type 0 → Type 0
OpeningLeads D =
    (config : Config) (moment : ℕ) (new : StoreView D) (w : World) → due (facts w.history) ≡ None → w.mark ≤ length w.history
    → new.history ≡ opened config moment w.history → new.mark ≡ length new.history → ((c : ℕ) → told new c ≡ 0) → LeadsTo w new

-- what a disk may hold behind a crash of a world: what is kept of a front that the crash leaves
abbrev pub LeftBy : World → List ℕ → Type 0
LeftBy w octets = (front : History) × May w (Crash front) × StandsFor octets (written front)

-- a second crash behind some moves that follow the first one
pub record LeftAfter (w : World) (octets : List ℕ) : Type 0 where
  pub front : History
  pub first : May w (Crash front)
  pub moves : List Move
  pub may : MayGo (moved_by w (Crash front)) moves
  pub left : LeftBy (world_after (moved_by w (Crash front)) moves) octets

-- A crash in the midst of an opening: what it leaves is what the one crash before it might have left, so that both are one; or
-- what a crash leaves behind the Open.
abbrev pub CrashesJoin : (List ℕ → Type 0) → Type 0
CrashesJoin image =
    (w : World) (content : List ℕ) (config : Config) (moment : ℕ) (octets : List ℕ)
    → ((c : List ℕ) → image c → LeftBy w c) → image content
    → (Unharmed image content octets ⊎ HasOpen content config moment octets) → LeftBy w octets ⊎ LeftAfter w octets
