-- A history is a list of entries, the newest first. All that a cluster is, is read off it.
use Rattle.std.specs.Prelude.{ℕ, zero, suc, List, [], ◌∷◌, Option, Some, None, Bool, true, false, ◌||◌, if◌then◌else◌}
use Rattle.cluster_types.specs.declared.event.Query.TheVariants.{Shutdown}
use Rattle.cluster_types.specs.declared.event.Event.{Event}
use Rattle.cluster_types.specs.declared.event.Event.TheVariants.{Ask}
use Rattle.cluster_types.specs.declared.entry.Input.TheVariants.{Open}
use Rattle.cluster_types.specs.declared.entry.Entry.{Entry}
use Rattle.cluster_types.specs.declared.entry.Entry.TheVariants.{Input}
use Rattle.cluster_defs.specs.Facts.{Facts, nothing_yet, event_in}
use Rattle.cluster_defs.specs.Steps.{next}
use Rattle.cluster_defs.specs.Scheduling.{due, open_work, Allowed, is_kept}

abbrev pub History : Type 0
History = List Entry

-- all that is read off a history
abbrev pub facts : History → Facts
facts [] = nothing_yet
facts (e ∷ older) = next (facts older) e

-- each entry is allowed by those before it
abbrev pub Legal : History → Type 0
Legal [] = Unit {0}
Legal (e ∷ older) = Allowed (facts older) e × Legal older

-- the entries that a crash leaves
abbrev pub kept : History → History
kept [] = []
kept (e ∷ older) = if is_kept (facts older) e then e ∷ kept older else kept older

-- the place of the newest entry after the last Open, which has the place 0
abbrev pub place : History → ℕ
place [] = 0
place (Input (Open moment scheme hwm misses) ∷ older) = 0
place (e ∷ older) = suc (place older)

abbrev pub asks_shutdown : Option Event → Bool
asks_shutdown (Some (Ask Shutdown)) = true
asks_shutdown _ = false

-- whether a shutdown was asked since the last Open
abbrev pub is_stopping : History → Bool
is_stopping [] = false
is_stopping (Input (Open moment scheme hwm misses) ∷ older) = false
is_stopping (e ∷ older) = asks_shutdown (event_in (facts older) e) || is_stopping older

-- goes on after a decision, and stops where none is due
abbrev pub go_on : History → Option Entry → (History → History) → History
go_on history None more = history
go_on history (Some d) more = more (d ∷ history)

-- at most so many decisions, while one is due
abbrev pub decided : ℕ → History → History
decided zero history = history
decided (suc n) history = go_on history (due (facts history)) (decided n)

-- all decisions that are due, until none is
unfoldable pub decide_all : History → History
decide_all history = decided (open_work (facts history)) history
