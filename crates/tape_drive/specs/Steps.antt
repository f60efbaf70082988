-- The steps of a cluster on the inputs of a tape.
use Rattle.std.specs.Prelude.{◌≡◌, ◌<◌, ◌^◌, ℕ, Bool, false, ◌&&◌, List, [], ◌∷◌, length, ⊤, Option, Some, None, if◌then◌else◌}
use Rattle.cluster_types.specs.declared.entry.Entry.TheVariants.{Input}
use Rattle.cluster_types.specs.declared.entry.Input.{Input as InputType}
use Rattle.cluster_types.specs.declared.out.Out.{Out}
use Rattle.cluster_defs.specs.Facts.{event_in}
use Rattle.cluster_defs.specs.Scheduling.{may_take}
use Rattle.cluster_defs.specs.Histories.{History, facts, decide_all}
use Rattle.cluster_defs.specs.Outs.{outs_from}
use Rattle.cluster_defs.specs.Words.{or_else}
use Rattle.cluster_defs.specs.Lives.{is_open, sendings_to}
use Rattle.cluster_core.specs.declared.size.HistorySize.{HistorySize}
use Rattle.cluster_core.specs.Size.{size_since, is_past}
use Rattle.cluster_store.specs.Stores.{StoreView, told}
use Rattle.record_codec.specs.Spelling.{IsWithinLimits}
use Rattle.tape_drive.specs.declared.steps.Stepped.{Stepped}
use Rattle.tape_drive.specs.declared.steps.Stepped.TheVariants.{Sends, Full}

-- whether an input may come: no message that is junk, and nothing on a connection that isn't live
abbrev pub may_come : History → InputType → Bool
may_come history input = may_take (facts history) input (event_in (facts history) (Input input))

-- the history behind an input that may come, and all decisions that are then due
abbrev pub stepped : History → InputType → History
stepped history input = if may_come history input then decide_all (Input input ∷ history) else history

-- what the step sends
abbrev pub step_outs : History → InputType → List Out
step_outs history input = outs_from (length history) (stepped history input)

-- the size of the history with a step that passes a limit; such a step isn't made
abbrev pub overfull : HistorySize → History → InputType → Option HistorySize
overfull limits history input =
    if may_come history input && is_past limits (size_since (stepped history input)) then Some (size_since (stepped history input)) else None

-- a list, or none of it where a step isn't made
abbrev pub unless_full : {A : Type 0} → Option HistorySize → List A → List A
unless_full None xs = xs
unless_full (Some size) xs = []

-- the inputs before the first whose step passes a limit
abbrev pub fitting : HistorySize → History → List InputType → List InputType
fitting limits history [] = []
fitting limits history (input ∷ inputs) = unless_full (overfull limits history input) (input ∷ fitting limits (stepped history input) inputs)

-- the size of the history with the first step that passes a limit
abbrev pub full_at : HistorySize → History → List InputType → Option HistorySize
full_at limits history [] = None
full_at limits history (input ∷ inputs) = or_else (overfull limits history input) (full_at limits (stepped history input) inputs)

-- what a step comes to: it sends outs, or isn't made
abbrev pub made_as : Option HistorySize → List Out → Stepped
made_as None outs = Sends outs
made_as (Some size) outs = Full size

abbrev pub made : HistorySize → History → InputType → Stepped
made limits history input = made_as (overfull limits history input) (step_outs history input)

-- the history behind a step, or the one before where it isn't made
abbrev pub behind_as : Option HistorySize → History → History → History
behind_as None before behind = behind
behind_as (Some size) before behind = before

abbrev pub history_behind : HistorySize → History → InputType → History
history_behind limits history input = behind_as (overfull limits history input) history (stepped history input)

-- inputs one after another
abbrev pub stepped_all : History → List InputType → History
stepped_all history [] = history
stepped_all history (input ∷ inputs) = stepped_all (stepped history input) inputs

-- inputs that a store takes: each is within the limits of records, and no Open
abbrev pub AreTaken : List InputType → Type 0
AreTaken [] = ⊤
AreTaken (input ∷ inputs) = (IsWithinLimits (Input input) × (is_open (Input input) ≡ false)) × AreTaken inputs

-- no outs of a store wait, all of its history is safe, and its limit of octets is below 2 ^ 32
pub record IsCalm {D : Type 0} (v : StoreView D) : Type 0 where
  pub told_all : (c : ℕ) → told v c ≡ length (sendings_to v.history c)
  pub safe : v.failed ≡ false → v.mark ≡ length v.history
  pub short : v.limits.bytes < 2 ^ 32
