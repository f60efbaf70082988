-- Which entries have records: all of a history whose inputs are within the limits.
use Rattle.std.specs.Prelude.{◌≡◌, length, ◌∷◌, Some, All}
use Rattle.cluster_types.specs.declared.entry.Input.{Input as InputType}
use Rattle.cluster_types.specs.declared.entry.Entry.{Entry}
use Rattle.cluster_types.specs.declared.entry.Entry.TheVariants.{Input}
use Rattle.cluster_defs.specs.Scheduling.{due}
use Rattle.cluster_defs.specs.Histories.{History, facts, Legal, kept, decide_all}
use Rattle.cluster_core.specs.Steps.{kept_from}
use Rattle.record_codec.specs.Spelling.{IsName, IsWithinLimits}

-- each known id has 1 to 255 octets
abbrev pub KnownAreNames : Type 0
KnownAreNames = (history : History) → All IsName (facts history).known

-- a decision that is due is within the limits
abbrev pub DueFits : Type 0
DueFits = (history : History) (d : Entry) → due (facts history) ≡ Some d → IsWithinLimits d

-- an entry that is within the limits where it is an input
abbrev pub InputFits : Entry → Type 0
InputFits (Input input) = IsWithinLimits (Input input)
InputFits _ = Unit {0}

-- a legal history whose inputs are within the limits is so whole
abbrev pub LegalFits : Type 0
LegalFits = (history : History) → Legal history → All InputFits history → All IsWithinLimits history

abbrev pub KeptFits : Type 0
KeptFits = (history : History) → Legal history → All InputFits history → All IsWithinLimits (kept history)

-- and so is what the step of an input that is within the limits keeps
abbrev pub StepFits : Type 0
StepFits =
    (history : History) (input : InputType) → IsWithinLimits (Input input) →
    All IsWithinLimits (kept_from (length history) (decide_all (Input input ∷ history)))
