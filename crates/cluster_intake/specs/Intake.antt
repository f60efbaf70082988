-- The answer of the intake, apart from want of memory.
use Rattle.std.specs.Prelude.{Result, Ok, Err}
use Rattle.cluster_types.specs.declared.event.Event.{Event}
use Rattle.cluster_types.specs.declared.event.Reason.{Reason}
use Rattle.cluster_intake.specs.declared.fault.IntakeError.{IntakeError}
use Rattle.cluster_intake.specs.declared.fault.IntakeError.TheVariants.{Junk}

-- a message that means nothing is junk, for the same reason
abbrev pub taken_in : Result Event Reason → Result Event IntakeError
taken_in (Ok event) = Ok event
taken_in (Err reason) = Err (Junk reason)
