-- Refusals for want of memory.
use Rattle.std.specs.Prelude.{Bool, true, false}
use Rattle.resubmission.specs.declared.plan.ResubmitRefusal.{ResubmitRefusal}
use Rattle.resubmission.specs.declared.plan.ResubmitRefusal.TheVariants.{OutOfMemory}

abbrev pub is_memory : ResubmitRefusal → Bool
is_memory OutOfMemory = true
is_memory _ = false
