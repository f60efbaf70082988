-- What `plan_abort` answers, as what an Abort comes to.
use Rattle.cluster_defs.specs.Aborts.{Aborting, Absent, TakesBack}
use Rattle.resubmission.specs.declared.abort.AbortPlan.{AbortPlan}
use Rattle.resubmission.specs.declared.abort.AbortPlan.TheVariants.{Unknown, TakesBack as TakesBackPlan}

abbrev pub aborting_of : AbortPlan → Aborting
aborting_of (Unknown ids) = Absent ids
aborting_of (TakesBackPlan ids) = TakesBack ids
