-- What `plan_purge` answers, as what a Purge comes to.
use Rattle.cluster_defs.specs.Purges.{Purging, Unknown, Inflight, Drops}
use Rattle.resubmission.specs.declared.purge.PurgePlan.{PurgePlan}
use Rattle.resubmission.specs.declared.purge.PurgePlan.TheVariants.{Unknown as UnknownPlan, Inflight as InflightPlan, Drops as DropsPlan}

abbrev pub purging_of : PurgePlan → Purging
purging_of (UnknownPlan ids) = Unknown ids
purging_of (InflightPlan ids) = Inflight ids
purging_of (DropsPlan ids) = Drops ids
