use Rattle.std.proofs.Common.{◌≡◌, reverse}
use Rattle.cluster_defs.specs.Scheduling.{open_work}
use Rattle.cluster_defs.specs.Histories.{facts, decide_all}
use Rattle.cluster_core.specs.Steps.{IsGrown, planned}
use Rattle.cluster_core.proofs.plan.decide_rest.Given as goal

abbrev pub invariant-loop-decision : goal.invariant-loop-decision
invariant-loop-decision g l = record {
  input : l.plan.input ≡ l.fn.plan.input;
  grown : IsGrown (reverse l.history) l.plan;
  all : decide_all (planned (reverse l.history) l.plan) ≡ decide_all (planned (reverse l.history) l.fn.plan);
}

abbrev pub decreases-loop-decision : goal.decreases-loop-decision
decreases-loop-decision g l = open_work (facts (planned (reverse l.history) l.plan))
