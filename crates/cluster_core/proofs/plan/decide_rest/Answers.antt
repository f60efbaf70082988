use Rattle.std.proofs.Common.{◌∙◌, sym, reverse}
use Rattle.cluster_defs.proofs.Decide.{decide_all_none}
use Rattle.cluster_core.specs.Steps.{planned}
use Rattle.cluster_core.proofs.Goes.{next_is, next_time, now_time, next_place}
use Rattle.cluster_core.proofs.Growing.{grown_more, all_more, work_less}
use Rattle.cluster_core.proofs.plan.decide_rest.Goals as goal

pub add-requires-clause-next : goal.add-requires-clause-next
add-requires-clause-next g c =
    next_is (reverse c.args.history.now) c.loop-decision.plan c.in-Some.decision c.loop-decision.invariant.grown (sym c.in_ok-decision.ensures ∙ c.in-Some.is)

pub add-requires-clause-time : goal.add-requires-clause-time
add-requires-clause-time g c =
    next_time (reverse c.args.history.now) c.loop-decision.plan c.in-Some.decision (sym c.in_ok-decision.ensures ∙ c.in-Some.is)

pub add-requires-clause-now : goal.add-requires-clause-now
add-requires-clause-now g c = now_time (reverse c.args.history.now) c.loop-decision.plan c.loop-decision.invariant.grown

pub add-requires-clause-no_open : goal.add-requires-clause-no_open
add-requires-clause-no_open g c =
    next_place (reverse c.args.history.now) c.loop-decision.plan c.in-Some.decision c.loop-decision.invariant.grown (sym c.in_ok-decision.ensures ∙ c.in-Some.is)

pub loop-decision-smaller : goal.loop-decision-smaller
loop-decision-smaller g c =
    work_less (reverse c.args.history.now) c.loop-decision.plan c.add.new.self c.in-Some.decision (sym c.in_ok-decision.ensures ∙ c.in-Some.is) c.in_ok-add.ensures

pub loop-decision-preserved : goal.loop-decision-preserved
loop-decision-preserved g c =
    let is_due = sym c.in_ok-decision.ensures ∙ c.in-Some.is in
    record {
      input = c.in_ok-add.ensures.input ∙ c.loop-decision.invariant.input;
      grown = grown_more (reverse c.args.history.now) c.loop-decision.plan c.add.new.self c.in-Some.decision c.loop-decision.invariant.grown is_due c.in_ok-add.ensures;
      all = all_more (reverse c.args.history.now) c.loop-decision.plan c.add.new.self c.in-Some.decision is_due c.in_ok-add.ensures ∙ c.loop-decision.invariant.all;
    }

pub returns-clause-all : goal.returns-clause-all
returns-clause-all g c =
    let none = sym c.in_ok-decision.ensures ∙ c.in_default.is in
    sym (decide_all_none (planned (reverse c.args.history.now) c.loop-decision.plan) none) ∙ c.loop-decision.invariant.all
