use Rattle.std.proofs.Common.{◌∙◌, sym, reverse}
use Rattle.cluster_defs.proofs.Decide.{decide_all_none}
use Rattle.cluster_core.specs.Steps.{planned}
use Rattle.cluster_core.proofs.Goes.{nothing_kept}
use Rattle.cluster_core.proofs.plan.decide.Goals as goal

pub decide_rest-requires : goal.decide_rest-requires
decide_rest-requires g c = c.requires.grown

pub returns-then-not-keeps-clause-grown : goal.returns-then-not-keeps-clause-grown
returns-then-not-keeps-clause-grown g c = c.requires.grown

pub returns-then-not-keeps-clause-all : goal.returns-then-not-keeps-clause-all
returns-then-not-keeps-clause-all g c =
    let p = c.args.plan.now in
    sym (decide_all_none (planned (reverse c.args.history.now) p) (c.requires.rests (nothing_kept p (sym c.keeps.ensures ∙ c.if-not-keeps.true))))
