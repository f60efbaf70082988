use Rattle.std.proofs.Common.{◌-◌, List, length, take, drop, subst}
use Rattle.cluster_types.specs.declared.entry.Entry.{Entry}
use Rattle.cluster_store.specs.declared.remaking.Remade.TheVariants.{Made, Bad, Cut}
use Rattle.cluster_store.specs.Remaking.{StepRemakes}
use Rattle.cluster_store.proofs.Remade.{rest_is, so_far_more, so_far_bad, so_far_cut}
use Rattle.cluster_store.proofs.remaking.remake.Goals as goal

pub loop-made-preserved : goal.loop-made-preserved
loop-made-preserved g c =
    let remade = subst (StepRemakes c.loop-made.core.history c.remake_first.new.core.history (take (length c.args.list.now - c.loop-made.made) (drop c.loop-made.made c.args.list.now))) c.in-Made.is c.in_ok-more.ensures.remade in
    record {
      so_far = so_far_more c.loop-made.made c.args.list.now c.loop-made.core.history c.remake_first.new.core.history c.in-Made.more c.loop-made.invariant.so_far
          (subst (λ (xs : List Entry). StepRemakes c.loop-made.core.history c.remake_first.new.core.history xs (Made c.in-Made.more)) (rest_is c.loop-made.made c.args.list.now) remade);
      limits = c.remake_first.ensures.limits;
    }

pub returns-in-Bad-clause-remade : goal.returns-in-Bad-clause-remade
returns-in-Bad-clause-remade g c =
    let remade = subst (StepRemakes c.loop-made.core.history c.remake_first.new.core.history (take (length c.args.list.now - c.loop-made.made) (drop c.loop-made.made c.args.list.now))) c.in-Bad.is c.in_ok-more.ensures.remade in
    so_far_bad c.loop-made.made c.args.list.now c.loop-made.core.history c.in-Bad.place c.loop-made.invariant.so_far
    (subst (λ (xs : List Entry). StepRemakes c.loop-made.core.history c.remake_first.new.core.history xs (Bad c.in-Bad.place)) (rest_is c.loop-made.made c.args.list.now) remade)

pub returns-in-Cut-clause-remade : goal.returns-in-Cut-clause-remade
returns-in-Cut-clause-remade g c =
    let remade = subst (StepRemakes c.loop-made.core.history c.remake_first.new.core.history (take (length c.args.list.now - c.loop-made.made) (drop c.loop-made.made c.args.list.now))) c.in-Cut.is c.in_ok-more.ensures.remade in
    so_far_cut c.loop-made.made c.args.list.now c.loop-made.core.history c.loop-made.invariant.so_far
    (subst (λ (xs : List Entry). StepRemakes c.loop-made.core.history c.remake_first.new.core.history xs Cut) (rest_is c.loop-made.made c.args.list.now) remade)
