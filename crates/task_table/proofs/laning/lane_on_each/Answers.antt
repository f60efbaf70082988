use Rattle.std.proofs.Common.{take, get_or, subst, sym}
use Rattle.std.proofs.lemmas.List.{take_more}
use Rattle.task_table.specs.Marking.{IsLanedOn}
use Rattle.task_table.proofs.Watching.{laned_more, fit_after}
use Rattle.task_table.proofs.laning.lane_on_each.Goals as goal

pub loop-engine-preserved : goal.loop-engine-preserved
loop-engine-preserved c =
    let es = c.args.engines.now in
    let i = c.loop-engine.engine-index in
    let ts = c.args.table.now in
    let t = c.args.task.now in
    let place = c.args.place in
    record {
      there = subst (λ ns. IsLanedOn ns ts t place c.lane_on.new.lanes) (sym (take_more es i 0 c.loop-engine-test.true))
          (laned_more (take i es) (get_or es i 0) ts t place c.loop-engine.lanes c.lane_on.new.lanes c.loop-engine.invariant.there c.lane_on.ensures.stays c.in_ok-lane_on.ensures.there);
      stays = fit_after ts t place c.args.lanes.now c.loop-engine.lanes c.lane_on.new.lanes c.loop-engine.invariant.stays c.lane_on.ensures.stays;
    }

pub returns-in_err-lane_on-clause-stays : goal.returns-in_err-lane_on-clause-stays
returns-in_err-lane_on-clause-stays c =
    fit_after c.args.table.now c.args.task.now c.args.place c.args.lanes.now c.loop-engine.lanes c.lane_on.new.lanes c.loop-engine.invariant.stays c.lane_on.ensures.stays
