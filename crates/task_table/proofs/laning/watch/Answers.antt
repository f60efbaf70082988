use Rattle.std.proofs.Common.{◌≡◌, true, false, ◌&&◌, ap, sym, subst, ◌∙◌, []}
use Rattle.place_sets.specs.Lanes.{in_lane}
use Rattle.task_table.specs.Fitting.{hopeless_as, hopeless}
use Rattle.task_table.proofs.Watching.{hope_watched, guard_watched}
use Rattle.task_table.proofs.laning.watch.Goals as goal

pub returns-then-not-rests-clause-there : goal.returns-then-not-rests-clause-there
returns-then-not-rests-clause-there c = λ _.
    let t = c.args.task.now in
    let off : hopeless c.args.table.now [] t ≡ false = ap (λ b. b && hopeless_as c.args.table.now [] t.attempts t.request) (sym c.rests.ensures ∙ c.if-not-rests.true) in
    hope_watched c.args.table.now t c.args.place c.leave_each.new.lanes off

pub returns-then-not-is_hopeless-clause-there : goal.returns-then-not-is_hopeless-clause-there
returns-then-not-is_hopeless-clause-there c = λ _.
    let off : hopeless c.args.table.now [] c.args.task.now ≡ false = sym c.is_hopeless.ensures ∙ c.if-not-is_hopeless.true in
    hope_watched c.args.table.now c.args.task.now c.args.place c.leave_each.new.lanes off

pub returns-in-Some-clause-there : goal.returns-in-Some-clause-there
returns-in-Some-clause-there c = λ _. guard_watched c.args.table.now c.args.task.now c.args.place c.in-Some.engine c.add.new.self c.in-Some.ensures (subst (λ n. in_lane c.add.new.self n c.args.place ≡ true) c.from.ensures c.in_ok-add-in-Some.ensures.there)
