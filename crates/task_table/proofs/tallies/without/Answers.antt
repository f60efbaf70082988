use Rattle.std.proofs.Common.{take, get_or, subst, sym}
use Rattle.std.proofs.lemmas.List.{take_more}
use Rattle.task_table.specs.Tallying.{AllLess}
use Rattle.task_table.proofs.Tallying.{all_less_none, all_less_more}
use Rattle.task_table.proofs.tallies.without.Goals as goal

pub loop-place-init : goal.loop-place-init
loop-place-init c = all_less_none c.args.table.now c.args.kept

pub loop-place-preserved : goal.loop-place-preserved
loop-place-preserved c =
    let ts = c.args.table.now in
    let ps = c.args.places.now in
    let i = c.loop-place.place-index in
    subst (λ qs. AllLess ts qs c.args.kept c.in_ok-tallies.tallies) (sym (take_more ps i 0 c.loop-place-test.true))
    (all_less_more ts (take i ps) (get_or ps i 0) c.args.kept c.loop-place.tallies c.in_ok-tallies.tallies c.classes_at.result c.no_classes.result c.loop-place.invariant c.classes_at.ensures c.no_classes.ensures c.in_ok-tallies.ensures)
