use Rattle.std.proofs.Common.{take, get_or, subst, sym}
use Rattle.std.proofs.lemmas.List.{take_more}
use Rattle.task_table.specs.Tallying.{AllMore}
use Rattle.task_table.proofs.Tallying.{all_more_none, all_more_more}
use Rattle.task_table.proofs.tallies.along.Goals as goal

pub loop-place-init : goal.loop-place-init
loop-place-init c = all_more_none c.args.table.now c.args.rest

pub loop-place-preserved : goal.loop-place-preserved
loop-place-preserved c =
    let ts = c.args.table.now in
    let ps = c.args.places.now in
    let i = c.loop-place.place-index in
    subst (λ qs. AllMore ts qs c.args.rest c.in_ok-tallies.tallies) (sym (take_more ps i 0 c.loop-place-test.true))
    (all_more_more ts (take i ps) (get_or ps i 0) c.args.rest c.loop-place.tallies c.in_ok-tallies.tallies c.no_classes.result c.classes_at.result c.loop-place.invariant c.no_classes.ensures c.classes_at.ensures c.in_ok-tallies.ensures)
