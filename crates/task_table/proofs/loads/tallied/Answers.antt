use Rattle.std.proofs.Common.{take, get_or, subst, sym}
use Rattle.std.proofs.lemmas.List.{take_more}
use Rattle.task_table.specs.Loading.{Tallied}
use Rattle.task_table.proofs.Loading.{tallied_more}
use Rattle.task_table.proofs.loads.tallied.Goals as goal

pub loop-place-preserved : goal.loop-place-preserved
loop-place-preserved c =
    let ts = c.args.table.now in
    let ps = c.args.places.now in
    let i = c.loop-place.place-index in
    subst (λ qs. Tallied ts qs c.in_ok-counts.counts) (sym (take_more ps i 0 c.loop-place-test.true))
    (tallied_more ts (take i ps) (get_or ps i 0) c.loop-place.counts c.in_ok-counts.counts c.loaded_at.result c.loop-place.invariant c.loaded_at.ensures c.in_ok-counts.ensures)
