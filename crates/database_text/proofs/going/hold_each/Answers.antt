use Rattle.std.proofs.Common.{◌∙◌, nat_cmp, is_some, ap}
use Rattle.std.specs.BTreeMap as tree
use Rattle.std.specs.Cmp.Lexicographic.{slice_cmp}
use Rattle.std.proofs.lemmas.Map.Text.{btree_map_updates_str}
use Rattle.database_text.specs.Going.{holds}
use Rattle.database_text.proofs.Holding.{held_more}
use Rattle.database_text.proofs.going.hold_each.Goals as goal

pub loop-id-preserved : goal.loop-id-preserved
loop-id-preserved c = λ q.
    let word = c.as_str.result.now in
    let before = tree.get_by (λ k. slice_cmp nat_cmp q k.now) c.loop-id.held in
    ap is_some (btree_map_updates_str word c.loop-id.held c.insert.new.self _ c.in_ok-insert.ensures.updates q)
    ∙ held_more (holds c.args.held.now q) c.args.ids.now c.loop-id.id-index c.id-item.result q word before tt c.loop-id-test.true c.id-item.is c.as_str.ensures (c.loop-id.invariant q)
