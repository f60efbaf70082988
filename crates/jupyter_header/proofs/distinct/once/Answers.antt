use Rattle.std.proofs.Common.{◌≡◌, ◌<◌, ◌+◌, [], ◌∷◌, ◌++◌, length, take, get_or, nat_cmp, Some, is_some, cond, not, bytes_eq, arith, sym, ap, ◌∙◌}
use Rattle.std.specs.BTreeMap as tree
use Rattle.std.specs.Cmp.Lexicographic.{slice_cmp}
use Rattle.std.proofs.lemmas.List.{take_more}
use Rattle.std.proofs.lemmas.Grind.{fold-append}
use Rattle.std.proofs.lemmas.Map.Text.{btree_map_updates_str}
use Rattle.cluster_defs.specs.Submit.{once, with_new}
use Rattle.jupyter_header.proofs.Onces.{is_listed, added, seen_more}
use Rattle.jupyter_header.proofs.distinct.once.Goals as goal

pub loop-id-preserved : goal.loop-id-preserved
loop-id-preserved c =
    let ids = c.args.ids.now in
    let at = c.loop-id.id-index in
    let id = c.id-item.result in
    let front = take at ids in
    let found = c.loop-id.found in
    let new = c.is_none-new.result in
    let same : c.as_slice-id-items.result.now ≡ ids = c.as_slice-id-items.ensures in
    let inside : at < length ids = omega (arith, ap length same) in
    let is : id ≡ get_or ids at id = c.id-item.is ∙ ap (λ z. get_or z at id) same in
    let word = c.as_str.result.now in
    let spelled : word ≡ id = c.as_str.ensures in
    let one : take (at + 1) ids ≡ front ++ id ∷ [] = take_more ids at id inside ∙ ap (λ z. front ++ z ∷ []) (sym is) in
    let old : c.in_ok-insert.field-0 ≡ tree.get_by (λ k. slice_cmp nat_cmp word k.now) c.loop-id.seen = c.in_ok-insert.ensures.old in
    let first : is_some c.in_ok-insert.field-0 ≡ not new = c.is_none-new.ensures in
    let known : not new ≡ is_listed id found = sym first ∙ ap is_some old ∙ c.loop-id.invariant.seen word ∙ ap (λ z. is_listed z found) spelled in
    record {
      so_far = c.in_ok-push_if.ensures ∙ added found id new known ∙ ap (λ z. with_new z id) c.loop-id.invariant.so_far
          ∙ sym (fold-append with_new [] front (id ∷ [])) ∙ ap once (sym one);
      seen = λ q. ap is_some (btree_map_updates_str word c.loop-id.seen c.insert.new.self _ c.in_ok-insert.ensures.updates q)
          ∙ ap (λ z. is_some (cond (bytes_eq z q) (Some tt) (tree.get_by (λ k. slice_cmp nat_cmp q k.now) c.loop-id.seen))) spelled
          ∙ seen_more found id q new (tree.get_by (λ k. slice_cmp nat_cmp q k.now) c.loop-id.seen) tt (c.loop-id.invariant.seen q) known
          ∙ ap (is_listed q) (sym c.in_ok-push_if.ensures);
    }
