use Rattle.std.proofs.Common.{◌≡◌, ◌<◌, ◌+◌, [], ◌∷◌, ◌++◌, length, take, get_or, nat_cmp, Some, is_some, cond, bytes_eq, arith, sym, ap, ◌∙◌}
use Rattle.std.specs.BTreeMap as tree
use Rattle.std.specs.Cmp.Lexicographic.{slice_cmp}
use Rattle.std.proofs.lemmas.List.{take_more}
use Rattle.std.proofs.lemmas.Map.Text.{btree_map_updates_str}
use Rattle.jupyter_header.proofs.Onces.{listed_more, seen_new}
use Rattle.cluster_defs.specs.Words.{is_listed}
use Rattle.cluster_state.proofs.acceptance.set_of.Goals as goal

pub loop-text-preserved : goal.loop-text-preserved
loop-text-preserved c = λ q.
    let texts = c.args.texts.now in
    let at = c.loop-text.text-index in
    let text = c.text-item.result in
    let inside : at < length texts = omega arith in
    let is : text ≡ get_or texts at text = c.text-item.is in
    let word = c.as_str.result.now in
    let spelled : word ≡ text = c.as_str.ensures in
    let one : take (at + 1) texts ≡ take at texts ++ text ∷ [] = take_more texts at text inside ∙ ap (λ z. take at texts ++ z ∷ []) (sym is) in
    let before = tree.get_by (λ k. slice_cmp nat_cmp q k.now) c.loop-text.set in
    ap is_some (btree_map_updates_str word c.loop-text.set c.insert.new.self _ c.in_ok-insert.ensures.updates q)
    ∙ ap (λ z. is_some (cond (bytes_eq z q) (Some tt) before)) spelled
    ∙ seen_new (bytes_eq text q) (is_listed q (take at texts)) before tt (c.loop-text.invariant q)
    ∙ sym (listed_more (take at texts) text q)
    ∙ ap (is_listed q) (sym one)
