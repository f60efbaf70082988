use Rattle.std.proofs.Common.{◌≡◌, nat_cmp, Some, is_some, cond, bytes_eq, refl, ap, ◌∙◌}
use Rattle.std.specs.BTreeMap as tree
use Rattle.std.specs.Cmp.Lexicographic.{slice_cmp}
use Rattle.std.proofs.lemmas.Map.Text.{btree_map_updates_str}
use Rattle.jupyter_header.proofs.Onces.{seen_new}
use Rattle.db_query.proofs.choices.add_text.Goals as goal

pub returns : goal.returns
returns c = λ q.
    let word = c.as_str.result.now in
    let spelled : word ≡ c.args.text.now = c.as_str.ensures in
    let before = tree.get_by (λ k. slice_cmp nat_cmp q k.now) c.args.texts.now in
    ap is_some (btree_map_updates_str word c.args.texts.now c.insert.new.self _ c.in_ok-insert.ensures.updates q)
    ∙ ap (λ z. is_some (cond (bytes_eq z q) (Some tt) before)) spelled
    ∙ seen_new (bytes_eq c.args.text.now q) (is_some before) before tt refl
