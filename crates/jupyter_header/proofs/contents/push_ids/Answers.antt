use Rattle.std.proofs.Common.{◌≡◌, ◌++◌, map, take, string_bytes, sym, ap, ◌∙◌, arith, append_assoc}
use Rattle.json.specs.Print.{quoted}
use Rattle.cluster_defs.specs.Texts.{parted}
use Rattle.jupyter_header.specs.Comma.{comma}
use Rattle.jupyter_header.proofs.Commas.{ids_more}
use Rattle.jupyter_header.proofs.contents.push_ids.Goals as goal

pub loop-place-preserved : goal.loop-place-preserved
loop-place-preserved c =
    let ids = c.args.ids.now in
    let place = c.loop-place.place in
    let id = c.index-ids-place.result in
    let old = string_bytes c.args.text.now in
    let front = parted (map quoted (take place ids)) in
    let text : c.as_str-in-loop-place.result.now ≡ quoted id = c.as_str-in-loop-place.ensures.value ∙ c.in_ok-quoted.ensures ∙ ap quoted c.as_str.ensures in
    let before : string_bytes c.push_comma.new.text ≡ (old ++ front) ++ comma place = c.in_ok-push_comma.ensures ∙ ap (λ z. z ++ comma place) c.loop-place.invariant in
    let now : string_bytes c.push_str.new.self ≡ ((old ++ front) ++ comma place) ++ quoted id =
    c.in_ok-push_str.ensures.bytes ∙ ap (λ z. z ++ c.as_str-in-loop-place.result.now) before ∙ ap (λ z. ((old ++ front) ++ comma place) ++ z) text in
    now ∙ append_assoc (old ++ front) (comma place) (quoted id) ∙ append_assoc old front (comma place ++ quoted id)
    ∙ ap (λ z. old ++ z) (sym (ids_more ids place id (omega arith) c.index-ids-place.is))
