use Rattle.std.proofs.Common.{◌≡◌, ◌<◌, ◌++◌, length, take, map, get_or, string_bytes, arith, sym, ap, ◌∙◌, append_assoc}
use Rattle.cluster_defs.specs.Texts.{parted}
use Rattle.jupyter_header.specs.Comma.{comma}
use Rattle.engine_core.specs.Contents.{shown_member}
use Rattle.engine_core.proofs.contents.push_all.Goals as goal
use Rattle.jupyter_header.proofs.CommasMore.{members_more}

pub loop-place-preserved : goal.loop-place-preserved
loop-place-preserved c =
    let shown = c.args.shown.now in
    let place = c.loop-place.place in
    let one = c.index-shown-place.result in
    let old = string_bytes c.args.text.now in
    let front = parted (map shown_member (take place shown)) in
    let inside : place < length shown = omega arith in
    c.in_ok-push_shown.ensures ∙ ap (λ z. z ++ (comma place ++ shown_member one)) c.loop-place.invariant
    ∙ append_assoc old front (comma place ++ shown_member one) ∙ ap (λ z. old ++ z) (sym (members_more shown_member shown place one inside c.index-shown-place.is))
