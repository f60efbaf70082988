use Rattle.std.proofs.Common.{◌≡◌, ◌<◌, ◌++◌, length, take, map, get_or, string_bytes, arith, sym, ap, ◌∙◌, append_assoc}
use Rattle.cluster_defs.specs.Texts.{parted, engine_member}
use Rattle.jupyter_header.specs.Comma.{comma}
use Rattle.hub_queries.proofs.queues.push_engines.Goals as goal
use Rattle.jupyter_header.proofs.CommasMore.{members_more}

pub loop-place-preserved : goal.loop-place-preserved
loop-place-preserved c =
    let live = c.args.live.now in
    let place = c.loop-place.place in
    let engine = c.engine-item.result in
    let old = string_bytes c.args.text.now in
    let front = parted (map engine_member (take place live)) in
    let same : c.as_slice-engine-items.result.now ≡ live = c.as_slice-engine-items.ensures in
    let inside : place < length live = omega (arith, ap length same) in
    let is : engine ≡ get_or live place engine = c.engine-item.is ∙ ap (λ z. get_or z place engine) same in
    c.in_ok-push_engine.ensures ∙ ap (λ z. z ++ (comma place ++ engine_member engine)) c.loop-place.invariant
    ∙ append_assoc old front (comma place ++ engine_member engine) ∙ ap (λ z. old ++ z) (sym (members_more engine_member live place engine inside is))
