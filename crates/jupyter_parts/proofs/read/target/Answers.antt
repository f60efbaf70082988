use Rattle.std.proofs.Common.{◌≡◌, ◌+◌, [], take, drop, find, unwrap_or, ap, sym, refl, ◌∙◌, true}
use Rattle.jupyter_parts.specs.Signed.{is_target}
use Rattle.jupyter_parts.proofs.Places.{found}
use Rattle.jupyter_parts.proofs.read.target.Goals as goal

pub returns-then-is_target : goal.returns-then-is_target
returns-then-is_target c =
    let before = take c.args.end c.args.frames.now in
    let place = c.loop-place.place in
    let frame = c.part-frame.result.now in
    let yes : is_target frame ≡ true = sym c.is_target.ensures ∙ c.if-is_target.true in
    let first = c.part-frame.ensures.within (place + 1) c.args.end refl c.loop-place-test.true in
    sym (ap (λ o. unwrap_or o []) (c.loop-place.invariant ∙ ap (find is_target) first ∙ found frame (drop (place + 1) before) yes))
