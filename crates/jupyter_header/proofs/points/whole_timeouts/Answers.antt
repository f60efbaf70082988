use Rattle.std.proofs.Common.{◌∙◌, ◌++◌, ap, sym, arith, append_assoc, refl}
use Rattle.cluster_defs.specs.Points.{whole_timeouts}
use Rattle.jupyter_header.proofs.Walk as walk
use Rattle.jupyter_header.proofs.points.whole_timeouts.Goals as goal

pub loop-at-init : goal.loop-at-init
unfolding whole_timeouts
loop-at-init c = record { within = omega arith; so_far = rw c.in_ok-whole.ensures.items refl }

pub loop-at-preserved-then-is_fraction : goal.loop-at-preserved-then-is_fraction
loop-at-preserved-then-is_fraction c =
    let yes = sym c.is_fraction.ensures ∙ c.if-is_fraction.true in
    record {
      within = walk.within c.args.octets.now c.loop-at.at c.loop-at.invariant.within yes;
      so_far = ap (λ z. c.loop-at.whole.items ++ z) (sym (walk.taken_off c.args.octets.now c.loop-at.at yes)) ∙ c.loop-at.invariant.so_far;
    }

pub loop-at-preserved : goal.loop-at-preserved
loop-at-preserved c =
    let octets = c.args.octets.now in
    let at = c.loop-at.at in
    let other = sym c.is_fraction.ensures ∙ c.if-is_fraction.false in
    let kept = walk.kept octets at (omega arith) other in
    record {
      within = omega arith;
      so_far = rw (c.in_ok-push.ensures.items, append_assoc) (ap (λ z. c.loop-at.whole.items ++ z) (sym kept) ∙ c.loop-at.invariant.so_far);
    }
