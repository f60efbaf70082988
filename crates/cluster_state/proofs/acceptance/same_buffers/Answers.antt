use Rattle.std.proofs.Common.{sym, ◌∙◌, refl, arith}
use Rattle.std.proofs.lemmas.Bool.{false_from_ne_true}
use Rattle.cluster_state.proofs.Known.{same_length, same_step}
use Rattle.cluster_state.proofs.acceptance.same_buffers.Goals as goal

pub returns-then-a-b : goal.returns-then-a-b
returns-then-a-b c = sym (false_from_ne_true _ (λ on. c.if-a-b.true (same_length c.args.a.now c.args.b.now on)))

pub loop-place-init : goal.loop-place-init
loop-place-init c = refl

pub returns-then-not-is : goal.returns-then-not-is
returns-then-not-is c =
    let there = c.loop-place-test.true in
    let step = same_step c.args.a.now c.args.b.now c.loop-place.place c.index-a-place.result c.index-b-place.result there (omega (arith, there, c.if-a-b.false)) c.index-a-place.is c.index-b-place.is in
    sym (sym c.loop-place.invariant ∙ step ∙ rw (sym c.is.ensures.value ∙ c.if-not-is.true) refl)

pub loop-place-preserved : goal.loop-place-preserved
loop-place-preserved c =
    let there = c.loop-place-test.true in
    let step = same_step c.args.a.now c.args.b.now c.loop-place.place c.index-a-place.result c.index-b-place.result there (omega (arith, there, c.if-a-b.false)) c.index-a-place.is c.index-b-place.is in
    sym (step ∙ rw (sym c.is.ensures.value ∙ c.if-not-is.false) refl) ∙ c.loop-place.invariant
