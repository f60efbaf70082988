use Rattle.std.proofs.Common.{◌∙◌, sym}
use Rattle.signed_links.proofs.Unsigned.{none_more, one_now, none_whole}
use Rattle.signed_links.proofs.signing.has_signed.Goals as goal

pub loop-frames-preserved : goal.loop-frames-preserved
loop-frames-preserved c = none_more c.args.key.now c.args.messages.now c.loop-frames.frames-index _ _ c.loop-frames-test.true c.loop-frames.invariant c.frames-item.is (sym c.in_ok-is_signed.ensures ∙ c.if-branch.false)

pub returns-then-branch : goal.returns-then-branch
returns-then-branch c = one_now c.args.key.now c.args.messages.now c.loop-frames.frames-index _ _ c.loop-frames-test.true c.frames-item.is (sym c.in_ok-is_signed.ensures ∙ c.if-branch.true)

pub returns : goal.returns
returns c = none_whole c.args.key.now c.args.messages.now c.loop-frames.frames-index c.loop-frames-test.false c.loop-frames.invariant
