use Rattle.std.proofs.Common.{◌∙◌, refl, arith}
use Rattle.session_threads.proofs.Entering.{none_entered, entered_next, front_here}
use Rattle.session_threads.proofs.hearing.hear_each.Goals as goal
use Rattle.cluster_types.proofs.Options.{at_err}

pub loop-frames-init : goal.loop-frames-init
loop-frames-init g c = record { idle = c.requires.idle; room = refl; entered = none_entered _ _ _ }

pub returns-in_err-hear-clause-err : goal.returns-in_err-hear-clause-err
returns-in_err-hear-clause-err g c = at_err _ (front_here _ _ _ _ _ c.args.messages.now c.loop-frames.frames-index c.loop-frames.invariant.entered c.in_err-hear.ensures.err)

pub loop-frames-preserved : goal.loop-frames-preserved
loop-frames-preserved g c = record {
  idle = c.in_ok-hear.ensures.idle;
  room = c.in_ok-hear.ensures.room ∙ c.loop-frames.invariant.room;
  entered = entered_next _ _ _ _ _ c.args.messages.now c.loop-frames.frames-index c.frames-item.result (omega arith) c.frames-item.is c.loop-frames.invariant.entered c.in_ok-hear.ensures.ok;
}
