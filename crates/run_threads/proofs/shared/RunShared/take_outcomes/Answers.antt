use Rattle.std.proofs.Common.{◌∙◌}
use Rattle.history_lock.specs.Names.{known}
use Rattle.history_lock.proofs.Growing.{extends_on}
use Rattle.run_threads.proofs.shared.RunShared.take_outcomes.Goals as goal

pub returns-in_err-take_one-clause-later : goal.returns-in_err-take_one-clause-later
returns-in_err-take_one-clause-later g c = extends_on (known c.args.pass.now).seen (known c.loop.pass).seen (known c.take_one.new.pass).seen c.loop.invariant.later c.take_one.ensures.later

pub returns-then-not-branch-clause-later : goal.returns-then-not-branch-clause-later
returns-then-not-branch-clause-later g c = extends_on (known c.args.pass.now).seen (known c.loop.pass).seen (known c.take_one.new.pass).seen c.loop.invariant.later c.take_one.ensures.later

pub loop-preserved : goal.loop-preserved
loop-preserved g c = record {
  idle = c.take_one.ensures.idle;
  later = extends_on (known c.args.pass.now).seen (known c.loop.pass).seen (known c.take_one.new.pass).seen c.loop.invariant.later c.take_one.ensures.later;
  counted = c.take_one.ensures.counted;
  labels = (c.take_one.ensures.labels.0 ∙ c.loop.invariant.labels.0, c.take_one.ensures.labels.1 ∙ c.loop.invariant.labels.1);
  answered = c.take_one.ensures.answered;
}
