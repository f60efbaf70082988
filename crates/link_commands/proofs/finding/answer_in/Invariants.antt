use Rattle.std.proofs.Common.{◌≡◌, drop}
use Rattle.link_commands.specs.Asking.{answer_in}
use Rattle.link_commands.proofs.finding.answer_in.Given as goal

-- the messages that are left have the answer that all have
abbrev pub invariant-loop-frames : goal.invariant-loop-frames
invariant-loop-frames l = answer_in l.key l.id (drop l.frames-index l.messages) ≡ answer_in l.key l.id l.messages
