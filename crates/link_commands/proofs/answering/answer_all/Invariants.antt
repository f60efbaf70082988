use Rattle.std.proofs.Common.{◌≤◌, take}
use Rattle.engine_core.specs.State.{standing}
use Rattle.link_commands.specs.Working.{WroteAll}
use Rattle.link_commands.proofs.answering.answer_all.Given as goal

abbrev pub invariant-loop-frames : goal.invariant-loop-frames
invariant-loop-frames g l = record {
  wrote : WroteAll l.key (standing l.initial.engine) (take l.frames-index l.messages) (g.K.Sink.written l.initial.writer) (g.K.Sink.written l.writer) (standing l.engine);
  later : g.K.Sink.faults l.initial.writer ≤ g.K.Sink.faults l.writer;
}
