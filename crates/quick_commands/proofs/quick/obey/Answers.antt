use Rattle.std.proofs.Common.{refl, sym, subst}
use Rattle.command_words.specs.declared.command.Command.{Command}
use Rattle.quick_commands.specs.Commands.{Ends}
use Rattle.quick_commands.proofs.Looks.{dump_ends, check_ends, compact_ends}
use Rattle.quick_commands.proofs.quick.obey.Goals as goal

pub returns-in-Replay-clause-ended : goal.returns-in-Replay-clause-ended
returns-in-Replay-clause-ended g c =
    subst
    (λ (k : Command). Ends g.D.Disk.tells (g.D.Disk.content c.args.disk) (g.S.Source.left c.args.input.now) (g.S.Source.left c.replay.new.input) (g.K.Sink.written c.args.output.now) (g.K.Sink.written c.replay.new.output) (g.D.Disk.image c.args.disk) (g.D.Disk.image c.replay.result.1) k c.replay.result.0)
    (sym c.in-Replay.is) c.replay.ensures.ended

pub returns-in-Dump-clause-ended : goal.returns-in-Dump-clause-ended
returns-in-Dump-clause-ended g c =
    subst
    (λ (k : Command). Ends g.D.Disk.tells (g.D.Disk.content c.args.disk) (g.S.Source.left c.args.input.now) (g.S.Source.left c.args.input.now) (g.K.Sink.written c.args.output.now) (g.K.Sink.written c.dump.new.output) (g.D.Disk.image c.args.disk) (g.D.Disk.image c.dump.new.disk) k c.dump.result)
    (sym c.in-Dump.is)
    (dump_ends g.D.Disk.tells (g.D.Disk.content c.args.disk) (g.K.Sink.written c.args.output.now) (g.K.Sink.written c.dump.new.output) c.dump.result c.dump.ensures.endings c.dump.ensures.done c.dump.ensures.front c.dump.ensures.damaged c.dump.ensures.refused c.dump.ensures.unwritten)

pub returns-in-Check-clause-ended : goal.returns-in-Check-clause-ended
returns-in-Check-clause-ended g c =
    subst
    (λ (k : Command). Ends g.D.Disk.tells (g.D.Disk.content c.args.disk) (g.S.Source.left c.args.input.now) (g.S.Source.left c.check.new.input) (g.K.Sink.written c.args.output.now) (g.K.Sink.written c.args.output.now) (g.D.Disk.image c.args.disk) (g.D.Disk.image c.check.new.disk) k c.check.result)
    (sym c.in-Check.is)
    (refl, check_ends g.D.Disk.tells (g.D.Disk.content c.args.disk) (g.S.Source.left c.args.input.now) (g.S.Source.left c.check.new.input) c.check.result c.check.ensures.endings c.check.ensures.done c.check.ensures.end c.check.ensures.different c.check.ensures.damaged c.check.ensures.refused c.check.ensures.unread)

pub returns-in-Compact-clause-ended : goal.returns-in-Compact-clause-ended
returns-in-Compact-clause-ended g c =
    subst
    (λ (k : Command). Ends g.D.Disk.tells (g.D.Disk.content c.args.disk) (g.S.Source.left c.args.input.now) (g.S.Source.left c.args.input.now) (g.K.Sink.written c.args.output.now) (g.K.Sink.written c.compact.new.output) (g.D.Disk.image c.args.disk) (g.D.Disk.image c.compact.new.disk) k c.compact.result)
    (sym c.in-Compact.is)
    (compact_ends g.D.Disk.tells (g.D.Disk.content c.args.disk) (g.K.Sink.written c.args.output.now) (g.K.Sink.written c.compact.new.output) c.compact.result c.compact.ensures.endings c.compact.ensures.done c.compact.ensures.front c.compact.ensures.damaged c.compact.ensures.refused c.compact.ensures.unwritten)

pub returns-in-Follow-clause-ended : goal.returns-in-Follow-clause-ended
returns-in-Follow-clause-ended g c =
    subst
    (λ (k : Command). Ends g.D.Disk.tells (g.D.Disk.content c.args.disk) (g.S.Source.left c.args.input.now) (g.S.Source.left c.follow.new.input) (g.K.Sink.written c.args.output.now) (g.K.Sink.written c.args.output.now) (g.D.Disk.image c.args.disk) (g.D.Disk.image c.follow.result.1) k c.follow.result.0)
    (sym c.in-Follow.is) (refl, c.follow.ensures.ended)
