use Rattle.std.proofs.Common.{◌∙◌, sym}
use Rattle.command_words.specs.Lines.{standing_line}
use Rattle.command_words.specs.Standing.{standing_reading}
use Rattle.link_commands.specs.Links.{dials, prints}
use Rattle.quick_commands.specs.Written.{Said}
use Rattle.standing_commands.specs.Commands.{By, serves}
use Rattle.standing_commands.proofs.Saying.{ends_as}
use Rattle.standing_commands.proofs.Usage.{by_not_usage, usage_of}
use Rattle.standing_commands.proofs.standing.standing.Goals as goal
use Rattle.quick_commands.proofs.Ends.{read_by_none}

pub returns-clause-ended : goal.returns-clause-ended
returns-clause-ended g c =
    ends_as (standing_reading c.args.words.now) (By (serves g.T.Disk.Disk g.L.Listener c.args.site.disk c.args.spawner.now c.run-ending.new.spawner) (dials g.N.Dialer g.N.In.Source g.N.Out.Sink c.args.dialer.now c.run-ending.new.dialer) (g.T.Words.Words.coming c.args.site.host.words) (prints g.K.Sink c.args.output.now c.run-ending.new.output))
    c.run-ending.result c.tell.result (λ e. Said (standing_line e) (g.E.Sink.written c.args.errors.now) (g.E.Sink.written c.tell.new.errors) (g.E.Sink.faults c.args.errors.now) (g.E.Sink.faults c.tell.new.errors))
    c.tell.ensures.status c.tell.ensures.line c.run-ending.ensures.ended

pub returns-clause-usage : goal.returns-clause-usage
returns-clause-usage g c = λ two.
    read_by_none (standing_reading c.args.words.now) (λ k. (By (serves g.T.Disk.Disk g.L.Listener c.args.site.disk c.args.spawner.now c.run-ending.new.spawner) (dials g.N.Dialer g.N.In.Source g.N.Out.Sink c.args.dialer.now c.run-ending.new.dialer) (g.T.Words.Words.coming c.args.site.host.words) (prints g.K.Sink c.args.output.now c.run-ending.new.output)) k c.run-ending.result)
    c.run-ending.ensures.ended
    (λ k by. by_not_usage _ _ _ _ k c.run-ending.result by (usage_of c.run-ending.result.0 (sym c.tell.ensures.status ∙ two)))
