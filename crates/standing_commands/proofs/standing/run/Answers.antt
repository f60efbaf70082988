use Rattle.std.proofs.Common.{refl}
use Rattle.command_words.specs.Standing.{standing_reading}
use Rattle.link_commands.specs.Links.{dials, prints}
use Rattle.standing_commands.specs.Commands.{By, serves}
use Rattle.standing_commands.specs.Serving.{no_memory}
use Rattle.standing_commands.proofs.Ranges.{reading_in}
use Rattle.standing_commands.proofs.Memory.{memory_by}
use Rattle.standing_commands.proofs.standing.run.Goals as goal
use Rattle.quick_commands.proofs.Unbegun.{some_all}

pub obey-requires-after_bounds : goal.obey-requires-after_bounds
obey-requires-after_bounds g c κs bounds = reading_in c.args.words.now c.in-Ok.command c.in-Ok.ensures.ok

pub returns-in-Err-OutOfMemory-clause-ended : goal.returns-in-Err-OutOfMemory-clause-ended
returns-in-Err-OutOfMemory-clause-ended g c =
    some_all (standing_reading c.args.words.now) (λ k. By (serves g.T.Disk.Disk g.L.Listener c.args.site.disk c.args.spawner.now c.args.spawner.now) (dials g.N.Dialer g.N.In.Source g.N.Out.Sink c.args.dialer.now c.args.dialer.now) (g.T.Words.Words.coming c.args.site.host.words) (prints g.K.Sink c.args.output.now c.args.output.now) k no_memory)
    (λ k. memory_by _ _ _ _ _ k refl (refl, refl) refl)
