use Rattle.std.proofs.Common.{refl}
use Rattle.run_threads.specs.Shared.{lock_of}
use Rattle.run_words.specs.Reading.{run_reading}
use Rattle.run_commands.specs.Ends.{runs_over}
use Rattle.run_commands.proofs.Ending.{ends_read, ends_without}
use Rattle.run_commands.proofs.running.run.Goals as goal

pub returns-in-Ok : goal.returns-in-Ok
returns-in-Ok g c =
    ends_read (runs_over g.D.Disk g.K.Sink lock_of c.args.site.disk c.args.output.now c.obey.new.output c.args.spawner.now.faults c.obey.new.spawner.faults)
    (run_reading c.args.words.now) c.in-Ok.command c.obey.result c.in-Ok.ensures.ok c.obey.ensures

pub returns-in-Err-OutOfMemory : goal.returns-in-Err-OutOfMemory
returns-in-Err-OutOfMemory g c =
    ends_without (runs_over g.D.Disk g.K.Sink lock_of c.args.site.disk c.args.output.now c.args.output.now c.args.spawner.now.faults c.args.spawner.now.faults)
    (run_reading c.args.words.now) _ refl
