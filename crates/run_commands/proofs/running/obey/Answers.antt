use Rattle.std.proofs.Common.{inr}
use Rattle.run_threads.specs.Answering.{ArePrinted}
use Rattle.run_threads.specs.Shared.{lock_of}
use Rattle.run_commands.specs.Ends.{runs_over}
use Rattle.run_commands.specs.Preparing.{Prints}
use Rattle.run_commands.proofs.Ending.{printed_of, ran_as}
use Rattle.run_commands.proofs.running.obey.Goals as goal

pub returns-in-Ok : goal.returns-in-Ok
returns-in-Ok g c =
    let a = c.in-Ok.submitted.awaited in
    let before = g.K.Sink.written c.args.output.now in
    let now = g.K.Sink.written c.run_at.new.output in
    inr (inr (ran_as (runs_over g.D.Disk g.K.Sink lock_of c.args.site.disk c.args.output.now c.run_at.new.output c.args.spawner.now.faults c.run_at.new.spawner.faults)
    (λ seen. ArePrinted a.labels seen.list a.total before now) (λ seen. Prints c.args.command.now seen.list before now) c.run_at.result
    (λ seen p. printed_of c.args.command.now a seen.list before now c.in-Ok.ensures.ok p) c.run_at.ensures))
