use Rattle.command_words.specs.declared.ending.Ending.TheVariants.{OutOfMemory}
use Rattle.command_words.specs.Reading.{reading}
use Rattle.database_text.specs.Texts.{Told}
use Rattle.disk_model.specs.Crashes.{LeavesOnly}
use Rattle.task_journal.specs.Reads.{OnlyReads}
use Rattle.quick_commands.specs.Commands.{Ends, HasDatabase, MayLeaveOf, OnlyLooks}
use Rattle.quick_commands.proofs.Unbegun.{some_all, memory_ends, still_leaves}
use Rattle.quick_commands.proofs.quick.run.Goals as goal
use Rattle.task_journal.proofs.Calls.{none_reads}

pub returns-in-Err-OutOfMemory-clause-ended : goal.returns-in-Err-OutOfMemory-clause-ended
returns-in-Err-OutOfMemory-clause-ended g c =
    some_all (reading c.args.words.now)
    (λ k. Ends g.D.Disk.tells (g.D.Disk.content c.args.disk) (g.S.Source.left c.args.input.now) (g.S.Source.left c.args.input.now) (g.K.Sink.written c.args.output.now) (g.K.Sink.written c.args.output.now) (g.D.Disk.image c.args.disk) (g.D.Disk.image c.args.disk) k OutOfMemory)
    (λ k. memory_ends g.D.Disk.tells (g.D.Disk.content c.args.disk) (g.S.Source.left c.args.input.now) (g.K.Sink.written c.args.output.now) (g.D.Disk.image c.args.disk) k)

pub returns-in-Err-OutOfMemory-clause-any_moment : goal.returns-in-Err-OutOfMemory-clause-any_moment
returns-in-Err-OutOfMemory-clause-any_moment g c =
    λ tells.
    some_all (reading c.args.words.now)
    (λ k. HasDatabase k → Told (g.S.Source.left c.args.input.now) (λ octets. LeavesOnly g.D.Disk.moment g.D.Disk.image_since c.args.disk c.args.disk (MayLeaveOf k (g.D.Disk.content c.args.disk) octets (g.D.Disk.image c.args.disk))))
    (λ k has octets told. still_leaves g.D.Disk.image g.D.Disk.moment g.D.Disk.image_since g.met.D.Disk.only_now c.args.disk (g.D.Disk.content c.args.disk) octets k)

pub returns-in-Err-OutOfMemory-clause-looks : goal.returns-in-Err-OutOfMemory-clause-looks
returns-in-Err-OutOfMemory-clause-looks g c =
    some_all (reading c.args.words.now) (λ k. OnlyLooks k → OnlyReads g.D.Disk.content g.D.Disk.image g.D.Disk.moment g.D.Disk.image_since g.D.Disk.faults c.args.disk c.args.disk)
    (λ k looks. none_reads g.D.Disk.content g.D.Disk.image g.D.Disk.moment g.D.Disk.image_since g.D.Disk.faults c.args.disk)
