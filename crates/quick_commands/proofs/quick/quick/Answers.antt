use Rattle.std.proofs.Common.{◌≡◌, ◌∙◌, refl, sym, subst}
use Rattle.command_words.specs.Reading.{reading}
use Rattle.command_words.specs.Lines.{status}
use Rattle.command_words.specs.declared.ending.Ending.{Ending}
use Rattle.command_words.specs.declared.ending.Ending.TheVariants.{Done}
use Rattle.quick_commands.specs.Commands.{Ends, Says}
use Rattle.quick_commands.proofs.Ends.{if_some, ends_usage, ends_read_fault, ends_write_fault, ends_disk_fault, says_line, unread_status, never_usage, read_by_none}
use Rattle.quick_commands.proofs.quick.quick.Goals as goal

pub returns-in-Done-clause-ended : goal.returns-in-Done-clause-ended
returns-in-Done-clause-ended g c =
    if_some (reading c.args.words.now)
    (λ k. Ends g.D.Disk.tells (g.D.Disk.content c.args.disk) (g.S.Source.left c.args.input.now) (g.S.Source.left c.run-ending.new.input) (g.K.Sink.written c.args.output.now) (g.K.Sink.written c.run-ending.new.output) (g.D.Disk.image c.args.disk) (g.D.Disk.image c.run-ending.result.1) k c.run-ending.result.0)
    (λ k. (e : Ending) × (0 ≡ status e) × Says e (g.E.Sink.written c.args.errors.now) (g.E.Sink.written c.args.errors.now) (g.E.Sink.faults c.args.errors.now) (g.E.Sink.faults c.args.errors.now)
    × Ends g.D.Disk.tells (g.D.Disk.content c.args.disk) (g.S.Source.left c.args.input.now) (g.S.Source.left c.run-ending.new.input) (g.K.Sink.written c.args.output.now) (g.K.Sink.written c.run-ending.new.output) (g.D.Disk.image c.args.disk) (g.D.Disk.image c.run-ending.result.1) k e)
    c.run-ending.ensures.ended
    (λ k ends. (Done, refl, refl, subst (λ (e : Ending). Ends g.D.Disk.tells (g.D.Disk.content c.args.disk) (g.S.Source.left c.args.input.now) (g.S.Source.left c.run-ending.new.input) (g.K.Sink.written c.args.output.now) (g.K.Sink.written c.run-ending.new.output) (g.D.Disk.image c.args.disk) (g.D.Disk.image c.run-ending.result.1) k e) c.in-Done.is ends))

pub returns-in-Done-clause-says : goal.returns-in-Done-clause-says
returns-in-Done-clause-says g c = (Done, refl, refl)

pub returns : goal.returns
returns g c =
    let is : c.tell.result ≡ status c.run-ending.result.0 = c.tell.ensures.status in
    let says : Says c.run-ending.result.0 (g.E.Sink.written c.args.errors.now) (g.E.Sink.written c.tell.new.errors) (g.E.Sink.faults c.args.errors.now) (g.E.Sink.faults c.tell.new.errors) =
    says_line c.run-ending.result.0 (g.E.Sink.written c.args.errors.now) (g.E.Sink.written c.tell.new.errors) (g.E.Sink.faults c.args.errors.now) (g.E.Sink.faults c.tell.new.errors) c.in_default.not-Done c.tell.ensures.line in
    record {
      unread = λ none. let u = c.run-ending.ensures.unread none in (unread_status c.tell.result c.run-ending.result.0 is u.0, u.1, u.2);
      ended = if_some (reading c.args.words.now)
          (λ k. Ends g.D.Disk.tells (g.D.Disk.content c.args.disk) (g.S.Source.left c.args.input.now) (g.S.Source.left c.run-ending.new.input) (g.K.Sink.written c.args.output.now) (g.K.Sink.written c.run-ending.new.output) (g.D.Disk.image c.args.disk) (g.D.Disk.image c.run-ending.result.1) k c.run-ending.result.0)
          (λ k. (e : Ending) × (c.tell.result ≡ status e) × Says e (g.E.Sink.written c.args.errors.now) (g.E.Sink.written c.tell.new.errors) (g.E.Sink.faults c.args.errors.now) (g.E.Sink.faults c.tell.new.errors)
          × Ends g.D.Disk.tells (g.D.Disk.content c.args.disk) (g.S.Source.left c.args.input.now) (g.S.Source.left c.run-ending.new.input) (g.K.Sink.written c.args.output.now) (g.K.Sink.written c.run-ending.new.output) (g.D.Disk.image c.args.disk) (g.D.Disk.image c.run-ending.result.1) k e)
          c.run-ending.ensures.ended (λ k ends. (c.run-ending.result.0, is, says, ends));
      any_moment = c.run-ending.ensures.any_moment;
      looks = c.run-ending.ensures.looks;
      read_fault = λ three. c.run-ending.ensures.read_fault (ends_read_fault c.run-ending.result.0 (sym is ∙ three));
      write_fault = λ four. c.run-ending.ensures.write_fault (ends_write_fault c.run-ending.result.0 (sym is ∙ four));
      disk_fault = λ five. c.run-ending.ensures.disk_fault (ends_disk_fault c.run-ending.result.0 (sym is ∙ five));
      usage = λ two.
          read_by_none (reading c.args.words.now)
          (λ k. Ends g.D.Disk.tells (g.D.Disk.content c.args.disk) (g.S.Source.left c.args.input.now) (g.S.Source.left c.run-ending.new.input) (g.K.Sink.written c.args.output.now) (g.K.Sink.written c.run-ending.new.output) (g.D.Disk.image c.args.disk) (g.D.Disk.image c.run-ending.result.1) k c.run-ending.result.0)
          c.run-ending.ensures.ended
          (λ k ends. never_usage g.D.Disk.tells (g.D.Disk.content c.args.disk) (g.S.Source.left c.args.input.now) (g.S.Source.left c.run-ending.new.input) (g.K.Sink.written c.args.output.now) (g.K.Sink.written c.run-ending.new.output) (g.D.Disk.image c.args.disk) (g.D.Disk.image c.run-ending.result.1) k
          (subst (λ (e : Ending). Ends g.D.Disk.tells (g.D.Disk.content c.args.disk) (g.S.Source.left c.args.input.now) (g.S.Source.left c.run-ending.new.input) (g.K.Sink.written c.args.output.now) (g.K.Sink.written c.run-ending.new.output) (g.D.Disk.image c.args.disk) (g.D.Disk.image c.run-ending.result.1) k e) (ends_usage c.run-ending.result.0 (sym is ∙ two)) ends));
      says = (c.run-ending.result.0, is, says);
    }
