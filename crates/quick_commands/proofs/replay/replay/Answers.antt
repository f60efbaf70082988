use Rattle.std.proofs.Common.{◌≡◌, ◌∙◌, ◌⊎◌, List, ℕ, sym, subst}
use Rattle.cluster_types.specs.declared.config.Config.{Config}
use Rattle.cluster_store.specs.Openings.{IsOpened, HasOpen, Exits}
use Rattle.command_words.specs.declared.ending.Ending.{Ending}
use Rattle.command_words.specs.declared.ending.Ending.TheVariants as endings
use Rattle.std.specs.Option.{unwrap_or}
use Rattle.disk_model.specs.Crashes.{LeavesOnly}
use Rattle.task_journal.specs.Settled.{Unharmed}
use Rattle.tape.specs.Tape.{blank, records}
use Rattle.tape_drive.specs.Drive.{started_as}
use Rattle.tape_drive.specs.Served.{Comes, HoldsSome, IsTouched}
use Rattle.quick_commands.specs.Replays.{IsOver, ReplayEnds, MayLeave}
use Rattle.quick_commands.proofs.Endings.{Tape, over_of, over_told, tape_ends, refusal_ends, leaves_on}
use Rattle.quick_commands.proofs.replay.replay.Goals as goal

pub returns-in-Ok-begin-clause-ended : goal.returns-in-Ok-begin-clause-ended
returns-in-Ok-begin-clause-ended g c =
    let over : IsOver g.D.Disk.tells (g.D.Disk.content c.args.disk) c.args.options.now c.in-Ok-begin.drive.stand =
    over_of g.D.Disk.tells (g.D.Disk.content c.args.disk) c.args.options.now c.in-Ok-begin.drive.stand
    (subst (λ (k : Config). IsOpened g.D.Disk.tells (g.D.Disk.content c.args.disk) k 0 c.in-Ok-begin.drive.stand.history) c.config_of.ensures.config c.in-Ok-begin.ensures.history)
    (subst (λ (k : Config). c.in-Ok-begin.drive.stand ≡ started_as c.in-Ok-begin.drive.stand.history (record { entries = k.entries; bytes = k.bytes })) c.config_of.ensures.config c.in-Ok-begin.ensures.stand) in
    let key : c.in-Ok.key ≡ c.args.options.now.key = c.in-Ok.ensures.ok ∙ c.as_slice.ensures in
    let tape : Tape g.D.Disk.tells c.in-Ok.key c.in-Ok-begin.drive.stand (g.S.Source.left c.args.input.now) (g.S.Source.left c.serve_tape-ended.new.input) (g.K.Sink.written c.args.output.now) (g.K.Sink.written c.serve_tape-ended.new.output)
    (g.D.Disk.image c.close.result) c.serve_tape-ended.new.drive.failed c.serve_tape-ended.new.drive.stand.history (unwrap_or c.serve_tape-ended.result endings.OutOfMemory) = record {
      of_tape = c.serve_tape-ended.ensures.comes;
      end = c.serve_tape-ended.ensures.end;
      ended = c.serve_tape-ended.ensures.ended;
      whole = c.serve_tape-ended.ensures.history;
      served = c.serve_tape-ended.ensures.served;
      left_so = λ tells is octets told x now. c.serve_tape-ended.ensures.left tells is octets told x (subst (λ (d : g.row.D.Denot). g.D.Disk.image d x) c.close.ensures.disk now);
      failed_so = c.serve_tape-ended.ensures.failed;
      stands = c.close.ensures.stands;
    } in
    subst
    (λ (e : Ending). ReplayEnds g.D.Disk.tells (g.D.Disk.content c.args.disk) c.args.options.now (g.S.Source.left c.args.input.now) (g.S.Source.left c.serve_tape-ended.new.input) (g.K.Sink.written c.args.output.now) (g.K.Sink.written c.serve_tape-ended.new.output)
    (g.D.Disk.image c.args.disk) (g.D.Disk.image c.close.result) e) (sym c.unwrap_or-ending.ensures)
    (tape_ends g.D.Disk.tells (g.D.Disk.content c.args.disk) c.args.options.now c.in-Ok-begin.drive.stand (g.S.Source.left c.args.input.now) (g.S.Source.left c.serve_tape-ended.new.input) (g.K.Sink.written c.args.output.now)
    (g.K.Sink.written c.serve_tape-ended.new.output) (g.D.Disk.image c.args.disk) (g.D.Disk.image c.close.result) c.serve_tape-ended.new.drive.failed c.serve_tape-ended.new.drive.stand.history (unwrap_or c.serve_tape-ended.result endings.OutOfMemory) over
    (subst (λ (k : List ℕ). Tape g.D.Disk.tells k c.in-Ok-begin.drive.stand (g.S.Source.left c.args.input.now) (g.S.Source.left c.serve_tape-ended.new.input) (g.K.Sink.written c.args.output.now) (g.K.Sink.written c.serve_tape-ended.new.output)
    (g.D.Disk.image c.close.result) c.serve_tape-ended.new.drive.failed c.serve_tape-ended.new.drive.stand.history (unwrap_or c.serve_tape-ended.result endings.OutOfMemory)) key tape))

pub returns-in-Ok-begin-clause-any_moment : goal.returns-in-Ok-begin-clause-any_moment
returns-in-Ok-begin-clause-any_moment g c =
    let over : IsOver g.D.Disk.tells (g.D.Disk.content c.args.disk) c.args.options.now c.in-Ok-begin.drive.stand =
    over_of g.D.Disk.tells (g.D.Disk.content c.args.disk) c.args.options.now c.in-Ok-begin.drive.stand
    (subst (λ (k : Config). IsOpened g.D.Disk.tells (g.D.Disk.content c.args.disk) k 0 c.in-Ok-begin.drive.stand.history) c.config_of.ensures.config c.in-Ok-begin.ensures.history)
    (subst (λ (k : Config). c.in-Ok-begin.drive.stand ≡ started_as c.in-Ok-begin.drive.stand.history (record { entries = k.entries; bytes = k.bytes })) c.config_of.ensures.config c.in-Ok-begin.ensures.stand) in
    let key : c.in-Ok.key ≡ c.args.options.now.key = c.in-Ok.ensures.ok ∙ c.as_slice.ensures in
    λ tells octets told.
    subst (λ (d : g.row.D.Denot). LeavesOnly g.D.Disk.moment g.D.Disk.image_since c.args.disk d (MayLeave (g.D.Disk.content c.args.disk) c.args.options.now octets (g.D.Disk.image c.args.disk))) (sym c.close.ensures.disk)
    (leaves_on g.D.Disk.moment g.D.Disk.image g.D.Disk.image_since g.met.D.Disk.widens c.args.disk c.in-Ok-begin.drive.disk c.serve_tape-ended.new.drive.disk c.serve_tape-ended.new.drive.failed (g.D.Disk.content c.args.disk) octets
    c.args.options.now c.in-Ok-begin.drive.stand (over_told g.D.Disk.tells (g.D.Disk.content c.args.disk) c.args.options.now c.in-Ok-begin.drive.stand tells over)
    (subst (λ (k : Config). LeavesOnly g.D.Disk.moment g.D.Disk.image_since c.args.disk c.in-Ok-begin.drive.disk (λ x. Unharmed (g.D.Disk.image c.args.disk) (g.D.Disk.content c.args.disk) x ⊎ HasOpen (g.D.Disk.content c.args.disk) k 0 x))
    c.config_of.ensures.config (c.in-Ok-begin.ensures.any_moment tells))
    (subst (λ (k : List ℕ). IsTouched g.D.Disk.moment g.D.Disk.image g.D.Disk.image_since c.in-Ok-begin.drive.disk c.serve_tape-ended.new.drive.disk c.serve_tape-ended.new.drive.failed
    (HoldsSome (Comes k c.in-Ok-begin.drive.stand (records blank octets)))) key (c.serve_tape-ended.ensures.any_moment tells octets told)))

pub returns-clause-ended : goal.returns-clause-ended
returns-clause-ended g c =
    subst
    (λ (e : Ending). ReplayEnds g.D.Disk.tells (g.D.Disk.content c.args.disk) c.args.options.now (g.S.Source.left c.args.input.now) (g.S.Source.left c.args.input.now) (g.K.Sink.written c.args.output.now) (g.K.Sink.written c.args.output.now)
    (g.D.Disk.image c.args.disk) (g.D.Disk.image c.in-Err.field-0.disk) e) (sym c.ending_of_refusal.ensures)
    (refusal_ends g.D.Disk.tells (g.D.Disk.content c.args.disk) c.args.options.now (g.S.Source.left c.args.input.now) (g.S.Source.left c.args.input.now) (g.K.Sink.written c.args.output.now) (g.D.Disk.image c.args.disk)
    (g.D.Disk.image c.in-Err.field-0.disk) c.in-Err.field-0.why c.in-Err.ensures.refused c.in-Err.ensures.spared
    (λ tells. subst (λ (k : Config). Exits (g.D.Disk.image c.args.disk) (g.D.Disk.content c.args.disk) k 0 (g.D.Disk.image c.in-Err.field-0.disk)) c.config_of.ensures.config (c.in-Err.ensures.exits tells)))
