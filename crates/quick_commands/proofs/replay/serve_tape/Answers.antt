use Rattle.std.proofs.Common.{◌≡◌, ◌≤◌, ◌∙◌, List, Bool, false, rules, length, take, arith, sym, ap, subst}
use Rattle.edges.specs.Streams.{Added}
use Rattle.tape.specs.declared.record.TapeRecord.{TapeRecord}
use Rattle.tape.specs.Spelling.{all_spelled}
use Rattle.tape.specs.Tape.{blank, records}
use Rattle.tape_drive.specs.Drive.{Stand, stand_at, outputs, drive_stand}
use Rattle.tape_drive.specs.Served.{Comes, HoldsSome, IsTouched}
use Rattle.tape_drive.proofs.Way.{touched_on, holds_more}
use Rattle.quick_commands.specs.Replays.{IsServed}
use Rattle.quick_commands.proofs.Going.{on_ok, never_failed, whole_at, going_on, going_served, going_piece, going_comes, going_ends, going_bad, going_stopped, ends_done, ends_bad, ends_stopped, spent_more, spent_all, some_taken}
use Rattle.quick_commands.proofs.replay.serve_tape.Goals as goal

pub returns-in-Failed-clause-served : goal.returns-in-Failed-clause-served
returns-in-Failed-clause-served g c =
    λ octets told. going_served (c.loop.invariant.going octets told)

pub returns-in-Some-clause-ended : goal.returns-in-Some-clause-ended
returns-in-Some-clause-ended g c =
    λ octets told. ends_bad (going_ends (c.loop.invariant.going octets told) c.in-End.ensures.reads.0) c.loop.invariant.goes c.in-Some.place (sym c.fault.ensures ∙ c.in-Some.is)

pub returns-in-Some-clause-history : goal.returns-in-Some-clause-history
returns-in-Some-clause-history g c =
    λ octets told. ap (λ (k : Stand). k.history) (going_ends (c.loop.invariant.going octets told) c.in-End.ensures.reads.0).stand_is

pub returns-in-Some-clause-served : goal.returns-in-Some-clause-served
returns-in-Some-clause-served g c =
    λ octets told. going_served (c.loop.invariant.going octets told)

pub returns-in-None-clause-ended : goal.returns-in-None-clause-ended
returns-in-None-clause-ended g c =
    λ octets told. ends_done (going_ends (c.loop.invariant.going octets told) c.in-End.ensures.reads.0) c.loop.invariant.goes (sym c.fault.ensures ∙ c.in-None.is)

pub returns-in-None-clause-history : goal.returns-in-None-clause-history
returns-in-None-clause-history g c =
    λ octets told. ap (λ (k : Stand). k.history) (going_ends (c.loop.invariant.going octets told) c.in-End.ensures.reads.0).stand_is

pub returns-in-None-clause-served : goal.returns-in-None-clause-served
returns-in-None-clause-served g c =
    λ octets told. going_served (c.loop.invariant.going octets told)

pub returns-in_default-clause-served : goal.returns-in_default-clause-served
returns-in_default-clause-served g c =
    λ octets told. going_served (c.loop.invariant.going octets told)

pub returns-in-Err-clause-served : goal.returns-in-Err-clause-served
returns-in-Err-clause-served g c =
    let list : c.as_slice-list.result.now ≡ records c.loop.tape (take c.in-Bytes.n c.read.new.into) = c.as_slice-list.ensures ∙ c.in-Ok.ensures.records in
    λ octets told.
    going_piece (c.loop.invariant.going octets told) (take c.in-Bytes.n c.read.new.into) (g.S.Source.left c.read.new.self) (g.K.Sink.written c.serve_records.new.output) c.serve_records.new.drive.stand.history c.in-Bytes.ensures.reads.2
    (subst (λ (rs : List TapeRecord). IsServed c.args.key.now c.loop.drive.stand rs (g.K.Sink.written c.loop.output) (g.K.Sink.written c.serve_records.new.output) c.serve_records.new.drive.stand.history) list c.serve_records.ensures.served)

pub returns-in-Err-clause-any_moment : goal.returns-in-Err-clause-any_moment
returns-in-Err-clause-any_moment g c =
    let list : c.as_slice-list.result.now ≡ records c.loop.tape (take c.in-Bytes.n c.read.new.into) = c.as_slice-list.ensures ∙ c.in-Ok.ensures.records in
    λ tells octets told.
    touched_on g.D.Disk.moment g.D.Disk.image g.D.Disk.image_since g.met.D.Disk.widens c.args.drive.now.disk c.loop.drive.disk c.serve_records.new.drive.disk false c.serve_records.new.drive.failed
    (HoldsSome (Comes c.args.key.now c.args.drive.now.stand (records blank octets))) (HoldsSome (Comes c.args.key.now c.loop.drive.stand c.as_slice-list.result.now))
    (c.loop.invariant.touched tells octets told) (c.serve_records.ensures.any_moment tells)
    (λ x holds. holds_more x (λ h comes. going_comes (c.loop.invariant.going octets told) (take c.in-Bytes.n c.read.new.into) (g.S.Source.left c.read.new.self) h c.in-Bytes.ensures.reads.2
    (subst (λ (rs : List TapeRecord). Comes c.args.key.now c.loop.drive.stand rs h) list comes)) holds)

pub returns-in-Err-clause-left : goal.returns-in-Err-clause-left
returns-in-Err-clause-left g c =
    let list : c.as_slice-list.result.now ≡ records c.loop.tape (take c.in-Bytes.n c.read.new.into) = c.as_slice-list.ensures ∙ c.in-Ok.ensures.records in
    λ tells is octets told x now.
    holds_more x (λ h w.
    going_piece (c.loop.invariant.going octets told) (take c.in-Bytes.n c.read.new.into) (g.S.Source.left c.read.new.self) (g.K.Sink.written c.serve_records.new.output) h c.in-Bytes.ensures.reads.2
    (subst (λ (rs : List TapeRecord). IsServed c.args.key.now c.loop.drive.stand rs (g.K.Sink.written c.loop.output) (g.K.Sink.written c.serve_records.new.output) h) list w)) (c.serve_records.ensures.left tells is x now)

pub returns-in-Some-stop-clause-ended : goal.returns-in-Some-stop-clause-ended
returns-in-Some-stop-clause-ended g c =
    let list : c.as_slice-list.result.now ≡ records c.loop.tape (take c.in-Bytes.n c.read.new.into) = c.as_slice-list.ensures ∙ c.in-Ok.ensures.records in
    let stand : c.serve_records.new.drive.stand ≡ stand_at c.args.key.now c.loop.drive.stand (records c.loop.tape (take c.in-Bytes.n c.read.new.into)) =
    on_ok c.serve_records.result (c.serve_records.new.drive.stand ≡ stand_at c.args.key.now c.loop.drive.stand c.as_slice-list.result.now) c.in_default-serve_records.not-Err c.serve_records.ensures.stand ∙ ap (stand_at c.args.key.now c.loop.drive.stand) list in
    let added : Added (all_spelled (outputs c.args.key.now c.loop.drive.stand (records c.loop.tape (take c.in-Bytes.n c.read.new.into)))) (g.K.Sink.written c.loop.output) (g.K.Sink.written c.serve_records.new.output) =
    subst (λ (rs : List TapeRecord). Added (all_spelled (outputs c.args.key.now c.loop.drive.stand rs)) (g.K.Sink.written c.loop.output) (g.K.Sink.written c.serve_records.new.output)) list
    (on_ok c.serve_records.result (Added (all_spelled (outputs c.args.key.now c.loop.drive.stand c.as_slice-list.result.now)) (g.K.Sink.written c.loop.output) (g.K.Sink.written c.serve_records.new.output)) c.in_default-serve_records.not-Err c.serve_records.ensures.ok) in
    λ octets told. ends_stopped (going_stopped (going_on (c.loop.invariant.going octets told) (take c.in-Bytes.n c.read.new.into) (g.S.Source.left c.read.new.self) (g.K.Sink.written c.serve_records.new.output) c.feed.new.self c.serve_records.new.drive.stand c.in-Bytes.ensures.reads.2 c.in-Ok.ensures.after stand added) c.in-Some-stop.stop (sym c.stop.ensures ∙ c.in-Some-stop.is)) c.in-Some-stop.stop (sym c.stop.ensures ∙ c.in-Some-stop.is) c.ending_at.result c.ending_at.ensures

pub returns-in-Some-stop-clause-history : goal.returns-in-Some-stop-clause-history
returns-in-Some-stop-clause-history g c =
    let list : c.as_slice-list.result.now ≡ records c.loop.tape (take c.in-Bytes.n c.read.new.into) = c.as_slice-list.ensures ∙ c.in-Ok.ensures.records in
    let stand : c.serve_records.new.drive.stand ≡ stand_at c.args.key.now c.loop.drive.stand (records c.loop.tape (take c.in-Bytes.n c.read.new.into)) =
    on_ok c.serve_records.result (c.serve_records.new.drive.stand ≡ stand_at c.args.key.now c.loop.drive.stand c.as_slice-list.result.now) c.in_default-serve_records.not-Err c.serve_records.ensures.stand ∙ ap (stand_at c.args.key.now c.loop.drive.stand) list in
    let added : Added (all_spelled (outputs c.args.key.now c.loop.drive.stand (records c.loop.tape (take c.in-Bytes.n c.read.new.into)))) (g.K.Sink.written c.loop.output) (g.K.Sink.written c.serve_records.new.output) =
    subst (λ (rs : List TapeRecord). Added (all_spelled (outputs c.args.key.now c.loop.drive.stand rs)) (g.K.Sink.written c.loop.output) (g.K.Sink.written c.serve_records.new.output)) list
    (on_ok c.serve_records.result (Added (all_spelled (outputs c.args.key.now c.loop.drive.stand c.as_slice-list.result.now)) (g.K.Sink.written c.loop.output) (g.K.Sink.written c.serve_records.new.output)) c.in_default-serve_records.not-Err c.serve_records.ensures.ok) in
    λ octets told.
    whole_at c.in-Some-stop.stop c.ending_at.result (c.serve_records.new.drive.stand.history ≡ (drive_stand c.args.key.now c.args.drive.now.stand octets).history) c.ending_at.ensures
    (ap (λ (k : Stand). k.history) (going_stopped (going_on (c.loop.invariant.going octets told) (take c.in-Bytes.n c.read.new.into) (g.S.Source.left c.read.new.self) (g.K.Sink.written c.serve_records.new.output) c.feed.new.self c.serve_records.new.drive.stand c.in-Bytes.ensures.reads.2 c.in-Ok.ensures.after stand added) c.in-Some-stop.stop (sym c.stop.ensures ∙ c.in-Some-stop.is)).stand_is)

pub returns-in-Some-stop-clause-served : goal.returns-in-Some-stop-clause-served
returns-in-Some-stop-clause-served g c =
    let list : c.as_slice-list.result.now ≡ records c.loop.tape (take c.in-Bytes.n c.read.new.into) = c.as_slice-list.ensures ∙ c.in-Ok.ensures.records in
    let stand : c.serve_records.new.drive.stand ≡ stand_at c.args.key.now c.loop.drive.stand (records c.loop.tape (take c.in-Bytes.n c.read.new.into)) =
    on_ok c.serve_records.result (c.serve_records.new.drive.stand ≡ stand_at c.args.key.now c.loop.drive.stand c.as_slice-list.result.now) c.in_default-serve_records.not-Err c.serve_records.ensures.stand ∙ ap (stand_at c.args.key.now c.loop.drive.stand) list in
    let added : Added (all_spelled (outputs c.args.key.now c.loop.drive.stand (records c.loop.tape (take c.in-Bytes.n c.read.new.into)))) (g.K.Sink.written c.loop.output) (g.K.Sink.written c.serve_records.new.output) =
    subst (λ (rs : List TapeRecord). Added (all_spelled (outputs c.args.key.now c.loop.drive.stand rs)) (g.K.Sink.written c.loop.output) (g.K.Sink.written c.serve_records.new.output)) list
    (on_ok c.serve_records.result (Added (all_spelled (outputs c.args.key.now c.loop.drive.stand c.as_slice-list.result.now)) (g.K.Sink.written c.loop.output) (g.K.Sink.written c.serve_records.new.output)) c.in_default-serve_records.not-Err c.serve_records.ensures.ok) in
    λ octets told. going_served (going_on (c.loop.invariant.going octets told) (take c.in-Bytes.n c.read.new.into) (g.S.Source.left c.read.new.self) (g.K.Sink.written c.serve_records.new.output) c.feed.new.self c.serve_records.new.drive.stand c.in-Bytes.ensures.reads.2 c.in-Ok.ensures.after stand added)

pub returns-in-Some-stop-clause-any_moment : goal.returns-in-Some-stop-clause-any_moment
returns-in-Some-stop-clause-any_moment g c =
    let list : c.as_slice-list.result.now ≡ records c.loop.tape (take c.in-Bytes.n c.read.new.into) = c.as_slice-list.ensures ∙ c.in-Ok.ensures.records in
    λ tells octets told.
    touched_on g.D.Disk.moment g.D.Disk.image g.D.Disk.image_since g.met.D.Disk.widens c.args.drive.now.disk c.loop.drive.disk c.serve_records.new.drive.disk false c.serve_records.new.drive.failed
    (HoldsSome (Comes c.args.key.now c.args.drive.now.stand (records blank octets))) (HoldsSome (Comes c.args.key.now c.loop.drive.stand c.as_slice-list.result.now))
    (c.loop.invariant.touched tells octets told) (c.serve_records.ensures.any_moment tells)
    (λ x holds. holds_more x (λ h comes. going_comes (c.loop.invariant.going octets told) (take c.in-Bytes.n c.read.new.into) (g.S.Source.left c.read.new.self) h c.in-Bytes.ensures.reads.2
    (subst (λ (rs : List TapeRecord). Comes c.args.key.now c.loop.drive.stand rs h) list comes)) holds)

pub returns-in-Some-fault-clause-ended : goal.returns-in-Some-fault-clause-ended
returns-in-Some-fault-clause-ended g c =
    let list : c.as_slice-list.result.now ≡ records c.loop.tape (take c.in-Bytes.n c.read.new.into) = c.as_slice-list.ensures ∙ c.in-Ok.ensures.records in
    let stand : c.serve_records.new.drive.stand ≡ stand_at c.args.key.now c.loop.drive.stand (records c.loop.tape (take c.in-Bytes.n c.read.new.into)) =
    on_ok c.serve_records.result (c.serve_records.new.drive.stand ≡ stand_at c.args.key.now c.loop.drive.stand c.as_slice-list.result.now) c.in_default-serve_records.not-Err c.serve_records.ensures.stand ∙ ap (stand_at c.args.key.now c.loop.drive.stand) list in
    let added : Added (all_spelled (outputs c.args.key.now c.loop.drive.stand (records c.loop.tape (take c.in-Bytes.n c.read.new.into)))) (g.K.Sink.written c.loop.output) (g.K.Sink.written c.serve_records.new.output) =
    subst (λ (rs : List TapeRecord). Added (all_spelled (outputs c.args.key.now c.loop.drive.stand rs)) (g.K.Sink.written c.loop.output) (g.K.Sink.written c.serve_records.new.output)) list
    (on_ok c.serve_records.result (Added (all_spelled (outputs c.args.key.now c.loop.drive.stand c.as_slice-list.result.now)) (g.K.Sink.written c.loop.output) (g.K.Sink.written c.serve_records.new.output)) c.in_default-serve_records.not-Err c.serve_records.ensures.ok) in
    λ octets told. ends_bad (going_bad (going_on (c.loop.invariant.going octets told) (take c.in-Bytes.n c.read.new.into) (g.S.Source.left c.read.new.self) (g.K.Sink.written c.serve_records.new.output) c.feed.new.self c.serve_records.new.drive.stand c.in-Bytes.ensures.reads.2 c.in-Ok.ensures.after stand added) (sym c.ended.ensures ∙ c.if-ended.true)) (search (rules, c.stop.ensures)) c.in-Some-fault.place (sym c.fault-then-ended.ensures ∙ c.in-Some-fault.is)

pub returns-in-Some-fault-clause-history : goal.returns-in-Some-fault-clause-history
returns-in-Some-fault-clause-history g c =
    let list : c.as_slice-list.result.now ≡ records c.loop.tape (take c.in-Bytes.n c.read.new.into) = c.as_slice-list.ensures ∙ c.in-Ok.ensures.records in
    let stand : c.serve_records.new.drive.stand ≡ stand_at c.args.key.now c.loop.drive.stand (records c.loop.tape (take c.in-Bytes.n c.read.new.into)) =
    on_ok c.serve_records.result (c.serve_records.new.drive.stand ≡ stand_at c.args.key.now c.loop.drive.stand c.as_slice-list.result.now) c.in_default-serve_records.not-Err c.serve_records.ensures.stand ∙ ap (stand_at c.args.key.now c.loop.drive.stand) list in
    let added : Added (all_spelled (outputs c.args.key.now c.loop.drive.stand (records c.loop.tape (take c.in-Bytes.n c.read.new.into)))) (g.K.Sink.written c.loop.output) (g.K.Sink.written c.serve_records.new.output) =
    subst (λ (rs : List TapeRecord). Added (all_spelled (outputs c.args.key.now c.loop.drive.stand rs)) (g.K.Sink.written c.loop.output) (g.K.Sink.written c.serve_records.new.output)) list
    (on_ok c.serve_records.result (Added (all_spelled (outputs c.args.key.now c.loop.drive.stand c.as_slice-list.result.now)) (g.K.Sink.written c.loop.output) (g.K.Sink.written c.serve_records.new.output)) c.in_default-serve_records.not-Err c.serve_records.ensures.ok) in
    λ octets told. ap (λ (k : Stand). k.history) (going_bad (going_on (c.loop.invariant.going octets told) (take c.in-Bytes.n c.read.new.into) (g.S.Source.left c.read.new.self) (g.K.Sink.written c.serve_records.new.output) c.feed.new.self c.serve_records.new.drive.stand c.in-Bytes.ensures.reads.2 c.in-Ok.ensures.after stand added) (sym c.ended.ensures ∙ c.if-ended.true)).stand_is

pub returns-in-Some-fault-clause-served : goal.returns-in-Some-fault-clause-served
returns-in-Some-fault-clause-served g c =
    let list : c.as_slice-list.result.now ≡ records c.loop.tape (take c.in-Bytes.n c.read.new.into) = c.as_slice-list.ensures ∙ c.in-Ok.ensures.records in
    let stand : c.serve_records.new.drive.stand ≡ stand_at c.args.key.now c.loop.drive.stand (records c.loop.tape (take c.in-Bytes.n c.read.new.into)) =
    on_ok c.serve_records.result (c.serve_records.new.drive.stand ≡ stand_at c.args.key.now c.loop.drive.stand c.as_slice-list.result.now) c.in_default-serve_records.not-Err c.serve_records.ensures.stand ∙ ap (stand_at c.args.key.now c.loop.drive.stand) list in
    let added : Added (all_spelled (outputs c.args.key.now c.loop.drive.stand (records c.loop.tape (take c.in-Bytes.n c.read.new.into)))) (g.K.Sink.written c.loop.output) (g.K.Sink.written c.serve_records.new.output) =
    subst (λ (rs : List TapeRecord). Added (all_spelled (outputs c.args.key.now c.loop.drive.stand rs)) (g.K.Sink.written c.loop.output) (g.K.Sink.written c.serve_records.new.output)) list
    (on_ok c.serve_records.result (Added (all_spelled (outputs c.args.key.now c.loop.drive.stand c.as_slice-list.result.now)) (g.K.Sink.written c.loop.output) (g.K.Sink.written c.serve_records.new.output)) c.in_default-serve_records.not-Err c.serve_records.ensures.ok) in
    λ octets told. going_served (going_on (c.loop.invariant.going octets told) (take c.in-Bytes.n c.read.new.into) (g.S.Source.left c.read.new.self) (g.K.Sink.written c.serve_records.new.output) c.feed.new.self c.serve_records.new.drive.stand c.in-Bytes.ensures.reads.2 c.in-Ok.ensures.after stand added)

pub returns-in-Some-fault-clause-any_moment : goal.returns-in-Some-fault-clause-any_moment
returns-in-Some-fault-clause-any_moment g c =
    let list : c.as_slice-list.result.now ≡ records c.loop.tape (take c.in-Bytes.n c.read.new.into) = c.as_slice-list.ensures ∙ c.in-Ok.ensures.records in
    λ tells octets told.
    touched_on g.D.Disk.moment g.D.Disk.image g.D.Disk.image_since g.met.D.Disk.widens c.args.drive.now.disk c.loop.drive.disk c.serve_records.new.drive.disk false c.serve_records.new.drive.failed
    (HoldsSome (Comes c.args.key.now c.args.drive.now.stand (records blank octets))) (HoldsSome (Comes c.args.key.now c.loop.drive.stand c.as_slice-list.result.now))
    (c.loop.invariant.touched tells octets told) (c.serve_records.ensures.any_moment tells)
    (λ x holds. holds_more x (λ h comes. going_comes (c.loop.invariant.going octets told) (take c.in-Bytes.n c.read.new.into) (g.S.Source.left c.read.new.self) h c.in-Bytes.ensures.reads.2
    (subst (λ (rs : List TapeRecord). Comes c.args.key.now c.loop.drive.stand rs h) list comes)) holds)

pub loop-preserved : goal.loop-preserved
loop-preserved g c =
    let list : c.as_slice-list.result.now ≡ records c.loop.tape (take c.in-Bytes.n c.read.new.into) = c.as_slice-list.ensures ∙ c.in-Ok.ensures.records in
    let stand : c.serve_records.new.drive.stand ≡ stand_at c.args.key.now c.loop.drive.stand (records c.loop.tape (take c.in-Bytes.n c.read.new.into)) =
    on_ok c.serve_records.result (c.serve_records.new.drive.stand ≡ stand_at c.args.key.now c.loop.drive.stand c.as_slice-list.result.now) c.in_default-serve_records.not-Err c.serve_records.ensures.stand ∙ ap (stand_at c.args.key.now c.loop.drive.stand) list in
    let added : Added (all_spelled (outputs c.args.key.now c.loop.drive.stand (records c.loop.tape (take c.in-Bytes.n c.read.new.into)))) (g.K.Sink.written c.loop.output) (g.K.Sink.written c.serve_records.new.output) =
    subst (λ (rs : List TapeRecord). Added (all_spelled (outputs c.args.key.now c.loop.drive.stand rs)) (g.K.Sink.written c.loop.output) (g.K.Sink.written c.serve_records.new.output)) list
    (on_ok c.serve_records.result (Added (all_spelled (outputs c.args.key.now c.loop.drive.stand c.as_slice-list.result.now)) (g.K.Sink.written c.loop.output) (g.K.Sink.written c.serve_records.new.output)) c.in_default-serve_records.not-Err c.serve_records.ensures.ok) in
    let fine : c.serve_records.new.drive.failed ≡ false = c.serve_records.ensures.failed ∙ never_failed c.serve_records.result c.in_default-serve_records.not-Err in
    record {
      going = λ octets told. (going_on (c.loop.invariant.going octets told) (take c.in-Bytes.n c.read.new.into) (g.S.Source.left c.read.new.self) (g.K.Sink.written c.serve_records.new.output) c.feed.new.self c.serve_records.new.drive.stand c.in-Bytes.ensures.reads.2 c.in-Ok.ensures.after stand added);
      touched = λ tells octets told.
          subst (λ (b : Bool). IsTouched g.D.Disk.moment g.D.Disk.image g.D.Disk.image_since c.args.drive.now.disk c.serve_records.new.drive.disk b (HoldsSome (Comes c.args.key.now c.args.drive.now.stand (records blank octets)))) fine
          (touched_on g.D.Disk.moment g.D.Disk.image g.D.Disk.image_since g.met.D.Disk.widens c.args.drive.now.disk c.loop.drive.disk c.serve_records.new.drive.disk false c.serve_records.new.drive.failed
          (HoldsSome (Comes c.args.key.now c.args.drive.now.stand (records blank octets))) (HoldsSome (Comes c.args.key.now c.loop.drive.stand c.as_slice-list.result.now))
          (c.loop.invariant.touched tells octets told) (c.serve_records.ensures.any_moment tells)
          (λ x holds. holds_more x (λ h comes. going_comes (c.loop.invariant.going octets told) (take c.in-Bytes.n c.read.new.into) (g.S.Source.left c.read.new.self) h c.in-Bytes.ensures.reads.2
          (subst (λ (rs : List TapeRecord). Comes c.args.key.now c.loop.drive.stand rs h) list comes)) holds));
      many = λ octets told. spent_more (c.loop.invariant.many octets told) (take c.in-Bytes.n c.read.new.into) (g.S.Source.left c.read.new.self) (some_taken c.in-Bytes.n c.read.new.into c.in-Bytes.ensures.reads.0 c.in-Bytes.ensures.reads.1) c.in-Bytes.ensures.reads.2;
      goes = search (rules, c.stop.ensures);
      working = fine;
      reads = omega (arith, c.loop.invariant.reads, c.in-Bytes.ensures.cause);
      writes = omega (arith, c.loop.invariant.writes, c.serve_records.ensures.later);
      calls = omega (arith, c.loop.invariant.calls, c.serve_records.ensures.disk_later);
    }

pub returns-clause-served : goal.returns-clause-served
returns-clause-served g c =
    λ octets told. going_served (c.loop.invariant.going octets told)

pub returns-clause-last : goal.returns-clause-last
returns-clause-last g c =
    λ none octets told.
    let many : c.loop.counter ≤ length octets = spent_all (c.loop.invariant.many octets told) in
    omega (arith, many, c.loop-test.false)
