use Rattle.std.proofs.Common.{◌≡◌, ◌∷◌, ◌≤◌, [], Bool, false, length, subst, arith}
use Rattle.tape_drive.specs.Served.{Comes, HoldsSome, IsTouched}
use Rattle.tape_drive.proofs.Way.{touched_on, holds_more}
use Rattle.quick_commands.proofs.ServedRecords.{at_more, at_served, at_comes, end_served}
use Rattle.quick_commands.proofs.replay.serve_records.Goals as goal

pub returns-in_err-serve_record-clause-served : goal.returns-in_err-serve_record-clause-served
returns-in_err-serve_record-clause-served g c =
    at_served c.args.key.now c.args.drive.now.stand c.args.list.now c.loop-item.item-index (g.K.Sink.written c.args.output.now) (g.K.Sink.written c.loop-item.output) (g.K.Sink.written c.serve_record.new.output) c.loop-item.drive.stand
    c.item-item.result c.serve_record.new.drive.stand.history c.loop-item.invariant.at c.loop-item-test.true c.item-item.is c.serve_record.ensures.served

pub returns-in_err-serve_record-clause-any_moment : goal.returns-in_err-serve_record-clause-any_moment
returns-in_err-serve_record-clause-any_moment g c =
    λ tells.
    touched_on g.D.Disk.moment g.D.Disk.image g.D.Disk.image_since g.met.D.Disk.widens c.args.drive.now.disk c.loop-item.drive.disk c.serve_record.new.drive.disk false c.serve_record.new.drive.failed
    (HoldsSome (Comes c.args.key.now c.args.drive.now.stand c.args.list.now)) (HoldsSome (Comes c.args.key.now c.loop-item.drive.stand (c.item-item.result ∷ [])))
    (c.loop-item.invariant.touched tells) (c.serve_record.ensures.any_moment tells)
    (λ x holds. holds_more x (λ h comes.
    at_comes c.args.key.now c.args.drive.now.stand c.args.list.now c.loop-item.item-index (g.K.Sink.written c.args.output.now) (g.K.Sink.written c.loop-item.output) c.loop-item.drive.stand c.item-item.result h c.loop-item.invariant.at
    c.loop-item-test.true c.item-item.is comes) holds)

pub returns-in_err-serve_record-clause-left : goal.returns-in_err-serve_record-clause-left
returns-in_err-serve_record-clause-left g c =
    λ tells is x now.
    holds_more x (λ h w.
    at_served c.args.key.now c.args.drive.now.stand c.args.list.now c.loop-item.item-index (g.K.Sink.written c.args.output.now) (g.K.Sink.written c.loop-item.output) (g.K.Sink.written c.serve_record.new.output) c.loop-item.drive.stand
    c.item-item.result h c.loop-item.invariant.at c.loop-item-test.true c.item-item.is w) (c.serve_record.ensures.left tells is x now)

pub loop-item-preserved : goal.loop-item-preserved
loop-item-preserved g c =
    let fine : c.serve_record.new.drive.failed ≡ false = c.in_ok-serve_record.ensures.failed in
    record {
      at = at_more c.args.key.now c.args.drive.now.stand c.args.list.now c.loop-item.item-index (g.K.Sink.written c.args.output.now) (g.K.Sink.written c.loop-item.output) (g.K.Sink.written c.serve_record.new.output) c.loop-item.drive.stand
          c.serve_record.new.drive.stand c.item-item.result c.loop-item.invariant.at c.loop-item-test.true c.item-item.is c.in_ok-serve_record.ensures.stand c.in_ok-serve_record.ensures.ok;
      touched = λ tells.
          subst (λ (b : Bool). IsTouched g.D.Disk.moment g.D.Disk.image g.D.Disk.image_since c.args.drive.now.disk c.serve_record.new.drive.disk b (HoldsSome (Comes c.args.key.now c.args.drive.now.stand c.args.list.now))) fine
          (touched_on g.D.Disk.moment g.D.Disk.image g.D.Disk.image_since g.met.D.Disk.widens c.args.drive.now.disk c.loop-item.drive.disk c.serve_record.new.drive.disk false c.serve_record.new.drive.failed
          (HoldsSome (Comes c.args.key.now c.args.drive.now.stand c.args.list.now)) (HoldsSome (Comes c.args.key.now c.loop-item.drive.stand (c.item-item.result ∷ [])))
          (c.loop-item.invariant.touched tells) (c.serve_record.ensures.any_moment tells)
          (λ x holds. holds_more x (λ h comes.
          at_comes c.args.key.now c.args.drive.now.stand c.args.list.now c.loop-item.item-index (g.K.Sink.written c.args.output.now) (g.K.Sink.written c.loop-item.output) c.loop-item.drive.stand c.item-item.result h c.loop-item.invariant.at
          c.loop-item-test.true c.item-item.is comes) holds));
      working = fine;
      writes = omega (arith, c.loop-item.invariant.writes, c.serve_record.ensures.later);
      calls = omega (arith, c.loop-item.invariant.calls, c.serve_record.ensures.disk_later);
    }

pub returns-clause-served : goal.returns-clause-served
returns-clause-served g c =
    let end : length c.args.list.now ≤ c.loop-item.item-index = omega (arith, c.loop-item-test.false) in
    end_served c.args.key.now c.args.drive.now.stand c.args.list.now c.loop-item.item-index (g.K.Sink.written c.args.output.now) (g.K.Sink.written c.loop-item.output) c.loop-item.drive.stand c.loop-item.invariant.at end
