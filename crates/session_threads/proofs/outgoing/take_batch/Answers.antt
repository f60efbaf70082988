use Rattle.std.proofs.Common.{◌∙◌, List, [], ℕ, refl, sym, subst, arith}
use Rattle.history_lock.specs.Names.{known}
use Rattle.history_lock.proofs.Growing.{extends_self}
use Rattle.cluster_store.specs.declared.taken.Taken.{Taken}
use Rattle.controller_desk.specs.Calls.{HasTaken}
use Rattle.session_threads.specs.Writing.{Took, TookSome}
use Rattle.session_threads.proofs.Taking.{took_turn, took_nothing, no_more}
use Rattle.session_threads.proofs.outgoing.take_batch.Goals as goal
use Rattle.cluster_types.proofs.Options.{at_err}

pub loop-outs-init : goal.loop-outs-init
loop-outs-init g c = record {
  idle = c.requires.idle;
  room = refl;
  took = ([], record { takes = extends_self _; added = refl; share = refl }, c.new-octets.ensures.items);
  rested = λ some. absurd (omega (arith, some));
}

pub returns-in_err-put_out-in-Out-clause-err : goal.returns-in_err-put_out-in-Out-clause-err
returns-in_err-put_out-in-Out-clause-err g c =
    let t = c.take_out.ensures.turn in
    let some : TookSome c.args.context.now.key.now c.args.conn (known c.args.pass.now) (known c.take_out.new.pass) =
    (_, took_turn g.T.Disk.Disk.faults c.args.context.now.key.now c.args.conn _ _ _ t.0 t.1 c.in-Out.out _ (omega (arith, c.ranges.conn)) c.loop-outs.invariant.took t.2 (subst (λ (x : Taken). HasTaken t.0 c.args.conn x t.1) c.in-Out.is t.3)) in
    at_err _ some

pub returns-in-NothingYet-clause-ok : goal.returns-in-NothingYet-clause-ok
returns-in-NothingYet-clause-ok g c =
    let t = c.take_out.ensures.turn in
    took_nothing g.T.Disk.Disk.faults c.args.context.now.key.now c.args.conn _ _ _ t.0 t.1 c.take_out.result _ c.loop-outs.invariant.took t.2 t.3

pub returns-in-Closed-clause-ok : goal.returns-in-Closed-clause-ok
returns-in-Closed-clause-ok g c =
    let t = c.take_out.ensures.turn in
    took_nothing g.T.Disk.Disk.faults c.args.context.now.key.now c.args.conn _ _ _ t.0 t.1 c.take_out.result _ c.loop-outs.invariant.took t.2 t.3

pub returns-in-Closed-clause-closed : goal.returns-in-Closed-clause-closed
returns-in-Closed-clause-closed g c =
    λ _.
    let t = c.take_out.ensures.turn in
    no_more g.T.Disk.Disk.faults _ _ t.0 t.1 c.args.conn (omega (arith, c.ranges.conn)) t.2 (subst (λ (x : Taken). HasTaken t.0 c.args.conn x t.1) c.in-Closed.is t.3)

pub returns-then-len-ge-BATCH_OCTETS-clause-ok : goal.returns-then-len-ge-BATCH_OCTETS-clause-ok
returns-then-len-ge-BATCH_OCTETS-clause-ok g c =
    let t = c.take_out.ensures.turn in
    subst (λ (xs : List ℕ). Took c.args.context.now.key.now c.args.conn xs (known c.args.pass.now) (known c.take_out.new.pass)) (sym c.in_ok-put_out-in-Out.ensures)
    (took_turn g.T.Disk.Disk.faults c.args.context.now.key.now c.args.conn _ _ _ t.0 t.1 c.in-Out.out _ (omega (arith, c.ranges.conn)) c.loop-outs.invariant.took t.2 (subst (λ (x : Taken). HasTaken t.0 c.args.conn x t.1) c.in-Out.is t.3))

pub loop-outs-preserved : goal.loop-outs-preserved
loop-outs-preserved g c =
    let t = c.take_out.ensures.turn in
    record {
      idle = c.take_out.ensures.back.0;
      room = c.take_out.ensures.back.1 ∙ c.loop-outs.invariant.room;
      took = subst (λ (xs : List ℕ). Took c.args.context.now.key.now c.args.conn xs (known c.args.pass.now) (known c.take_out.new.pass)) (sym c.in_ok-put_out-in-Out.ensures)
          (took_turn g.T.Disk.Disk.faults c.args.context.now.key.now c.args.conn _ _ _ t.0 t.1 c.in-Out.out _ (omega (arith, c.ranges.conn)) c.loop-outs.invariant.took t.2 (subst (λ (x : Taken). HasTaken t.0 c.args.conn x t.1) c.in-Out.is t.3));
      rested = λ _. c.take_out.ensures.back.2;
    }
