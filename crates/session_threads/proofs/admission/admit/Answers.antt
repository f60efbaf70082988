use Rattle.std.proofs.Common.{◌≡◌, ◌∙◌, ℕ, Result, Err, ap, refl, subst, sym}
use Rattle.std.specs.Prelude.{All}
use Rattle.controller_desk.specs.declared.fault.ActError.{ActError}
use Rattle.controller_desk.specs.Calls.{HasOpened}
use Rattle.session_threads.proofs.Admitting.{both_kept, from_first}
use Rattle.session_threads.specs.Admission.{IsFrom}
use Rattle.history_lock.specs.Names.{known, lock_id, IsIdle}
use Rattle.session_threads.proofs.admission.admit.Goals as goal

pub returns-in-Err-clause-act : goal.returns-in-Err-clause-act
returns-in-Err-clause-act g c =
    λ e is.
    let same : c.in-Err.error ≡ e = cc in
    let t = c.open_conn-opened.ensures.turn in
    record {
      left = known c.two_passes.new.pool.pass;
      seen = c.two_passes.ensures.seen;
      added = c.two_passes.ensures.added;
      before = t.0;
      after = t.1;
      turn = t.2;
      moment = t.3.0;
      word = t.3.1;
      opened = subst (λ (r : Result ℕ ActError). HasOpened t.0 t.3.0 t.3.1 c.args.channel c.args.identity.now r t.1) (c.in-Err.is ∙ ap Err same) t.3.2;
    }

pub returns-in-Err-clause-kept : goal.returns-in-Err-clause-kept
returns-in-Err-clause-kept g c =
    both_kept (IsIdle (lock_id c.args.context.now.desk.now.lock)) _ _ _ c.in-Some.passes.reading c.in-Some.passes.writing c.two_passes.ensures.kept c.in-Some.ensures.some.0 c.in-Some.ensures.some.1 c.push_reserved.ensures.items c.push_reserved-in-Err.ensures.items

pub returns-in-Err-clause-from : goal.returns-in-Err-clause-from
returns-in-Err-clause-from g c =
    let given = c.in-Some.ensures.from in
    let first = subst (All (IsFrom c.args.pool.now.kept.items (known c.args.pool.now.pass).seen)) (sym (c.in-Some.ensures.taken refl).0) (from_first c.args.pool.now.kept.items (known c.args.pool.now.pass).seen c.in-Some.passes.reading _) in
    both_kept (IsFrom c.args.pool.now.kept.items (known c.args.pool.now.pass).seen) _ _ _ c.in-Some.passes.reading c.in-Some.passes.writing first given.0 given.1 c.push_reserved.ensures.items c.push_reserved-in-Err.ensures.items
