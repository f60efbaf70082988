use Rattle.std.proofs.Common.{subst, arith, ℕ, List, Err}
use Rattle.std.proofs.lemmas.Result.{err_from_is_err_and}
use Rattle.task_journal.specs.Window.{HasHead}
use Rattle.task_journal.proofs.On.{head_fails}
use Rattle.task_journal.proofs.Coming.{begun_short, begun_long}
use Rattle.task_journal.proofs.cursor.Cursor.begin.Goals as goal

pub returns-then-size-lt33-clause-value : goal.returns-then-size-lt33-clause-value
returns-then-size-lt33-clause-value g c = λ told.
    rw c.new-window.ensures (begun_short _ c.in_ok-size.size (g.D.Disk.content c.args.disk.now) (c.in_ok-size.ensures.value told) c.if-size-lt33.true)

pub returns-in_err-version-clause-value : goal.returns-in_err-version-clause-value
returns-in_err-version-clause-value g c = λ told.
    let p = err_from_is_err_and c.from_residual-in_err-version.result c.from_residual-in_err-version.ensures.1 in
    let other = subst (λ (d : List ℕ). HasHead d (Err c.in_err-version.field-0.0)) c.size_of.ensures.reads.same (c.in_err-version.ensures.value told) in
    rw (p.1, p.2) (head_fails c.in_err-version.field-0.0 (g.D.Disk.content c.args.disk.now) (omega (arith, c.in_ok-size.ensures.value told)) other)

pub returns-clause-value : goal.returns-clause-value
returns-clause-value g c = λ told.
    let same = rw c.size_of.ensures.reads.same at (c.in_ok-version.ensures.value told) in
    rw c.restart.ensures (begun_long c.in_ok-version.version c.in_ok-size.size (g.D.Disk.content c.args.disk.now) (c.in_ok-size.ensures.value told) c.if-size-lt33.false same.0 same.1)
