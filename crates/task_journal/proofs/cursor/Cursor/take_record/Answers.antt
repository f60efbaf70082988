use Rattle.std.proofs.Common.{◌≡◌, ◌<◌, ◌-◌, suc, arith}
use Rattle.std.proofs.lemmas.Result.{err_from_is_err_and}
use Rattle.task_journal.proofs.Coming.{record_comes, record_fails}
use Rattle.task_journal.proofs.cursor.Cursor.take_record.Goals as goal

pub returns-in_err-entry-clause-value : goal.returns-in_err-entry-clause-value
returns-in_err-entry-clause-value g c = λ told.
    let p = err_from_is_err_and c.from_residual.result c.from_residual.ensures.1 in
    let at = c.self.inside in
    let left : 0 < at.left = rw (← c.self.view_is) at c.requires.left in
    let some : at.left ≡ suc (at.left - 1) = omega (arith, left) in
    rw (p.1, p.2, ← c.self.view_is)
    (record_fails c.in_err-entry.field-0.0 (record { version = at.version; ready = at.window; size = at.size; left = at.left; end = at.end; gate = at.gate; closed = at.closed }) (at.left - 1) (g.D.Disk.content c.args.disk.now) some (c.in_err-entry.ensures.value told))

pub returns-clause-value : goal.returns-clause-value
returns-clause-value g c = λ told.
    let at = c.self.inside in
    let left : 0 < at.left = rw (← c.self.view_is) at c.requires.left in
    let some : at.left ≡ suc (at.left - 1) = omega (arith, left) in
    let on = rw (← c.self.view_is) at (c.requires.on told) in
    rw (← c.self.view_is, c.place-place.ensures)
    (record_comes (record { version = at.version; ready = at.window; size = at.size; left = at.left; end = at.end; gate = at.gate; closed = at.closed }) c.next_record.new.window (at.left - 1) (g.D.Disk.content c.args.disk.now) c.in_ok-entry.entry on some (c.in_ok-entry.ensures.value told))
