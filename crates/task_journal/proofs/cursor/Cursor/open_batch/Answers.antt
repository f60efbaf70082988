use Rattle.std.proofs.Common.{◌<◌, ◌≤◌, drop, Option, Ok, sym, subst, ◌∙◌, arith}
use Rattle.std.proofs.lemmas.Result.{err_from_is_err_and}
use Rattle.task_journal.specs.declared.cursor.Opened.{Opened}
use Rattle.task_journal.specs.Journal.{found_from}
use Rattle.task_journal.specs.Cursor.{Standing, Opens, to_come}
use Rattle.task_journal.proofs.Loops.{fails_along}
use Rattle.task_journal.proofs.Coming.{over_come, closed_come, open_come, shut_on, shut_come, batch_on, batch_come}
use Rattle.task_journal.proofs.cursor.Cursor.open_batch.Goals as goal

pub returns-then-place-self-clause-value : goal.returns-then-place-self-clause-value
returns-then-place-self-clause-value g c = λ told.
    let f = c.self.inside in
    let at : Standing = record { version = f.version; ready = f.window; size = f.size; left = f.left; end = f.end; gate = f.gate; closed = f.closed } in
    let on = rw (← c.self.view_is) at (c.requires.on told) in
    let taken = rw (← c.self.view_is) at c.requires.taken in
    let lt : f.window.place < f.end = omega (arith, c.if-place-self.true, c.place.ensures) in
    rw (← c.self.view_is, c.place-then-place-self.ensures) (over_come at (g.D.Disk.content c.args.disk.now) on taken lt)

pub returns-then-self-clause-value : goal.returns-then-self-clause-value
returns-then-self-clause-value g c = λ told.
    let f = c.self.inside in
    let at : Standing = record { version = f.version; ready = f.window; size = f.size; left = f.left; end = f.end; gate = f.gate; closed = f.closed } in
    let on = rw (← c.self.view_is) at (c.requires.on told) in
    let taken = rw (← c.self.view_is) at c.requires.taken in
    let le : f.end ≤ f.window.place = omega (arith, c.if-place-self.false, c.place.ensures) in
    let is = closed_come at (g.D.Disk.content c.args.disk.now) on taken le c.if-self.true in
    rw (← c.self.view_is) (is, is)

pub returns-in_err-open_gate-clause-value : goal.returns-in_err-open_gate-clause-value
returns-in_err-open_gate-clause-value g c = λ told.
    let f = c.self.inside in
    let at : Standing = record { version = f.version; ready = f.window; size = f.size; left = f.left; end = f.end; gate = f.gate; closed = f.closed } in
    let disk = g.D.Disk.content c.args.disk.now in
    let on = rw (← c.self.view_is) at (c.requires.on told) in
    let taken = rw (← c.self.view_is) at c.requires.taken in
    let le : f.end ≤ f.window.place = omega (arith, c.if-place-self.false, c.place.ensures) in
    let p = err_from_is_err_and c.from_residual.result c.from_residual.ensures.1 in
    rw (p.1, p.2, ← c.self.view_is)
    (fails_along c.in_err-open_gate.field-0.0 (found_from f.version f.size 0 (drop f.gate disk)) (to_come at disk) (sym (open_come at disk on taken le c.if-self.false)) (c.in_err-open_gate.ensures.value told f.version))

pub returns-in-None-clause-on : goal.returns-in-None-clause-on
returns-in-None-clause-on g c = λ told.
    let f = c.self.inside in
    let at : Standing = record { version = f.version; ready = f.window; size = f.size; left = f.left; end = f.end; gate = f.gate; closed = f.closed } in
    let disk = g.D.Disk.content c.args.disk.now in
    let on = rw (← c.self.view_is) at (c.requires.on told) in
    let opens = subst (λ (o : Option Opened). Opens f.version f.size disk f.gate (Ok o)) c.in-None.is (c.in_ok-open_gate.ensures.value told f.version) in
    rw c.restart.ensures (shut_on at disk f.gate on opens.0)

pub returns-in-None-clause-value : goal.returns-in-None-clause-value
returns-in-None-clause-value g c = λ told.
    let f = c.self.inside in
    let at : Standing = record { version = f.version; ready = f.window; size = f.size; left = f.left; end = f.end; gate = f.gate; closed = f.closed } in
    let disk = g.D.Disk.content c.args.disk.now in
    let on = rw (← c.self.view_is) at (c.requires.on told) in
    let taken = rw (← c.self.view_is) at c.requires.taken in
    let le : f.end ≤ f.window.place = omega (arith, c.if-place-self.false, c.place.ensures) in
    let opens = subst (λ (o : Option Opened). Opens f.version f.size disk f.gate (Ok o)) c.in-None.is (c.in_ok-open_gate.ensures.value told f.version) in
    rw (← c.self.view_is, c.restart.ensures) (open_come at disk on taken le c.if-self.false ∙ opens.1, shut_come f.version f.size f.left f.gate disk taken)

pub returns-in-Some-clause-on : goal.returns-in-Some-clause-on
returns-in-Some-clause-on g c = λ told.
    let f = c.self.inside in
    let at : Standing = record { version = f.version; ready = f.window; size = f.size; left = f.left; end = f.end; gate = f.gate; closed = f.closed } in
    let disk = g.D.Disk.content c.args.disk.now in
    let b = c.in-Some.batch in
    let on = rw (← c.self.view_is) at (c.requires.on told) in
    let opens = subst (λ (o : Option Opened). Opens f.version f.size disk f.gate (Ok o)) c.in-Some.is (c.in_ok-open_gate.ensures.value told f.version) in
    rw c.restart-in-Some.ensures (batch_on at disk b.count b.from b.end b.next on opens.0 opens.1)

pub returns-in-Some-clause-value : goal.returns-in-Some-clause-value
returns-in-Some-clause-value g c = λ told.
    let f = c.self.inside in
    let at : Standing = record { version = f.version; ready = f.window; size = f.size; left = f.left; end = f.end; gate = f.gate; closed = f.closed } in
    let disk = g.D.Disk.content c.args.disk.now in
    let b = c.in-Some.batch in
    let on = rw (← c.self.view_is) at (c.requires.on told) in
    let taken = rw (← c.self.view_is) at c.requires.taken in
    let le : f.end ≤ f.window.place = omega (arith, c.if-place-self.false, c.place.ensures) in
    let opens = subst (λ (o : Option Opened). Opens f.version f.size disk f.gate (Ok o)) c.in-Some.is (c.in_ok-open_gate.ensures.value told f.version) in
    rw (← c.self.view_is, c.restart-in-Some.ensures) (open_come at disk on taken le c.if-self.false ∙ opens.2 ∙ sym (batch_come f.version f.size b.count b.from b.end b.next f.closed disk c.if-self.false))
