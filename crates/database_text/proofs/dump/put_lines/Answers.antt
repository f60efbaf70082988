use Rattle.std.proofs.Common.{ℕ, List, Option, None, Ok, subst, arith}
use Rattle.task_journal.specs.declared.cursor.Placed.{Placed}
use Rattle.task_journal.specs.Cursor.{IsOn, Advances}
use Rattle.task_journal.proofs.Calls.{reads_joined}
use Rattle.database_text.proofs.Giving.{halfway_begins, halfway_next, halfway_put, halfway_front, halfway_broken, halfway_ended, halfway_ends}
use Rattle.edges.specs.Streams.{Added, AddedFront}
use Rattle.database_text.proofs.Fronts.{front_all}
use Rattle.database_text.proofs.dump.put_lines.Goals as goal

pub loop-cursor-init : goal.loop-cursor-init
loop-cursor-init g c = record {
  halfway = halfway_begins g.D.Disk.tells (g.D.Disk.content c.args.disk.now) c.in_ok-cursor.cursor (g.K.Sink.written c.args.output.now) c.new-lines.result.items c.in_ok-cursor.ensures.on c.in_ok-cursor.ensures.value c.new-lines.ensures.items;
  reads = c.begin.ensures.reads;
  later = omega arith;
}

pub loop-cursor-preserved : goal.loop-cursor-preserved
loop-cursor-preserved g c =
    let old = c.loop-cursor.cursor in
    let new = c.next.new.self in
    let same = c.loop-cursor.invariant.reads.same in
    let put = c.in_ok-put_entry.ensures.ok in
    record {
      halfway =
          halfway_put
          (halfway_next c.loop-cursor.invariant.halfway new c.in-Some.placed
          (λ told. subst (λ (d : List ℕ). IsOn new d) same (c.in_ok-placed.ensures.on told))
          (λ told. subst (λ (o : Option Placed). Advances (g.D.Disk.content c.args.disk.now) old new (Ok o)) c.in-Some.is
          (subst (λ (d : List ℕ). Advances d old new (Ok c.in_ok-placed.field-0)) same (c.in_ok-placed.ensures.value told))))
          put.0 c.put_entry.new.pending.items (g.K.Sink.written c.put_entry.new.output) put.1 put.2;
      reads = reads_joined c.loop-cursor.invariant.reads c.next.ensures.reads;
      later = omega (arith, c.loop-cursor.invariant.later, c.put_entry.ensures.later);
    }

pub returns-in_err-placed-clause-front : goal.returns-in_err-placed-clause-front
returns-in_err-placed-clause-front g c = λ told whole stands. halfway_front c.loop-cursor.invariant.halfway told whole stands

pub returns-in_err-put_entry-clause-front : goal.returns-in_err-put_entry-clause-front
returns-in_err-put_entry-clause-front g c = λ told whole stands.
    let old = c.loop-cursor.cursor in
    let new = c.next.new.self in
    let same = c.loop-cursor.invariant.reads.same in
    halfway_broken
    (halfway_next c.loop-cursor.invariant.halfway new c.in-Some.placed
    (λ told. subst (λ (d : List ℕ). IsOn new d) same (c.in_ok-placed.ensures.on told))
    (λ told. subst (λ (o : Option Placed). Advances (g.D.Disk.content c.args.disk.now) old new (Ok o)) c.in-Some.is
    (subst (λ (d : List ℕ). Advances d old new (Ok c.in_ok-placed.field-0)) same (c.in_ok-placed.ensures.value told))))
    (g.K.Sink.written c.put_entry.new.output) c.in_err-put_entry.ensures.err told whole stands

pub returns-in_err-put-clause-front : goal.returns-in_err-put-clause-front
returns-in_err-put-clause-front g c = λ told whole stands.
    let front = subst (λ (xs : List ℕ). AddedFront xs (g.K.Sink.written c.loop-cursor.output) (g.K.Sink.written c.put.new.output)) c.as_slice.ensures.value c.in_err-put.ensures.err in
    halfway_broken c.loop-cursor.invariant.halfway (g.K.Sink.written c.put.new.output) front told whole stands

pub returns-clause-front : goal.returns-clause-front
returns-clause-front g c = λ told whole stands.
    let now = g.K.Sink.written c.put.new.output in
    let added = subst (λ (xs : List ℕ). Added xs (g.K.Sink.written c.loop-cursor.output) now) c.as_slice.ensures.value c.in_ok-put.ensures.ok in
    halfway_broken c.loop-cursor.invariant.halfway now (front_all c.loop-cursor.lines.items (g.K.Sink.written c.loop-cursor.output) now added) told whole stands

pub returns-clause-ok : goal.returns-clause-ok
returns-clause-ok g c =
    let old = c.loop-cursor.cursor in
    let new = c.next.new.self in
    let disk = g.D.Disk.content c.args.disk.now in
    let same = c.loop-cursor.invariant.reads.same in
    let now = g.K.Sink.written c.put.new.output in
    let none : g.D.Disk.tells → Advances disk old new (Ok None) = λ told.
    subst (λ (o : Option Placed). Advances disk old new (Ok o)) c.in_default.is (subst (λ (d : List ℕ). Advances d old new (Ok c.in_ok-placed.field-0)) same (c.in_ok-placed.ensures.value told)) in
    let on : g.D.Disk.tells → IsOn new disk = λ told. subst (λ (d : List ℕ). IsOn new d) same (c.in_ok-placed.ensures.on told) in
    let added = subst (λ (xs : List ℕ). Added xs (g.K.Sink.written c.loop-cursor.output) now) c.as_slice.ensures.value c.in_ok-put.ensures.ok in
    halfway_ends (halfway_ended c.loop-cursor.invariant.halfway new on none) (λ told. (none told).1) now added
