use Rattle.std.proofs.Common.{◌≡◌, ◌+◌, ◌-◌, ◌<◌, ℕ, List, Option, Ok, length, subst, arith}
use Rattle.std.specs.Prelude.{IfSome}
use Rattle.database_text.specs.Lines.{line}
use Rattle.task_journal.specs.declared.cursor.Placed.{Placed}
use Rattle.task_journal.specs.Cursor.{IsOn, Advances, bound}
use Rattle.task_journal.proofs.Calls.{none_reads, reads_joined}
use Rattle.database_text.proofs.Printing.{printing_begins, printing_next}
use Rattle.database_text.proofs.check.print.Goals as goal

pub loop-octets-init : goal.loop-octets-init
loop-octets-init g c = record {
  printing = printing_begins g.D.Disk.tells (g.D.Disk.content c.args.disk.now) c.args.cursor.now c.args.comparison.now c.args.wanted c.requires.on;
  some = c.requires.some;
  falls = omega arith;
  reads = none_reads g.D.Disk.content g.D.Disk.image g.D.Disk.moment g.D.Disk.image_since g.D.Disk.faults c.args.disk.now;
}

pub returns-then-missing-count-clause-printed : goal.returns-then-missing-count-clause-printed
returns-then-missing-count-clause-printed g c =
    let disk = g.D.Disk.content c.args.disk.now in
    let old = c.loop-octets.cursor in
    let new = c.next.new.self in
    let placed = c.in-Some.placed in
    let same = c.loop-octets.invariant.reads.same in
    let octets : length (line placed.entry) + 0 ≡ c.loop-octets.missing + (c.in_ok-count.count - c.loop-octets.missing) = omega (arith, c.in_ok-count.ensures.count, c.if-missing-count.true) in
    let p = printing_next c.loop-octets.invariant.printing new placed
    (λ told. subst (λ (d : List ℕ). IsOn new d) same (c.in_ok-placed.ensures.on told))
    (λ told. subst (λ (o : Option Placed). Advances disk old new (Ok o)) c.in-Some.is
    (subst (λ (d : List ℕ). Advances d old new (Ok c.in_ok-placed.field-0)) same (c.in_ok-placed.ensures.value told)))
    c.print_line.new.comparison 0 (c.in_ok-count.count - c.loop-octets.missing) c.in_ok-count.ensures.printed octets in
    (p.list, p.gave, p.printed, p.octets)

pub loop-octets-preserved : goal.loop-octets-preserved
loop-octets-preserved g c =
    let disk = g.D.Disk.content c.args.disk.now in
    let old = c.loop-octets.cursor in
    let new = c.next.new.self in
    let placed = c.in-Some.placed in
    let same = c.loop-octets.invariant.reads.same in
    let octets : length (line placed.entry) + (c.loop-octets.missing - c.in_ok-count.count) ≡ c.loop-octets.missing + 0 = omega (arith, c.in_ok-count.ensures.count, c.if-missing-count.false) in
    let falls = subst (λ (o : Option Placed). IfSome o (λ (p : Placed). bound new < bound old)) c.in-Some.is c.in_ok-placed.ensures.falls in
    record {
      printing = printing_next c.loop-octets.invariant.printing new placed
          (λ told. subst (λ (d : List ℕ). IsOn new d) same (c.in_ok-placed.ensures.on told))
          (λ told. subst (λ (o : Option Placed). Advances disk old new (Ok o)) c.in-Some.is
          (subst (λ (d : List ℕ). Advances d old new (Ok c.in_ok-placed.field-0)) same (c.in_ok-placed.ensures.value told)))
          c.print_line.new.comparison (c.loop-octets.missing - c.in_ok-count.count) 0 c.in_ok-count.ensures.printed octets;
      some = omega (arith, c.if-missing-count.false);
      falls = omega (arith, falls, c.loop-octets.invariant.falls);
      reads = reads_joined c.loop-octets.invariant.reads c.next.ensures.reads;
    }
