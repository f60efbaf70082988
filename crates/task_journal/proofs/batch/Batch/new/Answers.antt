use Rattle.std.proofs.Common.{◌≡◌, ◌∙◌, List, length, subst, sym, ap, arith}
use Rattle.cluster_types.specs.declared.entry.Entry.{Entry}
use Rattle.task_journal.specs.Batch.{IsBatch}
use Rattle.task_journal.proofs.Batches.{count_fits, view_is}
use Rattle.task_journal.proofs.batch.Batch.new.Goals as goal

pub overflow_cast-result : goal.overflow_cast-result
overflow_cast-result c = omega (arith, count_fits c.args.entries.now, c.requires.short, c.len.ensures)

pub invariant_of-result : goal.invariant_of-result
invariant_of-result c =
    let made = rw c.as_slice.ensures at c.in_ok-octets.ensures in
    let view = view_is c.in_ok-octets.octets.items c.args.entries.now c.len.result made c.len.ensures in
    subst (λ (es : List Entry). IsBatch c.in_ok-octets.octets.items es × (c.len.result ≡ length es)) (sym view) (made, c.len.ensures)

pub returns : goal.returns
returns c =
    let made = rw c.as_slice.ensures at c.in_ok-octets.ensures in
    view_is c.in_ok-octets.octets.items c.args.entries.now c.len.result made c.len.ensures
