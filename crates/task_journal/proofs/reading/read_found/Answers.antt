use Rattle.std.proofs.Common.{ℕ, List, [], ◌∷◌, length-append, Option, Ok, subst, ◌∙◌, arith}
use Rattle.std.specs.Prelude.{IfSome}
use Rattle.std.proofs.lemmas.List.Elements.{All-push}
use Rattle.record_codec.specs.Spelling.{HasRecord}
use Rattle.task_journal.specs.declared.cursor.Placed.{Placed}
use Rattle.task_journal.specs.Journal.{journal}
use Rattle.task_journal.specs.Cursor.{Advances, to_come}
use Rattle.task_journal.proofs.Calls.{reads_joined}
use Rattle.task_journal.proofs.Loops.{last_push}
use Rattle.task_journal.proofs.Finding.{found_more}
use Rattle.task_journal.proofs.reading.read_found.Goals as goal

pub loop-found-preserved : goal.loop-found-preserved
loop-found-preserved g c =
    let found = c.loop-found.found in
    let old = c.loop-found.cursor in
    let new = c.next.new.self in
    let placed = c.in-Some.placed in
    record {
      on = λ told. rw c.loop-found.invariant.reads.same at (c.in_ok-placed.ensures.on told);
      found = λ told.
          let disk = g.D.Disk.content c.args.disk.now in
          let value = subst (λ (d : List ℕ). Advances d old new (Ok c.in_ok-placed.field-0)) c.loop-found.invariant.reads.same (c.in_ok-placed.ensures.value told) in
          let next = subst (λ (o : Option Placed). Advances disk old new (Ok o)) c.in-Some.is value in
          rw (c.in_ok-push.ensures.ok, c.in_ok-push-2.ensures.ok) (found_more found placed (to_come old disk) (to_come new disk) (journal disk) (c.loop-found.invariant.found told) next);
      reads = reads_joined c.loop-found.invariant.reads c.next.ensures.reads;
      has =
          let one = subst (λ (o : Option Placed). IfSome o (λ (p : Placed). HasRecord p.entry)) c.in-Some.is c.in_ok-placed.ensures.has in
          rw c.in_ok-push.ensures.ok (All-push HasRecord found.entries placed.entry c.loop-found.invariant.has one);
      count =
          rw (c.in_ok-push.ensures.ok, c.in_ok-push-2.ensures.ok)
          (omega (arith, length-append found.places (placed.place ∷ []), length-append found.entries (placed.entry ∷ []), c.loop-found.invariant.count));
    }

pub returns-clause-gate : goal.returns-clause-gate
returns-clause-gate g c = rw c.in_ok-push-3.ensures.ok (last_push c.loop-found.found.places c.gate-gate.result)

pub returns-clause-version : goal.returns-clause-version
returns-clause-version g c = λ told long.
    let on = rw c.loop-found.invariant.reads.same at (c.in_ok-placed.ensures.on told) in
    c.version.ensures ∙ on.read long
