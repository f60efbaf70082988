use Rattle.std.proofs.Common.{ℕ, List, [], ◌∷◌, ◌++◌, Option, Ok, subst}
use Rattle.task_journal.specs.declared.cursor.Placed.{Placed}
use Rattle.task_journal.specs.Journal.{journal}
use Rattle.task_journal.specs.Cursor.{IsOn, Advances}
use Rattle.task_journal.proofs.Calls.{reads_joined}
use Rattle.database_text.proofs.Giving.{gave_none, gave_more}
use Rattle.database_text.proofs.database.read_through.Goals as goal

pub loop-cursor-init : goal.loop-cursor-init
loop-cursor-init g c =
    let disk = g.D.Disk.content c.args.disk.now in
    record { gave = ([], gave_none g.D.Disk.tells disk (journal disk) c.in_ok-cursor.cursor c.in_ok-cursor.ensures.on c.in_ok-cursor.ensures.value); reads = c.begin.ensures.reads }

pub loop-cursor-preserved : goal.loop-cursor-preserved
loop-cursor-preserved g c =
    let disk = g.D.Disk.content c.args.disk.now in
    let old = c.loop-cursor.cursor in
    let new = c.next.new.self in
    let placed = c.in-Some.placed in
    let gave = c.loop-cursor.invariant.gave in
    let same = c.loop-cursor.invariant.reads.same in
    record {
      gave = (
        gave.0 ++ placed.entry ∷ [],
        gave_more gave.1 new placed
            (λ told. subst (λ (d : List ℕ). IsOn new d) same (c.in_ok-placed.ensures.on told))
            (λ told. subst (λ (o : Option Placed). Advances disk old new (Ok o)) c.in-Some.is
            (subst (λ (d : List ℕ). Advances d old new (Ok c.in_ok-placed.field-0)) same (c.in_ok-placed.ensures.value told))),
      );
      reads = reads_joined c.loop-cursor.invariant.reads c.next.ensures.reads;
    }
