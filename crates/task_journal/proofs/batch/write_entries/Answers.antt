use Rattle.std.proofs.Common.{◌++◌, ℕ, List, take, sym, ap, subst, ◌∙◌, append_assoc}
use Rattle.std.proofs.lemmas.List.Elements.{All-more}
use Rattle.cluster_types.specs.declared.entry.Entry.{Entry}
use Rattle.record_codec.specs.Spelling.{spelling, HasRecord}
use Rattle.record_codec.specs.Records.{spellings}
use Rattle.task_journal.proofs.Batches.{spellings_more}
use Rattle.task_journal.proofs.batch.write_entries.Goals as goal

pub loop-entry-preserved : goal.loop-entry-preserved
loop-entry-preserved c =
    let es = c.args.entries.now in
    let i = c.loop-entry.entry-index in
    let e = c.entry-item.result in
    record {
      records = c.in_ok-write_entry.ensures.«record» ∙ ap (λ (z : List ℕ). z ++ spelling e) c.loop-entry.invariant.records ∙ append_assoc c.args.into.now.items (spellings (take i es)) (spelling e)
          ∙ ap (λ (z : List ℕ). c.args.into.now.items ++ z) (sym (spellings_more es i e c.loop-entry-test.true c.entry-item.is));
      has = All-more HasRecord es i e c.loop-entry-test.true c.loop-entry.invariant.has (subst (λ (x : Entry). HasRecord x) c.entry-item.is c.write_entry.ensures.has);
    }
