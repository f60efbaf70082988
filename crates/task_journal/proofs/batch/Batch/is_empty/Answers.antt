use Rattle.std.proofs.Common.{◌≡◌, List, length, sym, ap, ◌∙◌}
use Rattle.std.specs.Prelude.{nat_eq}
use Rattle.std.proofs.lemmas.Bool.{eqb-true}
use Rattle.cluster_types.specs.declared.entry.Entry.{Entry}
use Rattle.record_codec.specs.Records.{spellings}
use Rattle.task_journal.proofs.Batches.{none_written}
use Rattle.task_journal.proofs.batch.Batch.is_empty.Goals as goal

pub returns : goal.returns
returns c = (
  λ yes. none_written c.args.self.now (sym c.size.ensures ∙ eqb-true c.size.result 0 yes),
  λ none. ap (λ n. nat_eq n 0) (c.size.ensures ∙ ap (λ (es : List Entry). length (spellings es)) none),
)
