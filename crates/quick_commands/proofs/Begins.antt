-- Where a run over an empty disk begins, and what its end says.
use Rattle.std.proofs.Common.{◌≡◌, ◌∙◌, ℕ, List, [], reverse, Result, Ok, Err, ap, subst}
use Rattle.std.specs.Prelude.{IfOk}
use Rattle.cluster_types.specs.declared.config.Config.{Config}
use Rattle.cluster_core.specs.declared.size.HistorySize.{HistorySize}
use Rattle.cluster_defs.specs.Histories.{History}
use Rattle.cluster_store.specs.Openings.{IsOpened, opened}
use Rattle.cluster_store.specs.Stores.{written}
use Rattle.quick_commands.specs.declared.summary.Summary.{Summary}
use Rattle.task_journal.specs.Journal.{StandsFor}
use Rattle.quick_commands.specs.declared.fault.WorkError.{WorkError}
use Rattle.quick_commands.specs.Work.{Work, begun, IsReached, IsDone, IsHeld}
use Rattle.quick_commands.specs.Summaries.{summary_of}
use Rattle.quick_commands.specs.Ends.{work_config, work_limits, Begins, IsWorked, IsStopped}
use Rattle.quick_commands.proofs.Empty.{stands_for_none}

pub begins : (tells : Type 0) (content : List ℕ) (seed tasks : ℕ) (config : Config) (history : History) (start : Work) → (tells → content ≡ []) → config ≡ work_config → IsOpened tells content config 0 history → start ≡ begun history seed tasks →
    Begins tells seed tasks start
begins tells content seed tasks config history start empty is o same = record {
  list = o.list;
  empty = λ told. stands_for_none o.list (subst (λ (c : List ℕ). StandsFor c o.list) (empty told) (o.stands told));
  is = same ∙ ap (λ (h : History). begun h seed tasks) (o.is ∙ ap (λ (k : Config). opened k 0 (reverse o.list)) is);
}

pub worked : (tells : Type 0) (seed tasks : ℕ) (image : List ℕ → Type 0) (start : Work) (r : Result Summary WorkError) → Begins tells seed tasks start →
    IfOk r (λ summary. (w : Work) × IsReached start w × IsDone w × (summary ≡ summary_of tasks w) × (tells → (c : List ℕ) → image c → StandsFor c (written w.history))) →
    IfOk r (IsWorked tells seed tasks image)
worked tells seed tasks image start (Ok summary) b h = record { start = start; begins = b; work = h.0; reached = h.1; done = h.2; sums = h.3; keeps = h.4 }
worked tells seed tasks image start (Err e) b h = tt

pub stopped : (tells : Type 0) (seed tasks : ℕ) (start : Work) (limits size : HistorySize) → Begins tells seed tasks start → limits ≡ work_limits → IsHeld start limits size → IsStopped tells seed tasks size
stopped tells seed tasks start limits size b is held = record { start = start; begins = b; held = subst (λ (l : HistorySize). IsHeld start l size) is held }
