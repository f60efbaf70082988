-- What a run is summed up to.
use Rattle.std.specs.Prelude.{ℕ, ℤ, Bool, true, false, length, count_by}
use Rattle.cluster_types.specs.declared.entry.Entry.{Entry}
use Rattle.cluster_types.specs.declared.entry.Entry.TheVariants as entries
use Rattle.cluster_types.specs.declared.verdict.Verdict.TheVariants as verdicts
use Rattle.cluster_defs.specs.Histories.{History}
use Rattle.quick_commands.specs.declared.summary.Summary.{Summary}
use Rattle.quick_commands.specs.declared.summing.CountedKind.{CountedKind}
use Rattle.quick_commands.specs.declared.summing.CountedKind.TheVariants.{Hand, Completed, Failed}
use Rattle.quick_commands.specs.Work.{Work}

-- an entry hands a task out, completes one, or fails one
abbrev pub is_of : CountedKind → Entry → Bool
is_of Hand (entries.Hand id engine) = true
is_of Completed (entries.Settle id verdicts.Completed cause) = true
is_of Failed (entries.Settle id verdicts.Failed cause) = true
is_of _ _ = false

-- the summary of so many tasks, by a history and the sum of the results
abbrev pub sums_up : ℕ → History → ℤ → Summary
sums_up tasks history sum = record {
  tasks = tasks;
  completed = count_by (is_of Completed) history;
  failed = count_by (is_of Failed) history;
  hands = count_by (is_of Hand) history;
  entries = length history;
  sum = sum;
}

-- the summary of a run
abbrev pub summary_of : ℕ → Work → Summary
summary_of tasks w = sums_up tasks w.history w.sum
