-- How a command ends, by how its run did.
use Rattle.std.proofs.Common.{◌≡◌, ◌⊎◌, ℕ, List, Option, Some, None, Result, Ok, Err, length, sym, subst, inl, inr, ⊎_elim}
use Rattle.std.specs.Prelude.{IfSome}
use Rattle.cluster_defs.specs.Histories.{History}
use Rattle.command_words.specs.declared.ending.Ending.TheVariants as plain
use Rattle.history_lock.specs.declared.known.Content.{Content}
use Rattle.history_lock.specs.Names.{LockId, known}
use Rattle.job_graph.specs.declared.task.JobTask.{JobTask}
use Rattle.job_graph.specs.declared.error.JobError.{JobError}
use Rattle.job_graph.specs.Jobs.{job_of}
use Rattle.run_lines.specs.declared.labels.Labels.{Labels}
use Rattle.run_lines.specs.declared.labels.Labels.TheVariants.{Codes}
use Rattle.run_threads.specs.Answering.{ArePrinted}
use Rattle.run_threads.specs.Ends.{EndCause}
use Rattle.run_threads.specs.declared.caller.Awaited.{Awaited}
use Rattle.run_threads.specs.declared.end.RunEnd.{RunEnd}
use Rattle.run_threads.specs.declared.end.RunEnd.TheVariants as ends
use Rattle.run_words.specs.declared.command.RunCommand.{RunCommand}
use Rattle.run_words.specs.declared.command.RunCommand.TheVariants.{Run, Map, Job}
use Rattle.run_words.specs.declared.ending.RunEnding.{RunEnding}
use Rattle.run_words.specs.declared.ending.RunEnding.TheVariants.{Plain}
use Rattle.run_commands.specs.Preparing.{AwaitsAs, AwaitsJob, Awaits, job_labels, PrintsJob, Prints}
use Rattle.run_commands.specs.declared.shown.RunShown.{RunShown}
use Rattle.run_commands.specs.declared.shown.RunShown.TheVariants.{Nothing}
use Rattle.run_commands.specs.Ends.{RunsOver, Ran, RunEnds, Unread}

-- WHAT IS PRINTED

printed_as : {W : Type 0} (labels : Labels) (total : ℕ) (a : Awaited W) (h : History) (before now : Option (List ℕ)) → AwaitsAs labels total a → ArePrinted a.labels h a.total before now → ArePrinted labels h total before now
printed_as labels total a h before now awaits p =
    subst (λ (l : Labels). ArePrinted l h total before now) awaits.labels_are (subst (λ (n : ℕ). ArePrinted a.labels h n before now) awaits.total_is p)

printed_job : {W : Type 0} (r : Result (List JobTask) JobError) (a : Awaited W) (h : History) (before now : Option (List ℕ)) → AwaitsJob r a → ArePrinted a.labels h a.total before now → PrintsJob r h before now
printed_job (Ok job) a h before now awaits p = printed_as (job_labels job) (length job) a h before now awaits p
printed_job (Err error) a h before now awaits p = awaits

-- what is printed of what a command awaits is what the command prints
pub printed_of : {W : Type 0} (command : RunCommand) (a : Awaited W) (h : History) (before now : Option (List ℕ)) → Awaits command a → ArePrinted a.labels h a.total before now → Prints command h before now
printed_of (Run engines codes) a h before now awaits p = printed_as Codes (length codes) a h before now awaits p
printed_of (Map engines body values) a h before now awaits p = printed_as Codes (length values) a h before now awaits p
printed_of (Job engines text) a h before now awaits p = printed_job (job_of text) a h before now awaits p

-- HOW IT ENDS

end_as : {B T : Type 0} (lock : B → LockId) (P Q : Content → Type 0) (written later started now : ℕ) (end : RunEnd B T) → ((seen : Content) → P seen → Q seen) →
    EndCause lock P written later started now end → EndCause lock Q written later started now end
end_as lock P Q written later started now (ends.Done book pass) more e = (e.0, more (known pass).seen e.1)
end_as lock P Q written later started now (ends.Stopped why book pass) more e = e
end_as lock P Q written later started now ends.NoBook more e = e

-- what follows of all that was printed holds where it ran so
pub ran_as : {D B T : Type 0} (on : RunsOver D B) (P Q : Content → Type 0) (result : RunEnding × RunShown D B T) → ((seen : Content) → P seen → Q seen) → Ran on P result → Ran on Q result
ran_as on P Q result more ran = ⊎_elim (λ refused. inl refused) (λ opened. inr (⊎_elim (λ unopened. inl unopened) (λ r. inr (record {
  end = r.end;
  cause = end_as on.lock P Q on.writes_before on.writes_now on.starts_before on.starts_now r.end more r.cause;
  is = r.is;
  empty = r.empty;
})) opened)) ran

-- words that were read so end as their command does
pub ends_read : {D B T : Type 0} (on : RunsOver D B) (r : Option RunCommand) (command : RunCommand) (result : RunEnding × RunShown D B T) → r ≡ Some command → RunEnds on command result →
    (r ≡ None → Unread on.disk result) × IfSome r (λ c. RunEnds on c result)
ends_read on None command result is runs = cc
ends_read on (Some c) command result is runs = let same : command ≡ c = cc is in ((λ none. cc none), subst (λ (x : RunCommand). RunEnds on x result) same runs)

-- without memory words may end so, whatever they ask for
pub ends_without : {D B T : Type 0} (on : RunsOver D B) (r : Option RunCommand) (result : RunEnding × RunShown D B T) → result ≡ (Plain plain.OutOfMemory, Nothing) →
    (r ≡ None → Unread on.disk result) × IfSome r (λ c. RunEnds on c result)
ends_without on None result is = ((λ none. inr is), tt)
ends_without on (Some c) result is = ((λ none. cc none), inl is)
