use Rattle.std.proofs.Common.{◌≡◌, ◌+◌, ◌++◌, length, drop, true}
use Rattle.std.specs.Prelude.{map}
use Rattle.cluster_defs.specs.Purges.{resubmitted}
use Rattle.resubmission.specs.Plans.{copy_of}
use Rattle.task_table.specs.Seen.{all_open}
use Rattle.cluster_state.specs.Plain.{facts_in, copies_in}
use Rattle.cluster_state.specs.Stands.{plain}
use Rattle.cluster_state.proofs.state.State.copies.Given as goal

-- the copies so far, and those to come, are all
abbrev pub invariant-loop-renaming : goal.invariant-loop-renaming
invariant-loop-renaming l = record {
  all : l.copies.items ++ copies_in (resubmitted (facts_in (plain l.fn.self)) l.moment) l.number (map copy_of (drop l.renaming-index l.renamed)) l.fn.self.tasks
      ≡ copies_in (resubmitted (facts_in (plain l.fn.self)) l.moment) (length l.fn.self.tasks + 1) (map copy_of l.renamed) l.fn.self.tasks;
  fresh : all_open l.copies.items ≡ true;
}
