use Rattle.std.proofs.Common.{ap, ◌∙◌}
use Rattle.task_journal.specs.Journal.{head_fault}
use Rattle.task_journal.proofs.Versions.{head_read}
use Rattle.journal_standby.proofs.image.head_fault_of.Goals as goal

pub returns : goal.returns
returns c = c.difference_of.ensures ∙ ap head_fault c.copy_from_slice.ensures.after ∙ head_read c.args.octets.now c.requires
