use Rattle.std.proofs.Common.{sym, ap, ◌∙◌}
use Rattle.task_journal.specs.Versions.{version_in}
use Rattle.task_journal.specs.Journal.{head_fault}
use Rattle.task_journal.proofs.Versions.{head_read, version_read}
use Rattle.task_journal.proofs.head.read_head.Goals as goal

pub returns-in-Some-clause-value : goal.returns-in-Some-clause-value
returns-in-Some-clause-value g c = λ told.
    sym (head_read (g.D.Disk.content c.args.disk.now) (c.requires told)) ∙ ap head_fault (sym (c.in_ok-read_into.ensures.value told)) ∙ sym c.in-Some.ensures

pub returns-in-None-clause-value : goal.returns-in-None-clause-value
returns-in-None-clause-value g c = λ told. (
  sym (head_read (g.D.Disk.content c.args.disk.now) (c.requires told)) ∙ ap head_fault (sym (c.in_ok-read_into.ensures.value told)) ∙ sym c.in-None.ensures,
  c.by-version.ensures ∙ ap version_in (c.in_ok-read_into.ensures.value told) ∙ version_read (g.D.Disk.content c.args.disk.now) (c.requires told),
)
