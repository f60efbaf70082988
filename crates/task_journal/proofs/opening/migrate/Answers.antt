use Rattle.std.proofs.Common.{List, ℕ, refl, sym, subst, ◌∙◌}
use Rattle.task_journal.specs.declared.version.Version.{Version}
use Rattle.task_journal.specs.Journal.{IsSame}
use Rattle.task_journal.specs.Settled.{IsJournal}
use Rattle.task_journal.proofs.Moments.{starts}
use Rattle.task_journal.proofs.Versions.{second_stays}
use Rattle.task_journal.proofs.opening.migrate.Goals as goal

pub mark-requires-clause-journal : goal.mark-requires-clause-journal
mark-requires-clause-journal g c = λ told. subst (λ (v : Version). IsJournal v (g.D.Disk.content c.args.disk.now)) c.in-First.is (c.requires.journal told)

pub returns-in-Second-clause-second : goal.returns-in-Second-clause-second
returns-in-Second-clause-second g c = λ told. sym (second_stays (g.D.Disk.content c.args.disk.now) (sym (c.requires.journal told).is ∙ c.in-Second.is))

pub returns-in-Second-clause-any_moment : goal.returns-in-Second-clause-any_moment
returns-in-Second-clause-any_moment g c = λ told.
    let P : List ℕ → Type 0 = λ f. IsSame f (g.D.Disk.content c.args.disk.now) in
    let begun = starts g.D.Disk.moment g.D.Disk.image g.D.Disk.image_since g.met.D.Disk.counts_now g.met.D.Disk.widens c.args.disk.now P (g.met.D.Disk.only_now c.args.disk.now) (λ f now. subst P (sym (c.requires.durable told f now)) refl) in
    begun.leaves
