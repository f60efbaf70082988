use Rattle.std.proofs.Common.{◌≡◌, ◌-◌, ◌∙◌, List, length, take, drop, false, sym, ap, subst}
use Rattle.std.proofs.lemmas.List.{take_rest}
use Rattle.std.proofs.lemmas.List.Elements.{All-same, All-drop}
use Rattle.cluster_types.specs.declared.entry.Entry.{Entry}
use Rattle.disk_model.specs.Crashes.{LeavesOnly}
use Rattle.record_codec.specs.Spelling.{IsWithinLimits}
use Rattle.journal_standby.specs.Batches.{batches}
use Rattle.journal_standby.specs.Standbys.{StandbyView, HasFirst, lacking}
use Rattle.journal_standby.specs.Steps.{HasShortSteps}
use Rattle.journal_standby.proofs.Going.{nothing}
use Rattle.journal_standby.proofs.Shorts.{short_left}
use Rattle.journal_standby.proofs.standby.Standby.follow.Goals as goal

pub returns-in-Some-clause-any_moment : goal.returns-in-Some-clause-any_moment
returns-in-Some-clause-any_moment g c =
    subst (λ (v : StandbyView g.row.D.Denot). g.D.Disk.tells → v.failed ≡ false → LeavesOnly g.D.Disk.moment g.D.Disk.image_since v.disk v.disk (HasFirst v.list (batches (lacking v.list c.args.primary.now)))) c.self.view_is
    (λ tells fine. nothing g.D.Disk.content g.D.Disk.image g.D.Disk.moment g.D.Disk.image_since g.met.D.Disk.counts_now g.met.D.Disk.widens g.met.D.Disk.only_now c.self.inside.journal.disk c.self.inside.list (batches (lacking c.self.inside.list c.args.primary.now))
    (c.failed-failed.ensures.durable tells fine) (c.self.invariant.stands tells fine))

pub append_entries-requires-clause-each : goal.append_entries-requires-clause-each
append_entries-requires-clause-each g c =
    let entries = c.as_slice-entries.result.now in
    let n = c.len.result in
    All-same IsWithinLimits (take (length entries - n) (drop n entries)) (drop n c.args.primary.now) (take_rest entries n ∙ ap (λ (es : List Entry). drop n es) c.as_slice-entries.ensures) (All-drop IsWithinLimits n c.args.primary.now c.requires.each)

pub append_entries-requires-clause-short : goal.append_entries-requires-clause-short
append_entries-requires-clause-short g c =
    let entries = c.as_slice-entries.result.now in
    let n = c.len.result in
    subst (λ (es : List Entry). HasShortSteps es) (sym (take_rest entries n ∙ ap (λ (es : List Entry). drop n es) c.as_slice-entries.ensures)) (short_left n c.args.primary.now c.requires.short)
