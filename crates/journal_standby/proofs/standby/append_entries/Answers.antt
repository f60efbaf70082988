use Rattle.std.proofs.Common.{◌≡◌, ◌∙◌, ◌++◌, List, length, take, sym, ap, subst}
use Rattle.std.proofs.lemmas.List.Elements.{All-append}
use Rattle.std.proofs.Math.Seq.{take-append_seam}
use Rattle.cluster_types.specs.declared.entry.Entry.{Entry}
use Rattle.disk_model.specs.Crashes.{LeavesOnly}
use Rattle.record_codec.specs.Spelling.{IsWithinLimits}
use Rattle.task_journal.specs.Journal.{StandsFor}
use Rattle.journal_standby.specs.Batches.{batches, joined}
use Rattle.journal_standby.specs.Standbys.{HasFirst, IsHeld}
use Rattle.journal_standby.proofs.Fronts.{joined_batches}
use Rattle.journal_standby.proofs.Going.{nothing, keeps, held_whole, held_failed}
use Rattle.journal_standby.proofs.standby.append_entries.Goals as goal

pub returns-in_err-batches-clause-any_moment : goal.returns-in_err-batches-clause-any_moment
returns-in_err-batches-clause-any_moment g c = λ tells.
    nothing g.D.Disk.content g.D.Disk.image g.D.Disk.moment g.D.Disk.image_since g.met.D.Disk.counts_now g.met.D.Disk.widens g.met.D.Disk.only_now c.args.journal.now.disk c.args.list.now (batches c.args.more.now) (c.requires.durable tells)
    (c.requires.held.stands tells c.requires.working)

pub returns-in_err-lengthen-clause-any_moment : goal.returns-in_err-lengthen-clause-any_moment
returns-in_err-lengthen-clause-any_moment g c = λ tells.
    nothing g.D.Disk.content g.D.Disk.image g.D.Disk.moment g.D.Disk.image_since g.met.D.Disk.counts_now g.met.D.Disk.widens g.met.D.Disk.only_now c.args.journal.now.disk c.args.list.now (batches c.args.more.now) (c.requires.durable tells)
    (c.requires.held.stands tells c.requires.working)

pub returns-in-Ok-clause-any_moment : goal.returns-in-Ok-clause-any_moment
returns-in-Ok-clause-any_moment g c = λ tells.
    subst (λ (bs : List (List Entry)). LeavesOnly g.D.Disk.moment g.D.Disk.image_since c.args.journal.now.disk c.append_all.new.journal.disk (HasFirst c.args.list.now bs)) (c.as_slice.ensures.value ∙ c.in_ok-batches.ensures)
    (c.append_all.ensures.any_moment tells c.args.list.now (c.requires.held.stands tells c.requires.working))

pub returns-in-Ok-clause-held : goal.returns-in-Ok-clause-held
returns-in-Ok-clause-held g c =
    let list = c.args.list.now in
    let more = c.args.more.now in
    let all : joined c.as_slice.result.now ≡ more = ap joined (c.as_slice.ensures.value ∙ c.in_ok-batches.ensures) ∙ joined_batches more in
    subst (λ (es : List Entry). IsHeld g.D.Disk.tells (g.D.Disk.content c.append_all.new.journal.disk) (g.D.Disk.image c.append_all.new.journal.disk) c.append_all.new.journal.failed es) (sym c.in_ok-lengthen.ensures.ok)
    (held_whole g.D.Disk.tells (g.D.Disk.content c.append_all.new.journal.disk) (g.D.Disk.image c.append_all.new.journal.disk) c.append_all.new.journal.failed (list ++ more)
    (All-append IsWithinLimits list more c.requires.held.each c.requires.each) c.in-Ok.ensures.durable
    (λ tells. subst (λ (es : List Entry). StandsFor (g.D.Disk.content c.append_all.new.journal.disk) (list ++ es)) all (c.in-Ok.ensures.stands tells list (c.requires.held.stands tells c.requires.working))))

pub returns-clause-held : goal.returns-clause-held
returns-clause-held g c =
    let list = c.args.list.now in
    let more = c.args.more.now in
    let same : c.shorten.new.list ≡ list =
    c.shorten.ensures ∙ ap (λ n. take n c.lengthen.new.list) c.len-held.ensures ∙ ap (λ (es : List Entry). take (length list) es) c.in_ok-lengthen.ensures.ok ∙ take-append_seam list more in
    subst (λ (es : List Entry). IsHeld g.D.Disk.tells (g.D.Disk.content c.append_all.new.journal.disk) (g.D.Disk.image c.append_all.new.journal.disk) c.append_all.new.journal.failed es) (sym same)
    (held_failed g.D.Disk.tells (g.D.Disk.content c.append_all.new.journal.disk) (g.D.Disk.image c.append_all.new.journal.disk) c.append_all.new.journal.failed list c.requires.held.each
    (λ tells. keeps g.D.Disk.content g.D.Disk.image g.D.Disk.moment g.D.Disk.image_since g.met.D.Disk.counts_now g.met.D.Disk.widens g.met.D.Disk.only_now c.args.journal.now.disk c.append_all.new.journal.disk list c.as_slice.result.now
    (c.append_all.ensures.any_moment tells list (c.requires.held.stands tells c.requires.working)))
    c.in-Err.ensures.failed)

pub returns-clause-any_moment : goal.returns-clause-any_moment
returns-clause-any_moment g c = λ tells.
    subst (λ (bs : List (List Entry)). LeavesOnly g.D.Disk.moment g.D.Disk.image_since c.args.journal.now.disk c.append_all.new.journal.disk (HasFirst c.args.list.now bs)) (c.as_slice.ensures.value ∙ c.in_ok-batches.ensures)
    (c.append_all.ensures.any_moment tells c.args.list.now (c.requires.held.stands tells c.requires.working))
