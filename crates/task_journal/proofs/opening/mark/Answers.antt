use Rattle.std.proofs.Common.{◌∙◌, List, ℕ, refl, sym, subst}
use Rattle.disk_model.specs.Crashes.{Only}
use Rattle.task_journal.specs.Journal.{IsSame}
use Rattle.task_journal.proofs.Moments.{starts, goes, stays}
use Rattle.task_journal.proofs.Migration.{mark_image, mark_done}
use Rattle.task_journal.proofs.opening.mark.Goals as goal

pub returns-in_err-write_at-clause-any_moment : goal.returns-in_err-write_at-clause-any_moment
returns-in_err-write_at-clause-any_moment g c = λ told.
    let disk = g.D.Disk.content c.args.disk.now in
    let P : List ℕ → Type 0 = λ f. IsSame f disk in
    let old = c.requires.journal told in
    let begun = starts g.D.Disk.moment g.D.Disk.image g.D.Disk.image_since g.met.D.Disk.counts_now g.met.D.Disk.widens c.args.disk.now P (g.met.D.Disk.only_now c.args.disk.now) (λ f now. subst P (sym (c.requires.durable told f now)) refl) in
    let first = goes g.D.Disk.moment g.D.Disk.image g.D.Disk.image_since g.met.D.Disk.counts_now g.met.D.Disk.widens c.args.disk.now c.args.disk.now c.write_at.new.self P begun c.write_at.ensures.time (mark_image disk old.list (g.D.Disk.image c.args.disk.now) (g.D.Disk.image c.write_at.new.self) old.long (sym old.is) old.stands (c.requires.durable told) c.write_at.ensures.images) in
    first.leaves

pub returns-in_err-sync-clause-any_moment : goal.returns-in_err-sync-clause-any_moment
returns-in_err-sync-clause-any_moment g c = λ told.
    let disk = g.D.Disk.content c.args.disk.now in
    let P : List ℕ → Type 0 = λ f. IsSame f disk in
    let old = c.requires.journal told in
    let begun = starts g.D.Disk.moment g.D.Disk.image g.D.Disk.image_since g.met.D.Disk.counts_now g.met.D.Disk.widens c.args.disk.now P (g.met.D.Disk.only_now c.args.disk.now) (λ f now. subst P (sym (c.requires.durable told f now)) refl) in
    let first = goes g.D.Disk.moment g.D.Disk.image g.D.Disk.image_since g.met.D.Disk.counts_now g.met.D.Disk.widens c.args.disk.now c.args.disk.now c.write_at.new.self P begun c.write_at.ensures.time (mark_image disk old.list (g.D.Disk.image c.args.disk.now) (g.D.Disk.image c.write_at.new.self) old.long (sym old.is) old.stands (c.requires.durable told) c.write_at.ensures.images) in
    let kept = stays g.D.Disk.moment g.D.Disk.image g.D.Disk.image_since g.met.D.Disk.counts_now g.met.D.Disk.widens c.args.disk.now c.write_at.new.self c.sync.new.self P first c.sync.ensures.time c.sync.ensures.images in
    kept.leaves

pub returns-clause-any_moment : goal.returns-clause-any_moment
returns-clause-any_moment g c = λ told.
    let disk = g.D.Disk.content c.args.disk.now in
    let P : List ℕ → Type 0 = λ f. IsSame f disk in
    let old = c.requires.journal told in
    let begun = starts g.D.Disk.moment g.D.Disk.image g.D.Disk.image_since g.met.D.Disk.counts_now g.met.D.Disk.widens c.args.disk.now P (g.met.D.Disk.only_now c.args.disk.now) (λ f now. subst P (sym (c.requires.durable told f now)) refl) in
    let first = goes g.D.Disk.moment g.D.Disk.image g.D.Disk.image_since g.met.D.Disk.counts_now g.met.D.Disk.widens c.args.disk.now c.args.disk.now c.write_at.new.self P begun c.write_at.ensures.time (mark_image disk old.list (g.D.Disk.image c.args.disk.now) (g.D.Disk.image c.write_at.new.self) old.long (sym old.is) old.stands (c.requires.durable told) c.write_at.ensures.images) in
    let kept = stays g.D.Disk.moment g.D.Disk.image g.D.Disk.image_since g.met.D.Disk.counts_now g.met.D.Disk.widens c.args.disk.now c.write_at.new.self c.sync.new.self P first c.sync.ensures.time c.sync.ensures.images in
    kept.leaves

pub returns-clause-second : goal.returns-clause-second
returns-clause-second g c = λ told. c.sync.ensures.same ∙ mark_done (g.D.Disk.content c.args.disk.now) (g.D.Disk.content c.write_at.new.self) (c.requires.journal told).long (c.in_ok-write_at.ensures.written told)

pub returns-clause-durable : goal.returns-clause-durable
returns-clause-durable g c = λ told. subst (λ (z : List ℕ). Only z (g.D.Disk.image c.sync.new.self)) (sym c.sync.ensures.same) c.in_ok-sync.ensures.durable
