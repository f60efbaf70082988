use Rattle.std.proofs.Common.{List, ℕ, sym, subst}
use Rattle.task_journal.specs.Journal.{StandsFor}
use Rattle.task_journal.proofs.Moments.{starts, stays, joined}
use Rattle.task_journal.proofs.Behind.{stands_now}
use Rattle.task_journal.proofs.room.reach.Goals as goal

pub returns-in_err-widen-clause-any_moment : goal.returns-in_err-widen-clause-any_moment
returns-in_err-widen-clause-any_moment g c = λ told list stands.
    let P : List ℕ → Type 0 = λ f. StandsFor f list in
    let begun = starts g.D.Disk.moment g.D.Disk.image g.D.Disk.image_since g.met.D.Disk.counts_now g.met.D.Disk.widens c.args.disk.now P (g.met.D.Disk.only_now c.args.disk.now) (stands_now g.D.Disk.content g.D.Disk.image c.args.disk.now c.args.gate (c.requires told) list stands) in
    let read = stays g.D.Disk.moment g.D.Disk.image g.D.Disk.image_since g.met.D.Disk.counts_now g.met.D.Disk.widens c.args.disk.now c.args.disk.now c.size.new.self P begun c.size.ensures.time c.size.ensures.images in
    joined g.D.Disk.moment g.D.Disk.image g.D.Disk.image_since g.met.D.Disk.counts_now g.met.D.Disk.widens c.args.disk.now c.size.new.self c.widen.new.disk P P read (c.widen.ensures.any_moment told list (subst P (sym c.size.ensures.same) stands)) (λ f same. same)

pub returns-clause-any_moment : goal.returns-clause-any_moment
returns-clause-any_moment g c = λ told list stands.
    let P : List ℕ → Type 0 = λ f. StandsFor f list in
    let begun = starts g.D.Disk.moment g.D.Disk.image g.D.Disk.image_since g.met.D.Disk.counts_now g.met.D.Disk.widens c.args.disk.now P (g.met.D.Disk.only_now c.args.disk.now) (stands_now g.D.Disk.content g.D.Disk.image c.args.disk.now c.args.gate (c.requires told) list stands) in
    let read = stays g.D.Disk.moment g.D.Disk.image g.D.Disk.image_since g.met.D.Disk.counts_now g.met.D.Disk.widens c.args.disk.now c.args.disk.now c.size.new.self P begun c.size.ensures.time c.size.ensures.images in
    joined g.D.Disk.moment g.D.Disk.image g.D.Disk.image_since g.met.D.Disk.counts_now g.met.D.Disk.widens c.args.disk.now c.size.new.self c.widen.new.disk P P read (c.widen.ensures.any_moment told list (subst P (sym c.size.ensures.same) stands)) (λ f same. same)
