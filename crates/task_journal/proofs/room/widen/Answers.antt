use Rattle.std.proofs.Common.{◌≡◌, ◌∙◌, ◌+◌, ◌≤◌, ℕ, List, length, sym, subst, arith}
use Rattle.task_journal.specs.Journal.{StandsFor}
use Rattle.task_journal.proofs.Moments.{starts, goes, stays}
use Rattle.task_journal.proofs.Crash.{gate_inside}
use Rattle.task_journal.proofs.Behind.{write_alike, stands_alike, stands_now, ready_again, stands_again}
use Rattle.task_journal.proofs.room.widen.Goals as goal

pub returns-in_err-write_at-clause-any_moment : goal.returns-in_err-write_at-clause-any_moment
returns-in_err-write_at-clause-any_moment g c = λ told list stands.
    let ready = c.requires.ready told in
    let disk = g.D.Disk.content c.args.disk.now in
    let le : c.args.gate + 1 ≤ c.args.size = omega (arith, gate_inside disk c.args.gate ready.settled, c.requires.size told) in
    let alike = write_alike disk c.args.gate c.args.size (length c.args.octets.now) (g.D.Disk.image c.args.disk.now) (g.D.Disk.image c.write_at.new.self) ready.settled le ready.durable c.write_at.ensures.images in
    let P : List ℕ → Type 0 = λ f. StandsFor f list in
    let begun = starts g.D.Disk.moment g.D.Disk.image g.D.Disk.image_since g.met.D.Disk.counts_now g.met.D.Disk.widens c.args.disk.now P (g.met.D.Disk.only_now c.args.disk.now) (stands_now g.D.Disk.content g.D.Disk.image c.args.disk.now c.args.gate ready list stands) in
    let first = goes g.D.Disk.moment g.D.Disk.image g.D.Disk.image_since g.met.D.Disk.counts_now g.met.D.Disk.widens c.args.disk.now c.args.disk.now c.write_at.new.self P begun c.write_at.ensures.time (λ f now. stands_alike disk c.args.gate ready.settled f (alike f now) list stands) in
    first.leaves

pub returns-in_err-sync-clause-any_moment : goal.returns-in_err-sync-clause-any_moment
returns-in_err-sync-clause-any_moment g c = λ told list stands.
    let ready = c.requires.ready told in
    let disk = g.D.Disk.content c.args.disk.now in
    let le : c.args.gate + 1 ≤ c.args.size = omega (arith, gate_inside disk c.args.gate ready.settled, c.requires.size told) in
    let alike = write_alike disk c.args.gate c.args.size (length c.args.octets.now) (g.D.Disk.image c.args.disk.now) (g.D.Disk.image c.write_at.new.self) ready.settled le ready.durable c.write_at.ensures.images in
    let P : List ℕ → Type 0 = λ f. StandsFor f list in
    let begun = starts g.D.Disk.moment g.D.Disk.image g.D.Disk.image_since g.met.D.Disk.counts_now g.met.D.Disk.widens c.args.disk.now P (g.met.D.Disk.only_now c.args.disk.now) (stands_now g.D.Disk.content g.D.Disk.image c.args.disk.now c.args.gate ready list stands) in
    let first = goes g.D.Disk.moment g.D.Disk.image g.D.Disk.image_since g.met.D.Disk.counts_now g.met.D.Disk.widens c.args.disk.now c.args.disk.now c.write_at.new.self P begun c.write_at.ensures.time (λ f now. stands_alike disk c.args.gate ready.settled f (alike f now) list stands) in
    let kept = stays g.D.Disk.moment g.D.Disk.image g.D.Disk.image_since g.met.D.Disk.counts_now g.met.D.Disk.widens c.args.disk.now c.write_at.new.self c.sync.new.self P first c.sync.ensures.time c.sync.ensures.images in
    kept.leaves

pub returns-clause-any_moment : goal.returns-clause-any_moment
returns-clause-any_moment g c = λ told list stands.
    let ready = c.requires.ready told in
    let disk = g.D.Disk.content c.args.disk.now in
    let le : c.args.gate + 1 ≤ c.args.size = omega (arith, gate_inside disk c.args.gate ready.settled, c.requires.size told) in
    let alike = write_alike disk c.args.gate c.args.size (length c.args.octets.now) (g.D.Disk.image c.args.disk.now) (g.D.Disk.image c.write_at.new.self) ready.settled le ready.durable c.write_at.ensures.images in
    let P : List ℕ → Type 0 = λ f. StandsFor f list in
    let begun = starts g.D.Disk.moment g.D.Disk.image g.D.Disk.image_since g.met.D.Disk.counts_now g.met.D.Disk.widens c.args.disk.now P (g.met.D.Disk.only_now c.args.disk.now) (stands_now g.D.Disk.content g.D.Disk.image c.args.disk.now c.args.gate ready list stands) in
    let first = goes g.D.Disk.moment g.D.Disk.image g.D.Disk.image_since g.met.D.Disk.counts_now g.met.D.Disk.widens c.args.disk.now c.args.disk.now c.write_at.new.self P begun c.write_at.ensures.time (λ f now. stands_alike disk c.args.gate ready.settled f (alike f now) list stands) in
    let kept = stays g.D.Disk.moment g.D.Disk.image g.D.Disk.image_since g.met.D.Disk.counts_now g.met.D.Disk.widens c.args.disk.now c.write_at.new.self c.sync.new.self P first c.sync.ensures.time c.sync.ensures.images in
    kept.leaves

pub returns-clause-ready : goal.returns-clause-ready
returns-clause-ready g c = λ told.
    let ready = c.requires.ready told in
    let disk = g.D.Disk.content c.args.disk.now in
    let le : c.args.gate + 1 ≤ c.args.size = omega (arith, gate_inside disk c.args.gate ready.settled, c.requires.size told) in
    let alike = write_alike disk c.args.gate c.args.size (length c.args.octets.now) (g.D.Disk.image c.args.disk.now) (g.D.Disk.image c.write_at.new.self) ready.settled le ready.durable c.write_at.ensures.images in
    ready_again g.D.Disk.content g.D.Disk.image c.args.disk.now c.write_at.new.self c.sync.new.self c.args.gate ready alike (g.met.D.Disk.reads_now c.write_at.new.self told) c.sync.ensures.same c.in_ok-sync.ensures.durable

pub returns-clause-stands : goal.returns-clause-stands
returns-clause-stands g c = λ told list stands.
    let ready = c.requires.ready told in
    let disk = g.D.Disk.content c.args.disk.now in
    let le : c.args.gate + 1 ≤ c.args.size = omega (arith, gate_inside disk c.args.gate ready.settled, c.requires.size told) in
    let alike = write_alike disk c.args.gate c.args.size (length c.args.octets.now) (g.D.Disk.image c.args.disk.now) (g.D.Disk.image c.write_at.new.self) ready.settled le ready.durable c.write_at.ensures.images in
    stands_again g.D.Disk.content g.D.Disk.image c.args.disk.now c.write_at.new.self c.sync.new.self c.args.gate ready alike (g.met.D.Disk.reads_now c.write_at.new.self told) c.sync.ensures.same list stands
