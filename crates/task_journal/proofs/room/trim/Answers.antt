use Rattle.std.proofs.Common.{◌≡◌, ◌∙◌, ◌+◌, ◌≤◌, ℕ, List, length, take, ap, sym, subst, arith}
use Rattle.std.specs.Prelude.{max}
use Rattle.task_journal.specs.Journal.{StandsFor}
use Rattle.task_journal.proofs.Moments.{starts, goes, stays}
use Rattle.task_journal.proofs.Crash.{gate_inside}
use Rattle.task_journal.proofs.Behind.{IsAlike, cut_alike, stands_alike, stands_now, ready_again, stands_again, settled_alike, trimmed_at}
use Rattle.task_journal.proofs.room.trim.Goals as goal

pub returns-in_err-cut-clause-any_moment : goal.returns-in_err-cut-clause-any_moment
returns-in_err-cut-clause-any_moment g c = λ told list stands.
    let ready = c.requires told in
    let disk = g.D.Disk.content c.args.disk.now in
    let at : c.saturating_add.result ≡ c.args.gate + 1 = omega (arith, ready.settled.room, c.saturating_add.ensures) in
    let past : c.args.gate + 1 ≤ c.max-end.result = omega (arith, at, c.max-end.ensures) in
    let long : 33 ≤ c.max-end.result = omega (arith, c.max-end.ensures) in
    let within : c.max-end.result ≤ length disk = omega (arith, at, c.max-end.ensures, gate_inside disk c.args.gate ready.settled, ready.settled.long) in
    let alike = cut_alike disk c.args.gate c.max-end.result (g.D.Disk.image c.args.disk.now) (g.D.Disk.image c.cut.new.self) ready.settled past long within ready.durable c.cut.ensures.images in
    let P : List ℕ → Type 0 = λ f. StandsFor f list in
    let begun = starts g.D.Disk.moment g.D.Disk.image g.D.Disk.image_since g.met.D.Disk.counts_now g.met.D.Disk.widens c.args.disk.now P (g.met.D.Disk.only_now c.args.disk.now) (stands_now g.D.Disk.content g.D.Disk.image c.args.disk.now c.args.gate ready list stands) in
    let first = goes g.D.Disk.moment g.D.Disk.image g.D.Disk.image_since g.met.D.Disk.counts_now g.met.D.Disk.widens c.args.disk.now c.args.disk.now c.cut.new.self P begun c.cut.ensures.time (λ f now. stands_alike disk c.args.gate ready.settled f (alike f now) list stands) in
    first.leaves

pub returns-in_err-sync-clause-any_moment : goal.returns-in_err-sync-clause-any_moment
returns-in_err-sync-clause-any_moment g c = λ told list stands.
    let ready = c.requires told in
    let disk = g.D.Disk.content c.args.disk.now in
    let at : c.saturating_add.result ≡ c.args.gate + 1 = omega (arith, ready.settled.room, c.saturating_add.ensures) in
    let past : c.args.gate + 1 ≤ c.max-end.result = omega (arith, at, c.max-end.ensures) in
    let long : 33 ≤ c.max-end.result = omega (arith, c.max-end.ensures) in
    let within : c.max-end.result ≤ length disk = omega (arith, at, c.max-end.ensures, gate_inside disk c.args.gate ready.settled, ready.settled.long) in
    let alike = cut_alike disk c.args.gate c.max-end.result (g.D.Disk.image c.args.disk.now) (g.D.Disk.image c.cut.new.self) ready.settled past long within ready.durable c.cut.ensures.images in
    let P : List ℕ → Type 0 = λ f. StandsFor f list in
    let begun = starts g.D.Disk.moment g.D.Disk.image g.D.Disk.image_since g.met.D.Disk.counts_now g.met.D.Disk.widens c.args.disk.now P (g.met.D.Disk.only_now c.args.disk.now) (stands_now g.D.Disk.content g.D.Disk.image c.args.disk.now c.args.gate ready list stands) in
    let first = goes g.D.Disk.moment g.D.Disk.image g.D.Disk.image_since g.met.D.Disk.counts_now g.met.D.Disk.widens c.args.disk.now c.args.disk.now c.cut.new.self P begun c.cut.ensures.time (λ f now. stands_alike disk c.args.gate ready.settled f (alike f now) list stands) in
    let kept = stays g.D.Disk.moment g.D.Disk.image g.D.Disk.image_since g.met.D.Disk.counts_now g.met.D.Disk.widens c.args.disk.now c.cut.new.self c.sync.new.self P first c.sync.ensures.time c.sync.ensures.images in
    kept.leaves

pub returns-clause-any_moment : goal.returns-clause-any_moment
returns-clause-any_moment g c = λ told list stands.
    let ready = c.requires told in
    let disk = g.D.Disk.content c.args.disk.now in
    let at : c.saturating_add.result ≡ c.args.gate + 1 = omega (arith, ready.settled.room, c.saturating_add.ensures) in
    let past : c.args.gate + 1 ≤ c.max-end.result = omega (arith, at, c.max-end.ensures) in
    let long : 33 ≤ c.max-end.result = omega (arith, c.max-end.ensures) in
    let within : c.max-end.result ≤ length disk = omega (arith, at, c.max-end.ensures, gate_inside disk c.args.gate ready.settled, ready.settled.long) in
    let alike = cut_alike disk c.args.gate c.max-end.result (g.D.Disk.image c.args.disk.now) (g.D.Disk.image c.cut.new.self) ready.settled past long within ready.durable c.cut.ensures.images in
    let P : List ℕ → Type 0 = λ f. StandsFor f list in
    let begun = starts g.D.Disk.moment g.D.Disk.image g.D.Disk.image_since g.met.D.Disk.counts_now g.met.D.Disk.widens c.args.disk.now P (g.met.D.Disk.only_now c.args.disk.now) (stands_now g.D.Disk.content g.D.Disk.image c.args.disk.now c.args.gate ready list stands) in
    let first = goes g.D.Disk.moment g.D.Disk.image g.D.Disk.image_since g.met.D.Disk.counts_now g.met.D.Disk.widens c.args.disk.now c.args.disk.now c.cut.new.self P begun c.cut.ensures.time (λ f now. stands_alike disk c.args.gate ready.settled f (alike f now) list stands) in
    let kept = stays g.D.Disk.moment g.D.Disk.image g.D.Disk.image_since g.met.D.Disk.counts_now g.met.D.Disk.widens c.args.disk.now c.cut.new.self c.sync.new.self P first c.sync.ensures.time c.sync.ensures.images in
    kept.leaves

pub returns-clause-ready : goal.returns-clause-ready
returns-clause-ready g c = λ told.
    let ready = c.requires told in
    let disk = g.D.Disk.content c.args.disk.now in
    let at : c.saturating_add.result ≡ c.args.gate + 1 = omega (arith, ready.settled.room, c.saturating_add.ensures) in
    let past : c.args.gate + 1 ≤ c.max-end.result = omega (arith, at, c.max-end.ensures) in
    let long : 33 ≤ c.max-end.result = omega (arith, c.max-end.ensures) in
    let within : c.max-end.result ≤ length disk = omega (arith, at, c.max-end.ensures, gate_inside disk c.args.gate ready.settled, ready.settled.long) in
    let alike = cut_alike disk c.args.gate c.max-end.result (g.D.Disk.image c.args.disk.now) (g.D.Disk.image c.cut.new.self) ready.settled past long within ready.durable c.cut.ensures.images in
    ready_again g.D.Disk.content g.D.Disk.image c.args.disk.now c.cut.new.self c.sync.new.self c.args.gate ready alike (g.met.D.Disk.reads_now c.cut.new.self told) c.sync.ensures.same c.in_ok-sync.ensures.durable

pub returns-clause-stands : goal.returns-clause-stands
returns-clause-stands g c = λ told list stands.
    let ready = c.requires told in
    let disk = g.D.Disk.content c.args.disk.now in
    let at : c.saturating_add.result ≡ c.args.gate + 1 = omega (arith, ready.settled.room, c.saturating_add.ensures) in
    let past : c.args.gate + 1 ≤ c.max-end.result = omega (arith, at, c.max-end.ensures) in
    let long : 33 ≤ c.max-end.result = omega (arith, c.max-end.ensures) in
    let within : c.max-end.result ≤ length disk = omega (arith, at, c.max-end.ensures, gate_inside disk c.args.gate ready.settled, ready.settled.long) in
    let alike = cut_alike disk c.args.gate c.max-end.result (g.D.Disk.image c.args.disk.now) (g.D.Disk.image c.cut.new.self) ready.settled past long within ready.durable c.cut.ensures.images in
    stands_again g.D.Disk.content g.D.Disk.image c.args.disk.now c.cut.new.self c.sync.new.self c.args.gate ready alike (g.met.D.Disk.reads_now c.cut.new.self told) c.sync.ensures.same list stands

pub cut-requires : goal.cut-requires
cut-requires g c = λ told.
    let ready = c.requires told in
    let disk = g.D.Disk.content c.args.disk.now in
    let at : c.saturating_add.result ≡ c.args.gate + 1 = omega (arith, ready.settled.room, c.saturating_add.ensures) in
    omega (arith, at, c.max-end.ensures, gate_inside disk c.args.gate ready.settled, ready.settled.long)

pub returns-clause-trimmed : goal.returns-clause-trimmed
returns-clause-trimmed g c = λ told.
    let ready = c.requires told in
    let disk = g.D.Disk.content c.args.disk.now in
    let at : c.saturating_add.result ≡ c.args.gate + 1 = omega (arith, ready.settled.room, c.saturating_add.ensures) in
    let past : c.args.gate + 1 ≤ c.max-end.result = omega (arith, at, c.max-end.ensures) in
    let long : 33 ≤ c.max-end.result = omega (arith, c.max-end.ensures) in
    let within : c.max-end.result ≤ length disk = omega (arith, at, c.max-end.ensures, gate_inside disk c.args.gate ready.settled, ready.settled.long) in
    let alike = cut_alike disk c.args.gate c.max-end.result (g.D.Disk.image c.args.disk.now) (g.D.Disk.image c.cut.new.self) ready.settled past long within ready.durable c.cut.ensures.images in
    let end : c.max-end.result ≡ max (c.args.gate + 1) 33 = omega (arith, at, c.max-end.ensures) in
    let now = g.D.Disk.content c.sync.new.self in
    let is : now ≡ take (max (c.args.gate + 1) 33) disk = c.sync.ensures.same ∙ c.in_ok-cut.ensures.cut told ∙ ap (λ (n : ℕ). take n disk) end in
    let same = subst (λ (z : List ℕ). IsAlike disk c.args.gate z) (sym c.sync.ensures.same) (alike (g.D.Disk.content c.cut.new.self) (g.met.D.Disk.reads_now c.cut.new.self told)) in
    trimmed_at disk now c.args.gate (settled_alike disk c.args.gate ready.settled now same) (subst (λ (n : ℕ). n ≤ length disk) end within) is
