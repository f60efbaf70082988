use Rattle.std.proofs.Common.{◌≡◌, ◌≤◌, ◌<◌, inl, inr, [], length, sym, ap, subst, ◌∙◌, arith, ℕ, List}
use Rattle.task_journal.specs.Journal.{StandsFor, IsSame}
use Rattle.task_journal.specs.Versions.{as_second}
use Rattle.task_journal.specs.Settled.{IsJournal, Unharmed}
use Rattle.task_journal.proofs.Moments.{starts, stays, reads, joined}
use Rattle.task_journal.proofs.Crash.{short_at_0, long_past_0}
use Rattle.task_journal.proofs.Migration.{second_same, second_settled}
use Rattle.task_journal.proofs.Making.{same_empty}
use Rattle.task_journal.proofs.opening.prepare.Goals as goal

pub make-requires-clause-short : goal.make-requires-clause-short
make-requires-clause-short g c = λ told.
    subst (λ (z : List ℕ). length z < 33) (sym c.read_found.ensures.reads.same) (short_at_0 (g.D.Disk.content c.sync.new.self) c.in_ok-found.found c.in_ok-found.gate (c.in_ok-found.ensures.value told) c.in_ok-found.ensures.gate c.if-gate-eq0.true)

pub returns-in_err-make-clause-any_moment : goal.returns-in_err-make-clause-any_moment
returns-in_err-make-clause-any_moment g c = λ told.
    let short : length (g.D.Disk.content c.args.disk.now) < 33 = subst (λ (z : List ℕ). length z < 33) c.sync.ensures.same (short_at_0 (g.D.Disk.content c.sync.new.self) c.in_ok-found.found c.in_ok-found.gate (c.in_ok-found.ensures.value told) c.in_ok-found.ensures.gate c.if-gate-eq0.true) in
    let P = Unharmed (g.D.Disk.image c.args.disk.now) (g.D.Disk.content c.args.disk.now) in
    let begun = starts g.D.Disk.moment g.D.Disk.image g.D.Disk.image_since g.met.D.Disk.counts_now g.met.D.Disk.widens c.args.disk.now P (g.met.D.Disk.only_now c.args.disk.now) (λ f now. inl now) in
    let synced = stays g.D.Disk.moment g.D.Disk.image g.D.Disk.image_since g.met.D.Disk.counts_now g.met.D.Disk.widens c.args.disk.now c.args.disk.now c.sync.new.self P begun c.sync.ensures.time c.sync.ensures.images in
    let known = reads g.D.Disk.moment g.D.Disk.image g.D.Disk.image_since g.met.D.Disk.counts_now g.met.D.Disk.widens g.D.Disk.content g.D.Disk.faults c.args.disk.now c.sync.new.self c.read_found.new.disk P synced c.read_found.ensures.reads in
    joined g.D.Disk.moment g.D.Disk.image g.D.Disk.image_since g.met.D.Disk.counts_now g.met.D.Disk.widens c.args.disk.now c.read_found.new.disk c.make.new.disk P (λ f. StandsFor f []) known (c.make.ensures.any_moment told) (λ f empty. inr (same_empty f (g.D.Disk.content c.args.disk.now) short empty))

pub returns-then-gate-eq0-clause-any_moment : goal.returns-then-gate-eq0-clause-any_moment
returns-then-gate-eq0-clause-any_moment g c = λ told.
    let short : length (g.D.Disk.content c.args.disk.now) < 33 = subst (λ (z : List ℕ). length z < 33) c.sync.ensures.same (short_at_0 (g.D.Disk.content c.sync.new.self) c.in_ok-found.found c.in_ok-found.gate (c.in_ok-found.ensures.value told) c.in_ok-found.ensures.gate c.if-gate-eq0.true) in
    let P = Unharmed (g.D.Disk.image c.args.disk.now) (g.D.Disk.content c.args.disk.now) in
    let begun = starts g.D.Disk.moment g.D.Disk.image g.D.Disk.image_since g.met.D.Disk.counts_now g.met.D.Disk.widens c.args.disk.now P (g.met.D.Disk.only_now c.args.disk.now) (λ f now. inl now) in
    let synced = stays g.D.Disk.moment g.D.Disk.image g.D.Disk.image_since g.met.D.Disk.counts_now g.met.D.Disk.widens c.args.disk.now c.args.disk.now c.sync.new.self P begun c.sync.ensures.time c.sync.ensures.images in
    let known = reads g.D.Disk.moment g.D.Disk.image g.D.Disk.image_since g.met.D.Disk.counts_now g.met.D.Disk.widens g.D.Disk.content g.D.Disk.faults c.args.disk.now c.sync.new.self c.read_found.new.disk P synced c.read_found.ensures.reads in
    joined g.D.Disk.moment g.D.Disk.image g.D.Disk.image_since g.met.D.Disk.counts_now g.met.D.Disk.widens c.args.disk.now c.read_found.new.disk c.make.new.disk P (λ f. StandsFor f []) known (c.make.ensures.any_moment told) (λ f empty. inr (same_empty f (g.D.Disk.content c.args.disk.now) short empty))

pub returns-in_err-make-clause-spared : goal.returns-in_err-make-clause-spared
returns-in_err-make-clause-spared g c = λ told failed.
    let short : length (g.D.Disk.content c.args.disk.now) < 33 = subst (λ (z : List ℕ). length z < 33) c.sync.ensures.same (short_at_0 (g.D.Disk.content c.sync.new.self) c.in_ok-found.found c.in_ok-found.gate (c.in_ok-found.ensures.value told) c.in_ok-found.ensures.gate c.if-gate-eq0.true) in
    let leaves = c.make.ensures.any_moment told in
    inr (λ f now. same_empty f (g.D.Disk.content c.args.disk.now) short (leaves.each f (g.met.D.Disk.counts_now c.make.new.disk (g.D.Disk.moment c.read_found.new.disk) f leaves.later now)))

pub returns-then-gate-eq0-clause-same : goal.returns-then-gate-eq0-clause-same
returns-then-gate-eq0-clause-same g c = λ told.
    let short : length (g.D.Disk.content c.args.disk.now) < 33 = subst (λ (z : List ℕ). length z < 33) c.sync.ensures.same (short_at_0 (g.D.Disk.content c.sync.new.self) c.in_ok-found.found c.in_ok-found.gate (c.in_ok-found.ensures.value told) c.in_ok-found.ensures.gate c.if-gate-eq0.true) in
    same_empty (g.D.Disk.content c.make.new.disk) (g.D.Disk.content c.args.disk.now) short (c.in_ok-make.ensures.empty told)

pub returns-then-gate-eq0-clause-kept : goal.returns-then-gate-eq0-clause-kept
returns-then-gate-eq0-clause-kept g c = λ told long.
    let short : length (g.D.Disk.content c.args.disk.now) < 33 = subst (λ (z : List ℕ). length z < 33) c.sync.ensures.same (short_at_0 (g.D.Disk.content c.sync.new.self) c.in_ok-found.found c.in_ok-found.gate (c.in_ok-found.ensures.value told) c.in_ok-found.ensures.gate c.if-gate-eq0.true) in
    absurd (omega (arith, short, long))

-- the journal that was read
pub migrate-requires-clause-journal : goal.migrate-requires-clause-journal
migrate-requires-clause-journal g c = λ told.
    let octets = g.D.Disk.content c.sync.new.self in
    let read = c.in_ok-found.ensures.value told in
    let long = long_past_0 octets c.in_ok-found.found c.in_ok-found.gate read c.in_ok-found.ensures.gate (λ zero_is. absurd (omega (arith, zero_is, c.if-gate-eq0.false))) in
    subst (λ (z : List ℕ). IsJournal c.in_ok-found.version z) (sym c.read_found.ensures.reads.same) (record {
      long = long;
      is = c.in_ok-found.ensures.version told long;
      list = c.in_ok-found.found.entries;
      stands = (c.in_ok-found.found.places, read);
    })

pub migrate-requires-clause-durable : goal.migrate-requires-clause-durable
migrate-requires-clause-durable g c = λ told f now. c.in_ok-sync.ensures.durable f (c.read_found.ensures.reads.images f now) ∙ sym (c.read_found.ensures.reads.same ∙ c.sync.ensures.same)

pub returns-in_err-migrate-clause-any_moment : goal.returns-in_err-migrate-clause-any_moment
returns-in_err-migrate-clause-any_moment g c = λ told.
    let P = Unharmed (g.D.Disk.image c.args.disk.now) (g.D.Disk.content c.args.disk.now) in
    let same : g.D.Disk.content c.read_found.new.disk ≡ g.D.Disk.content c.args.disk.now = c.read_found.ensures.reads.same ∙ c.sync.ensures.same in
    let begun = starts g.D.Disk.moment g.D.Disk.image g.D.Disk.image_since g.met.D.Disk.counts_now g.met.D.Disk.widens c.args.disk.now P (g.met.D.Disk.only_now c.args.disk.now) (λ f now. inl now) in
    let synced = stays g.D.Disk.moment g.D.Disk.image g.D.Disk.image_since g.met.D.Disk.counts_now g.met.D.Disk.widens c.args.disk.now c.args.disk.now c.sync.new.self P begun c.sync.ensures.time c.sync.ensures.images in
    let known = reads g.D.Disk.moment g.D.Disk.image g.D.Disk.image_since g.met.D.Disk.counts_now g.met.D.Disk.widens g.D.Disk.content g.D.Disk.faults c.args.disk.now c.sync.new.self c.read_found.new.disk P synced c.read_found.ensures.reads in
    joined g.D.Disk.moment g.D.Disk.image g.D.Disk.image_since g.met.D.Disk.counts_now g.met.D.Disk.widens c.args.disk.now c.read_found.new.disk c.migrate.new.disk P (λ f. IsSame f (g.D.Disk.content c.read_found.new.disk)) known (c.migrate.ensures.any_moment told) (λ f is. inr (subst (λ (z : List ℕ). IsSame f z) same is))

pub returns-in_err-migrate-clause-spared : goal.returns-in_err-migrate-clause-spared
returns-in_err-migrate-clause-spared g c = λ told failed.
    let same : g.D.Disk.content c.read_found.new.disk ≡ g.D.Disk.content c.args.disk.now = c.read_found.ensures.reads.same ∙ c.sync.ensures.same in
    let leaves = c.migrate.ensures.any_moment told in
    inr (λ f now. subst (λ (z : List ℕ). IsSame f z) same (leaves.each f (g.met.D.Disk.counts_now c.migrate.new.disk (g.D.Disk.moment c.read_found.new.disk) f leaves.later now)))

pub returns-clause-any_moment : goal.returns-clause-any_moment
returns-clause-any_moment g c = λ told.
    let P = Unharmed (g.D.Disk.image c.args.disk.now) (g.D.Disk.content c.args.disk.now) in
    let same : g.D.Disk.content c.read_found.new.disk ≡ g.D.Disk.content c.args.disk.now = c.read_found.ensures.reads.same ∙ c.sync.ensures.same in
    let begun = starts g.D.Disk.moment g.D.Disk.image g.D.Disk.image_since g.met.D.Disk.counts_now g.met.D.Disk.widens c.args.disk.now P (g.met.D.Disk.only_now c.args.disk.now) (λ f now. inl now) in
    let synced = stays g.D.Disk.moment g.D.Disk.image g.D.Disk.image_since g.met.D.Disk.counts_now g.met.D.Disk.widens c.args.disk.now c.args.disk.now c.sync.new.self P begun c.sync.ensures.time c.sync.ensures.images in
    let known = reads g.D.Disk.moment g.D.Disk.image g.D.Disk.image_since g.met.D.Disk.counts_now g.met.D.Disk.widens g.D.Disk.content g.D.Disk.faults c.args.disk.now c.sync.new.self c.read_found.new.disk P synced c.read_found.ensures.reads in
    joined g.D.Disk.moment g.D.Disk.image g.D.Disk.image_since g.met.D.Disk.counts_now g.met.D.Disk.widens c.args.disk.now c.read_found.new.disk c.migrate.new.disk P (λ f. IsSame f (g.D.Disk.content c.read_found.new.disk)) known (c.migrate.ensures.any_moment told) (λ f is. inr (subst (λ (z : List ℕ). IsSame f z) same is))

-- what the migration leaves is that journal as one of the second version
pub returns-clause-ready : goal.returns-clause-ready
returns-clause-ready g c = λ told.
    let octets = g.D.Disk.content c.sync.new.self in
    let read = c.in_ok-found.ensures.value told in
    let long = long_past_0 octets c.in_ok-found.found c.in_ok-found.gate read c.in_ok-found.ensures.gate (λ zero_is. absurd (omega (arith, zero_is, c.if-gate-eq0.false))) in
    let is = c.in_ok-migrate.ensures.second told ∙ ap as_second c.read_found.ensures.reads.same in
    record {
      settled = second_settled octets (g.D.Disk.content c.migrate.new.disk) c.in_ok-found.found c.in_ok-found.gate read c.in_ok-found.ensures.gate long (c.in_ok-found.ensures.fits told) is;
      durable = c.in_ok-migrate.ensures.durable told;
    }

pub returns-clause-same : goal.returns-clause-same
returns-clause-same g c = λ told.
    let octets = g.D.Disk.content c.sync.new.self in
    let read = c.in_ok-found.ensures.value told in
    let long = long_past_0 octets c.in_ok-found.found c.in_ok-found.gate read c.in_ok-found.ensures.gate (λ zero_is. absurd (omega (arith, zero_is, c.if-gate-eq0.false))) in
    let is = c.in_ok-migrate.ensures.second told ∙ ap as_second c.read_found.ensures.reads.same in
    subst (λ (z : List ℕ). IsSame (g.D.Disk.content c.migrate.new.disk) z) c.sync.ensures.same (second_same octets (g.D.Disk.content c.migrate.new.disk) c.in_ok-found.found long read is)

pub returns-clause-kept : goal.returns-clause-kept
returns-clause-kept g c = λ told long. c.in_ok-migrate.ensures.second told ∙ ap as_second (c.read_found.ensures.reads.same ∙ c.sync.ensures.same)

pub returns-clause-made : goal.returns-clause-made
returns-clause-made g c = λ told short.
    let long = long_past_0 (g.D.Disk.content c.sync.new.self) c.in_ok-found.found c.in_ok-found.gate (c.in_ok-found.ensures.value told) c.in_ok-found.ensures.gate (λ zero_is. absurd (omega (arith, zero_is, c.if-gate-eq0.false))) in
    absurd (omega (arith, subst (λ (z : List ℕ). 33 ≤ length z) c.sync.ensures.same long, short))
