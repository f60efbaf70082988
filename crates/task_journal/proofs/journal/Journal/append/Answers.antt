use Rattle.std.proofs.Common.{◌≡◌, ◌+◌, ℕ, length, sym, ap, subst, arith}
use Rattle.disk_model.specs.Crashes.{LeavesOnly}
use Rattle.task_journal.specs.Journal.{StandsFor}
use Rattle.task_journal.specs.Settled.{Held, IsReady, Outcome}
use Rattle.task_journal.proofs.Crash.{stands_for_some}
use Rattle.task_journal.proofs.journal.Journal.append.Goals as goal

pub invariant_of-self : goal.invariant_of-self
invariant_of-self g c = λ shut told.
    let ready = c.self.invariant shut told in
    let some = stands_for_some (g.D.Disk.content c.self.inside.disk) c.self.inside.gate ready.settled in
    let after = c.in-Ok.ensures.ready told some.0 c.args.batch.now c.octets-octets.ensures some.1 in
    let gate : c.saturating_add-self-inside.result ≡ c.self.inside.gate + length c.octets-octets.result.now = omega (arith, after.settled.room, c.saturating_add-self-inside.ensures) in
    subst (λ (n : ℕ). IsReady g.D.Disk.content g.D.Disk.image c.append_in.new.disk n) (sym gate) after

pub returns-in-Ok-clause-durable : goal.returns-in-Ok-clause-durable
returns-in-Ok-clause-durable g c = λ told.
    let ready = c.self.invariant c.if-self.false told in
    let some = stands_for_some (g.D.Disk.content c.self.inside.disk) c.self.inside.gate ready.settled in
    let after = c.in-Ok.ensures.ready told some.0 c.args.batch.now c.octets-octets.ensures some.1 in
    after.durable

pub returns-in-Ok-clause-any_moment : goal.returns-in-Ok-clause-any_moment
returns-in-Ok-clause-any_moment g c = λ told open_now list stands.
    let disk : c.self.inside.disk ≡ c.args.self.now.disk = ap (λ (h : Held g.row.D.Denot). h.disk) c.self.view_is in
    let before = subst (λ (d : g.row.D.Denot). StandsFor (g.D.Disk.content d) list) (sym disk) stands in
    subst (λ (d : g.row.D.Denot). LeavesOnly g.D.Disk.moment g.D.Disk.image_since d c.append_in.new.disk (Outcome list c.args.batch.now)) disk (c.in-Ok.ensures.any_moment told list c.args.batch.now c.octets-octets.ensures before)

pub returns-in-Err-clause-any_moment : goal.returns-in-Err-clause-any_moment
returns-in-Err-clause-any_moment g c = λ told open_now list stands.
    let disk : c.self.inside.disk ≡ c.args.self.now.disk = ap (λ (h : Held g.row.D.Denot). h.disk) c.self.view_is in
    let before = subst (λ (d : g.row.D.Denot). StandsFor (g.D.Disk.content d) list) (sym disk) stands in
    subst (λ (d : g.row.D.Denot). LeavesOnly g.D.Disk.moment g.D.Disk.image_since d c.append_in.new.disk (Outcome list c.args.batch.now)) disk (c.in-Err.ensures.any_moment told list c.args.batch.now c.octets-octets.ensures before)
