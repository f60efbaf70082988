use Rattle.std.proofs.Common.{◌≡◌, ◌∙◌, ◌⊎◌, inl, reverse, refl, sym, ap, subst}
use Rattle.cluster_core.specs.Steps.{CoreView}
use Rattle.disk_model.specs.Crashes.{LeavesOnly}
use Rattle.task_journal.specs.declared.fault.OpenFault.TheVariants.{DiskFault, OutOfMemory}
use Rattle.task_journal.specs.Journal.{StandsFor, IsOfDisk}
use Rattle.task_journal.specs.Settled.{Unharmed}
use Rattle.cluster_store.specs.Openings.{HasOpen, Exits, opened}
use Rattle.cluster_store.specs.Stores.{written}
use Rattle.cluster_store.proofs.Images.{chained, weakened}
use Rattle.cluster_store.proofs.Opens.{fit_written, either_list, exits_either, exits_list, both_ok, three_err, of_disk_or_memory}
use Rattle.cluster_store.proofs.store.Store.open.Goals as goal

pub begin-requires-clause-holds : goal.begin-requires-clause-holds
begin-requires-clause-holds g c =
    let history : c.set_limits.new.self.history ≡ reverse c.in-Ok.opened.1 = ap (λ (v : CoreView). v.history) c.set_limits.ensures ∙ c.in-Ok-core_of.ensures.history in
    λ tells. subst (StandsFor (g.D.Disk.content c.in-Ok.opened.0.disk)) (sym (ap written history ∙ fit_written c.in-Ok.opened.1 c.in-Ok-core_of.ensures.fit)) (c.in-Ok.ensures.stands tells)

pub returns-clause-any_moment : goal.returns-clause-any_moment
returns-clause-any_moment g c =
    let core : c.set_limits.new.self.history ≡ reverse c.in-Ok.opened.1 = ap (λ (v : CoreView). v.history) c.set_limits.ensures ∙ c.in-Ok-core_of.ensures.history in
    λ tells.
    both_ok c.begin.result (λ s. s.history ≡ opened c.args.config c.args.moment c.set_limits.new.self.history)
    (λ s. LeavesOnly g.D.Disk.moment g.D.Disk.image_since c.in-Ok.opened.0.disk s.disk (λ x. StandsFor x (written c.set_limits.new.self.history) ⊎ StandsFor x (written s.history)))
    (λ s. LeavesOnly g.D.Disk.moment g.D.Disk.image_since c.args.disk s.disk (λ x. Unharmed (g.D.Disk.image c.args.disk) (g.D.Disk.content c.args.disk) x ⊎ HasOpen (g.D.Disk.content c.args.disk) c.args.config c.args.moment x))
    c.begin.ensures.history (c.begin.ensures.any_moment tells)
    (λ s is leaves.
    chained g.D.Disk.moment g.D.Disk.image_since g.met.D.Disk.widens c.args.disk c.in-Ok.opened.0.disk s.disk (Unharmed (g.D.Disk.image c.args.disk) (g.D.Disk.content c.args.disk))
    (λ x. StandsFor x (written c.set_limits.new.self.history) ⊎ StandsFor x (written s.history))
    (λ x. Unharmed (g.D.Disk.image c.args.disk) (g.D.Disk.content c.args.disk) x ⊎ HasOpen (g.D.Disk.content c.args.disk) c.args.config c.args.moment x) (c.in-Ok.ensures.any_moment tells) leaves (λ x p. inl p)
    (λ x. either_list (g.D.Disk.content c.args.disk) x (g.D.Disk.image c.args.disk) c.args.config c.args.moment c.in-Ok.opened.1 c.set_limits.new.self.history s.history (c.in-Ok.opened.2, c.in-Ok.ensures.found tells)
    c.in-Ok-core_of.ensures.fit core is))

pub returns-clause-any_moment_err : goal.returns-clause-any_moment_err
returns-clause-any_moment_err g c =
    let core : c.set_limits.new.self.history ≡ reverse c.in-Ok.opened.1 = ap (λ (v : CoreView). v.history) c.set_limits.ensures ∙ c.in-Ok-core_of.ensures.history in
    let here = Unharmed (g.D.Disk.image c.args.disk) (g.D.Disk.content c.args.disk) in
    λ tells.
    three_err c.begin.result (λ r. IsOfDisk r.why)
    (λ r. r.why ≡ DiskFault → LeavesOnly g.D.Disk.moment g.D.Disk.image_since c.in-Ok.opened.0.disk r.disk
    (λ x. StandsFor x (written c.set_limits.new.self.history) ⊎ StandsFor x (written (opened c.args.config c.args.moment c.set_limits.new.self.history))))
    (λ r. r.why ≡ OutOfMemory → r.disk ≡ c.in-Ok.opened.0.disk)
    (λ r. LeavesOnly g.D.Disk.moment g.D.Disk.image_since c.args.disk r.disk (λ x. Unharmed (g.D.Disk.image c.args.disk) (g.D.Disk.content c.args.disk) x ⊎ HasOpen (g.D.Disk.content c.args.disk) c.args.config c.args.moment x))
    c.begin.ensures.fault (c.begin.ensures.any_moment_err tells) c.begin.ensures.untouched
    (λ r fault leaves same.
    of_disk_or_memory (LeavesOnly g.D.Disk.moment g.D.Disk.image_since c.args.disk r.disk (λ x. Unharmed (g.D.Disk.image c.args.disk) (g.D.Disk.content c.args.disk) x ⊎ HasOpen (g.D.Disk.content c.args.disk) c.args.config c.args.moment x))
    r.why fault
    (λ is.
    chained g.D.Disk.moment g.D.Disk.image_since g.met.D.Disk.widens c.args.disk c.in-Ok.opened.0.disk r.disk (Unharmed (g.D.Disk.image c.args.disk) (g.D.Disk.content c.args.disk))
    (λ x. StandsFor x (written c.set_limits.new.self.history) ⊎ StandsFor x (written (opened c.args.config c.args.moment c.set_limits.new.self.history)))
    (λ x. Unharmed (g.D.Disk.image c.args.disk) (g.D.Disk.content c.args.disk) x ⊎ HasOpen (g.D.Disk.content c.args.disk) c.args.config c.args.moment x) (c.in-Ok.ensures.any_moment tells) (leaves is) (λ x p. inl p)
    (λ x. either_list (g.D.Disk.content c.args.disk) x (g.D.Disk.image c.args.disk) c.args.config c.args.moment c.in-Ok.opened.1 c.set_limits.new.self.history (opened c.args.config c.args.moment c.set_limits.new.self.history)
    (c.in-Ok.opened.2, c.in-Ok.ensures.found tells) c.in-Ok-core_of.ensures.fit core refl))
    (λ is.
    subst (λ (d : g.row.D.Denot). LeavesOnly g.D.Disk.moment g.D.Disk.image_since c.args.disk d (λ x. Unharmed (g.D.Disk.image c.args.disk) (g.D.Disk.content c.args.disk) x ⊎ HasOpen (g.D.Disk.content c.args.disk) c.args.config c.args.moment x))
    (sym (same is))
    (weakened g.D.Disk.moment g.D.Disk.image_since c.args.disk c.in-Ok.opened.0.disk (Unharmed (g.D.Disk.image c.args.disk) (g.D.Disk.content c.args.disk))
    (λ x. Unharmed (g.D.Disk.image c.args.disk) (g.D.Disk.content c.args.disk) x ⊎ HasOpen (g.D.Disk.content c.args.disk) c.args.config c.args.moment x) (c.in-Ok.ensures.any_moment tells) (λ x p. inl p))))

pub returns-clause-exits : goal.returns-clause-exits
returns-clause-exits g c =
    let core : c.set_limits.new.self.history ≡ reverse c.in-Ok.opened.1 = ap (λ (v : CoreView). v.history) c.set_limits.ensures ∙ c.in-Ok-core_of.ensures.history in
    λ tells.
    three_err c.begin.result (λ r. IsOfDisk r.why)
    (λ r. r.why ≡ DiskFault → LeavesOnly g.D.Disk.moment g.D.Disk.image_since c.in-Ok.opened.0.disk r.disk
    (λ x. StandsFor x (written c.set_limits.new.self.history) ⊎ StandsFor x (written (opened c.args.config c.args.moment c.set_limits.new.self.history))))
    (λ r. r.why ≡ OutOfMemory → r.disk ≡ c.in-Ok.opened.0.disk)
    (λ r. Exits (g.D.Disk.image c.args.disk) (g.D.Disk.content c.args.disk) c.args.config c.args.moment (g.D.Disk.image r.disk))
    c.begin.ensures.fault (c.begin.ensures.any_moment_err tells) c.begin.ensures.untouched
    (λ r fault leaves same.
    of_disk_or_memory (Exits (g.D.Disk.image c.args.disk) (g.D.Disk.content c.args.disk) c.args.config c.args.moment (g.D.Disk.image r.disk)) r.why fault
    (λ is.
    exits_either (g.D.Disk.image c.args.disk) (g.D.Disk.image r.disk) (g.D.Disk.content c.args.disk) c.args.config c.args.moment c.in-Ok.opened.1 c.set_limits.new.self.history (c.in-Ok.opened.2, c.in-Ok.ensures.found tells)
    c.in-Ok-core_of.ensures.fit core
    (λ x now. (leaves is).each x (g.met.D.Disk.counts_now r.disk (g.D.Disk.moment c.in-Ok.opened.0.disk) x (leaves is).later now)))
    (λ is.
    subst (λ (d : g.row.D.Denot). Exits (g.D.Disk.image c.args.disk) (g.D.Disk.content c.args.disk) c.args.config c.args.moment (g.D.Disk.image d)) (sym (same is))
    (exits_list (g.D.Disk.image c.args.disk) (g.D.Disk.image c.in-Ok.opened.0.disk) (g.D.Disk.content c.args.disk) (g.D.Disk.content c.in-Ok.opened.0.disk) c.args.config c.args.moment c.in-Ok.opened.1
    (c.in-Ok.ensures.durable tells) (c.in-Ok.ensures.stands tells) (c.in-Ok.opened.2, c.in-Ok.ensures.found tells))))
