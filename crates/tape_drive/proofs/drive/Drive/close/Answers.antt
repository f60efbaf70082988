use Rattle.std.proofs.Common.{◌≡◌, ◌∙◌, List, ℕ, false, sym, ap, subst}
use Rattle.cluster_defs.specs.Histories.{History}
use Rattle.cluster_store.specs.Stores.{written, up_to}
use Rattle.cluster_store.proofs.Stepping.{whole_front}
use Rattle.task_journal.specs.Journal.{StandsFor}
use Rattle.tape_drive.specs.Served.{DriveView}
use Rattle.tape_drive.proofs.drive.Drive.close.Goals as goal

pub returns-clause-stands : goal.returns-clause-stands
returns-clause-stands g c =
    subst (λ (v : DriveView g.row.D.Denot). g.D.Disk.tells → v.failed ≡ false → (x : List ℕ) → g.D.Disk.image c.close.result x → StandsFor x (written v.stand.history)) c.self.view_is
    (λ tells fine x now.
    let held = subst (λ (d : g.row.D.Denot). g.D.Disk.image d x) c.close.ensures now in
    subst (λ (h : History). StandsFor x (written h)) (ap (λ n. up_to n c.self.inside.store.history) (c.self.invariant.safe fine) ∙ whole_front c.self.inside.store.history)
    (subst (λ (o : List ℕ). StandsFor o (written (up_to c.self.inside.store.mark c.self.inside.store.history))) (sym (c.failed-failed.ensures.durable tells fine x held)) (c.failed-failed.ensures.holds tells fine)))
