use Rattle.std.proofs.Common.{◌≡◌, ℕ, List, false, subst}
use Rattle.cluster_store.specs.Stores.{written}
use Rattle.task_journal.specs.Journal.{StandsFor}
use Rattle.quick_commands.specs.Work.{RunView}
use Rattle.quick_commands.proofs.moves.Run.close.Goals as goal

pub returns-clause-stands : goal.returns-clause-stands
returns-clause-stands g c =
    subst (λ (v : RunView g.row.D.Denot). g.D.Disk.tells → v.failed ≡ false → (x : List ℕ) → g.D.Disk.image c.close.result x → StandsFor x (written v.work.history)) c.self.view_is
    c.close.ensures.stands
