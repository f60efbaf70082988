use Rattle.journal_standby.proofs.Going.{held_whole}
use Rattle.journal_standby.proofs.standby.Standby.open.Goals as goal

pub invariant_of-result : goal.invariant_of-result
invariant_of-result g c =
    held_whole g.D.Disk.tells (g.D.Disk.content c.in-Ok.opened.0.disk) (g.D.Disk.image c.in-Ok.opened.0.disk) c.in-Ok.opened.0.failed c.in-Ok.opened.1 (λ k d lt. (c.in-Ok.ensures.has k d lt).0) c.in-Ok.ensures.durable c.in-Ok.ensures.stands
