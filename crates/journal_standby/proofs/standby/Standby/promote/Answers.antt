use Rattle.std.proofs.Common.{subst}
use Rattle.std.specs.Prelude.{IfErr}
use Rattle.cluster_store.specs.Openings.{Exits}
use Rattle.journal_standby.proofs.standby.Standby.promote.Goals as goal

pub returns-clause-exits : goal.returns-clause-exits
returns-clause-exits g c = λ tells.
    subst (λ (d : g.row.D.Denot). IfErr c.open.result (λ r. Exits (g.D.Disk.image d) (g.D.Disk.content d) c.args.config c.args.moment (g.D.Disk.image r.disk))) c.close.ensures (c.open.ensures.exits tells)
