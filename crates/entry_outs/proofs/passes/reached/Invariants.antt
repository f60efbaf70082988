use Rattle.std.proofs.Common.{◌≡◌, take}
use Rattle.cluster_defs.specs.Connections.{reached}
use Rattle.entry_outs.proofs.passes.reached.Given as goal

abbrev pub invariant-loop-connection : goal.invariant-loop-connection
invariant-loop-connection l = l.best ≡ reached (take l.connection-index l.live) l.owner
