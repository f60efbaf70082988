use Rattle.std.proofs.Common.{◌≡◌, take}
use Rattle.cluster_defs.specs.Requests.{targets_of}
use Rattle.cluster_state.proofs.acceptance.targets_of.Given as goal

-- the targets are those among the engines up to here
abbrev pub invariant-loop-engine : goal.invariant-loop-engine
invariant-loop-engine l = l.targets ≡ targets_of (take l.engine-index l.live) l.uuids
