use Rattle.std.proofs.Common.{◌≡◌, ◌+◌, map, take}
use Rattle.cluster_defs.specs.Purges.{copies_from}
use Rattle.resubmission.specs.Plans.{copy_of}
use Rattle.resubmission.proofs.plan.renamed.Given as goal

abbrev pub invariant-loop-place : goal.invariant-loop-place
invariant-loop-place l = map copy_of l.renamed ≡ copies_from (l.last + 1) (take l.place l.ids)
