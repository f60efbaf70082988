use Rattle.std.proofs.Common.{◌≡◌}
use Rattle.client_core.specs.Numbers.{numbered_ids}
use Rattle.client_core.proofs.numbered.numbered_ids.Given as goal

abbrev pub invariant-loop-place : goal.invariant-loop-place
invariant-loop-place l = l.ids ≡ numbered_ids l.first l.place
