use Rattle.std.proofs.Common.{◌≡◌, false}
use Rattle.std.specs.List.{list_any}
use Rattle.client_core.specs.Clients.{is_used}
use Rattle.client_core.specs.Numbers.{numbered_ids}
use Rattle.client_core.proofs.client.Requests.uses_any.Given as goal

abbrev pub invariant-loop-place : goal.invariant-loop-place
invariant-loop-place g l = list_any (is_used l.self.used) (numbered_ids l.first l.place) ≡ false
