use Rattle.std.proofs.Common.{◌≡◌, ◌+◌, true, false, sym, ap, ◌∙◌}
use Rattle.client_core.specs.Clients.{is_used}
use Rattle.client_core.specs.Numbers.{numbered_id}
use Rattle.client_core.proofs.Submitted.{any_found, none_more}
use Rattle.client_core.proofs.client.Requests.uses_any.Goals as goal

pub returns-then-is_used : goal.returns-then-is_used
returns-then-is_used g c =
    let used = c.args.self.now.used in
    let found : is_used used (numbered_id (c.args.first + c.loop-place.place)) ≡ true = ap (is_used used) (sym c.in_ok-id.ensures) ∙ sym c.is_used.ensures ∙ c.if-is_used.true in
    sym (any_found used c.args.first c.args.count c.loop-place.place c.loop-place-test.true found)

pub loop-place-preserved : goal.loop-place-preserved
loop-place-preserved g c =
    let used = c.args.self.now.used in
    let new : is_used used (numbered_id (c.args.first + c.loop-place.place)) ≡ false = ap (is_used used) (sym c.in_ok-id.ensures) ∙ sym c.is_used.ensures ∙ c.if-is_used.false in
    none_more used c.args.first c.loop-place.place c.loop-place.invariant new
