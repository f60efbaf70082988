use Rattle.std.proofs.Common.{sym, subst}
use Rattle.std.specs.List.{list_any}
use Rattle.place_sets.specs.Sets.{has, holds_at}
use Rattle.place_sets.specs.Least.{IsLeast}
use Rattle.place_sets.proofs.Leasts.{least_in}
use Rattle.due_decisions.specs.Table.{fits}
use Rattle.due_decisions.proofs.handing.waiting_place.Goals as goal

pub returns : goal.returns
returns c =
    let ts = c.args.table.now in
    let s = c.args.places.now in
    subst (λ o. IsLeast (holds_at (λ t. list_any (λ r. fits ts t r.engine) c.args.rooms.now) ts) (has s) o) (sym c.first_waiting.ensures)
    (least_in (holds_at (λ t. list_any (λ r. fits ts t r.engine) c.args.rooms.now) ts) s c.len-many.ensures.ordered)
