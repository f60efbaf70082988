use Rattle.std.proofs.Common.{sym, subst}
use Rattle.std.specs.Option.{is_some}
use Rattle.place_sets.specs.Sets.{has, holds_at}
use Rattle.place_sets.specs.Least.{IsLeast}
use Rattle.place_sets.proofs.Leasts.{least_in}
use Rattle.due_decisions.specs.Table.{failing_in}
use Rattle.due_decisions.proofs.settling.failing_place.Goals as goal

pub returns : goal.returns
returns c =
    let ts = c.args.table.now in
    let s = c.args.places.now in
    subst (λ o. IsLeast (holds_at (λ t. is_some (failing_in ts c.args.engines.now c.args.now t)) ts) (has s) o) (sym c.first_failing.ensures)
    (least_in (holds_at (λ t. is_some (failing_in ts c.args.engines.now c.args.now t)) ts) s c.len-many.ensures.ordered)
