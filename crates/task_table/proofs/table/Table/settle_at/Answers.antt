use Rattle.std.proofs.Common.{◌≡◌, ◌++◌, length, take, drop, map, subst, sym, ap, ◌∙◌, arith}
use Rattle.std.specs.HashMap.{get_by_text}
use Rattle.std.proofs.lemmas.List.{with_items_is}
use Rattle.task_table.specs.Places.{name, Placed}
use Rattle.task_table.proofs.Places.{placed_same}
use Rattle.task_table.proofs.table.Table.settle_at.Goals as goal

pub invariant_of-self : goal.invariant_of-self
invariant_of-self g c =
    let ts = c.self.inside.tasks.items in
    let new = c.settle_at.new.tasks in
    let g = get_by_text c.self.inside.places in
    let whole : take c.self.inside.tasks.len (new ++ drop (length new) ts) ≡ new = with_items_is c.self.inside.tasks new (omega (arith, c.settle_at.auto.tasks, c.deref_mut.ensures.len)) in
    subst (λ us. Placed us g) (sym whole) (placed_same ts new g c.self.invariant (c.settle_at.ensures.names ∙ ap (map name) c.deref_mut.ensures.value))
