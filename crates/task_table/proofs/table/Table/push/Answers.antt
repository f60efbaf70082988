use Rattle.std.proofs.Common.{◌++◌, ◌∷◌, [], ap, ◌∙◌, cond, Some, None, length, bytes_eq}
use Rattle.std.specs.HashMap.{get_by_text}
use Rattle.cluster_defs.specs.Words.{or_else}
use Rattle.task_table.proofs.Places.{placed_more}
use Rattle.task_table.proofs.table.Table.push.Goals as goal

pub invariant_of-self : goal.invariant_of-self
invariant_of-self c =
    let ts = c.self.inside.tasks.items in
    let t = c.args.task in
    let g = get_by_text c.self.inside.places in
    placed_more ts c.push_reserved.new.self.items t g (get_by_text c.make_room.new.places) c.self.invariant
    (c.push_reserved.ensures.items ∙ ap (λ xs. xs ++ t ∷ []) c.make_room.ensures.tasks)
    (λ j. c.in-Ok.ensures.ok j ∙ ap (λ i. or_else (g j) (cond (bytes_eq i j) (Some (length ts)) None)) c.id.ensures)
