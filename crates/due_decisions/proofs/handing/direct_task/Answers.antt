use Rattle.std.proofs.Common.{ap, ◌∙◌}
use Rattle.std.specs.Prelude.{slice_get, find}
use Rattle.std.specs.Option.{option_and_then}
use Rattle.place_sets.specs.Sets.{holds_at}
use Rattle.place_sets.proofs.Covering.{find_covered}
use Rattle.task_table.specs.Standing.{direct_at}
use Rattle.due_decisions.proofs.handing.direct_task.Goals as goal

pub returns : goal.returns
returns c =
    let ts = c.args.tasks.now in
    let s = c.marks.result.now.directs in
    let p = direct_at in
    c.at.ensures ∙ ap (option_and_then (slice_get ts)) (c.direct_place.ensures ∙ ap (λ xs. find (holds_at p xs) s.keys) c.as_slice.ensures) ∙ find_covered p ts s c.len-many.ensures.ordered c.marks.ensures.directs
