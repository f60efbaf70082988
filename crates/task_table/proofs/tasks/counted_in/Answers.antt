use Rattle.std.proofs.Common.{◌∙◌}
use Rattle.task_table.proofs.Loading.{all_counted}
use Rattle.task_table.proofs.tasks.counted_in.Goals as goal

pub returns : goal.returns
returns c =
    all_counted c.args.table.now c.args.marks.now.running c.deref.result.now c.tallied.result c.in_ok-places.ensures.sorted c.requires.running
    (c.deref.ensures.value ∙ c.in_ok-places.ensures.places) c.tallied.ensures
