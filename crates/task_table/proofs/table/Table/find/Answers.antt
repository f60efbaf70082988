use Rattle.std.proofs.Common.{ap, ◌∙◌}
use Rattle.std.specs.Prelude.{slice_get}
use Rattle.std.specs.Option.{option_and_then}
use Rattle.task_table.proofs.Places.{found_seen}
use Rattle.task_table.proofs.table.Table.find.Goals as goal

pub returns : goal.returns
returns c = c.at.ensures ∙ ap (option_and_then (slice_get c.args.self.now)) c.place_of.ensures ∙ found_seen c.args.id.now c.args.self.now
