use Rattle.cluster_state.specs.Stands.{plain}
use Rattle.entry_outs.proofs.Counting.{loads_shown}
use Rattle.entry_outs.proofs.Telling.{rows_sound}
use Rattle.entry_outs.proofs.rows.Rows.new.Goals as goal

pub invariant_of-result : goal.invariant_of-result
invariant_of-result c = record { sound = rows_sound (plain c.args.state.now) c.requires; shown = loads_shown (plain c.args.state.now) c.requires }
