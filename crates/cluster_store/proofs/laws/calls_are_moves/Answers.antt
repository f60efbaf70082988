use Rattle.cluster_store.proofs.Lived.{step_grows, flush_is_move, take_is_move, crash_is_move}
use Rattle.cluster_store.proofs.laws.calls_are_moves.Goals as goal

pub returns : goal.returns
returns c = record { step = step_grows; flush = flush_is_move; take = take_is_move; crash = crash_is_move }
