use Rattle.quick_commands.proofs.Runs.{replayed_is_run, cut_off_is_run, moment_is_run, opened_is_run}
use Rattle.quick_commands.proofs.laws.replays_are_runs.Goals as goal

pub returns : goal.returns
returns c = record { replayed = replayed_is_run; cut = cut_off_is_run; moment = moment_is_run; opened = opened_is_run }
