use Rattle.tape_drive.proofs.Names.{passes_are_known, history_is_known, results_are_known, copies_are_known}
use Rattle.tape_drive.proofs.life_laws.sent_names_are_known.Goals as goal

pub returns : goal.returns
returns c = record { passes = passes_are_known; history = history_is_known; results = results_are_known; copies = copies_are_known }
