use Rattle.database_text.proofs.Standing.{fit_legal}
use Rattle.database_text.proofs.Thinned.{all_in_time}
use Rattle.database_text.proofs.compact.thin_entries.Goals as goal

pub thinned-requires-clause-legal : goal.thinned-requires-clause-legal
thinned-requires-clause-legal c = fit_legal c.args.entries.now c.requires.fit

pub thinned-requires-clause-time : goal.thinned-requires-clause-time
thinned-requires-clause-time c = all_in_time c.args.entries.now c.requires.has
