use Rattle.std.proofs.Common.{ap, ◌∙◌}
use Rattle.history_lock.specs.declared.known.View.{View}
use Rattle.history_lock.specs.Names.{known}
use Rattle.controller_threads.proofs.shared.Shared.split.Goals as goal

pub returns-in-Ok-clause-seen : goal.returns-in-Ok-clause-seen
returns-in-Ok-clause-seen g c = ap (λ p. (known p).seen) c.new.ensures ∙ ap (λ (v : View). v.seen) c.in-Ok.ensures.made.2
