use Rattle.std.proofs.Common.{◌∙◌}
use Rattle.due_decisions.proofs.Stand.{due_known}
use Rattle.due_decisions.proofs.due.due.Goals as goal

pub returns : goal.returns
returns g c = λ history knows. c.in_ok-found.ensures ∙ due_known c.args.state.now history knows
