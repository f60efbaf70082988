use Rattle.std.proofs.Common.{sym, ◌∙◌}
use Rattle.task_table.proofs.laning.is_task_laned.Goals as goal

pub returns-in-Ok-clause-there : goal.returns-in-Ok-clause-there
returns-in-Ok-clause-there c = λ _. c.in-Ok.ensures.there c.request.result.now.request c.request.ensures.value (sym c.is_tied.ensures ∙ c.if-is_tied.true)
