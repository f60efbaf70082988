use Rattle.task_table.proofs.Freed.{settles_one, frees_listed}
use Rattle.task_table.proofs.freeing.settles_one.Goals as goal

pub returns-clause-settled : goal.returns-clause-settled
returns-clause-settled c = settles_one

pub returns-clause-freed : goal.returns-clause-freed
returns-clause-freed c = frees_listed
