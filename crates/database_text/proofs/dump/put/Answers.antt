use Rattle.std.proofs.lemmas.Result.{on_err_weaker}
use Rattle.database_text.proofs.Fronts.{front_take}
use Rattle.database_text.proofs.dump.put.Goals as goal

pub returns-clause-err : goal.returns-clause-err
returns-clause-err g c = on_err_weaker _ (λ front. front_take _ front.0 _ _ front.2) c.write_all.ensures.err
