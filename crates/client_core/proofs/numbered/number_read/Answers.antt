use Rattle.std.proofs.Common.{◌≡◌, true, false}
use Rattle.client_core.proofs.Numbers.{none_read}
use Rattle.client_core.proofs.numbered.number_read.Goals as goal

pub returns-in-Err : goal.returns-in-Err
returns-in-Err c = none_read c.args.id.now (λ u. let clash : false ≡ true = c.in-Err.ensures.ok.1 u in absurd (cc))
