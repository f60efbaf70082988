use Rattle.std.proofs.Math.Logic.{∥∥₁_map}
use Rattle.run_book.proofs.Saying.{said_acted}
use Rattle.run_book.proofs.lent.act_on.Goals as goal

pub returns-clause-said : goal.returns-clause-said
returns-clause-said g c = ∥∥₁_map c.requires.said (λ said. said_acted c.args.store.now c.args.conn c.args.reading.message c.act_on.result c.act_on.new.store c.act_on.ensures.acted c.requires.may said)
