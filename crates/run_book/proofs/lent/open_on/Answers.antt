use Rattle.std.proofs.Math.Logic.{∥∥₁_map}
use Rattle.run_book.proofs.Saying.{said_opened}
use Rattle.run_book.proofs.lent.open_on.Goals as goal

pub returns-clause-said : goal.returns-clause-said
returns-clause-said g c = ∥∥₁_map c.requires.said (λ said. said_opened c.args.store.now c.args.channel c.args.identity.now c.open_on.result c.open_on.new.store c.open_on.ensures.opened said)
