use Rattle.controller_threads.proofs.Seeing.{named}
use Rattle.controller_threads.proofs.shared.Shared.context.Goals as goal

pub returns : goal.returns
returns g c = named c.deref.ensures c.args.self.now.named
