use Rattle.std.proofs.Common.{Some, ap, ◌∙◌, option_map}
use Rattle.client_core.specs.Clients.{stand_of}
use Rattle.client_core.proofs.Entries.{lookup_of}
use Rattle.client_core.proofs.used.stand_in.Goals as goal

pub returns-in-Some : goal.returns-in-Some
returns-in-Some g c = ap Some c.stand_of.ensures ∙ ap (option_map stand_of) c.in-Some.ensures.value ∙ lookup_of c.args.used.now.entries c.args.id.now

pub returns-in-None : goal.returns-in-None
returns-in-None g c = ap (option_map stand_of) c.in-None.ensures.value ∙ lookup_of c.args.used.now.entries c.args.id.now
