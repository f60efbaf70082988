use Rattle.std.proofs.Common.{ap, ◌∙◌}
use Rattle.std.specs.Prelude.{◌==◌}
use Rattle.std.specs.Option.{is_some}
use Rattle.engine_registry.proofs.Telling.{some_any}
use Rattle.engine_registry.proofs.registry.Registry.is_live.Goals as goal
use Rattle.cluster_types.proofs.Options.{some_copied}

pub returns : goal.returns
returns c = c.is_some.ensures ∙ some_copied c.numbered.result ∙ ap is_some c.numbered.ensures ∙ some_any (λ e. e.number == c.args.number) c.args.self.now
