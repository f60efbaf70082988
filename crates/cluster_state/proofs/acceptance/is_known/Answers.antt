use Rattle.std.proofs.Common.{sym, ap, ◌∙◌}
use Rattle.std.specs.Option.{is_some}
use Rattle.cluster_state.proofs.Known.{known_is}
use Rattle.cluster_state.proofs.acceptance.is_known.Goals as goal
use Rattle.cluster_types.proofs.Options.{some_copied}

pub returns : goal.returns
returns c = c.is_some.ensures ∙ some_copied c.find.result ∙ ap is_some c.find.ensures ∙ sym (known_is c.args.id.now c.args.tasks.now)
