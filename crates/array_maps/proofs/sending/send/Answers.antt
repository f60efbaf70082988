use Rattle.std.proofs.Common.{ap, ◌∙◌}
use Rattle.client_core.specs.Submissions.{are_within}
use Rattle.array_maps.proofs.Placing.{plain_within}
use Rattle.array_maps.proofs.sending.send.Goals as goal

pub submit_all-requires-clause-limits : goal.submit_all-requires-clause-limits
submit_all-requires-clause-limits g c = ap are_within c.in_ok-submissions.ensures ∙ plain_within c.args.codes.now
