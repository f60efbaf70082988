use Rattle.std.proofs.Common.{sym, ◌∙◌}
use Rattle.cluster_defs.specs.RecordAnswers.{all_left}
use Rattle.hub_queries.proofs.Weighing.{heavy_gives_way}
use Rattle.hub_queries.proofs.results.joined_answer.Goals as goal

pub returns-then-passes_limits : goal.returns-then-passes_limits
returns-then-passes_limits g c =
    let left = all_left (g.R.Records.records c.args.table.now) c.args.status_only c.args.completed.now in
    c.in_ok-refused.ensures ∙ heavy_gives_way c.args.channel c.args.pending.now c.args.completed.now left (sym c.passes_limits.ensures ∙ c.if-passes_limits.true)
