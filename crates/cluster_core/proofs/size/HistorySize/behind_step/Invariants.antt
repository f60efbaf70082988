use Rattle.std.proofs.Common.{◌≡◌, drop}
use Rattle.cluster_types.specs.declared.entry.Entry.TheVariants.{Input}
use Rattle.cluster_core.specs.Growth.{size_next, sizes_next}
use Rattle.cluster_core.proofs.size.HistorySize.behind_step.Given as goal

-- what is left of the decisions leads to the size behind all
abbrev pub invariant-loop-decision : goal.invariant-loop-decision
invariant-loop-decision l =
    sizes_next l.size (drop l.decision-index l.decisions) ≡ sizes_next (size_next l.fn.self (Input l.input)) l.decisions
