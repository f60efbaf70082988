use Rattle.std.proofs.Common.{◌≡◌, ◌+◌, ◌∷◌, drop, sym, ap, ◌∙◌}
use Rattle.std.proofs.lemmas.List.{at_drop_more}
use Rattle.cluster_types.specs.declared.entry.Entry.{Entry}
use Rattle.cluster_core.specs.declared.size.HistorySize.{HistorySize}
use Rattle.cluster_core.specs.Growth.{sizes_next}
use Rattle.cluster_core.proofs.size.HistorySize.behind_step.Goals as goal

pub loop-decision-preserved : goal.loop-decision-preserved
loop-decision-preserved c =
    let list = c.args.decisions.now in
    let at = c.loop-decision.decision-index in
    let decision = c.decision-item.result in
    ap (λ (s : HistorySize). sizes_next s (drop (at + 1) list)) c.behind-size.ensures
    ∙ sym (ap (λ (e : Entry). sizes_next c.loop-decision.size (e ∷ drop (at + 1) list)) (sym c.decision-item.is))
    ∙ sym (at_drop_more (sizes_next c.loop-decision.size) list at decision c.loop-decision-test.true)
    ∙ c.loop-decision.invariant
