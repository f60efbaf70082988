use Rattle.std.proofs.Common.{◌≡◌, ◌∷◌, true, false, sym, ap, ◌∙◌}
use Rattle.cluster_types.specs.declared.entry.Entry.TheVariants.{Input}
use Rattle.cluster_defs.specs.Histories.{History, decide_all}
use Rattle.cluster_core.specs.declared.size.HistorySize.{HistorySize}
use Rattle.cluster_core.specs.Size.{size_since, is_past}
use Rattle.cluster_core.specs.Growth.{size_next, sizes_next}
use Rattle.cluster_core.proofs.Sizes.{step_size, opened_fits}
use Rattle.cluster_core.proofs.machine.Core.plan.Goals as goal

pub returns-then-is_past-clause-full : goal.returns-then-is_past-clause-full
returns-then-is_past-clause-full g c =
    let core = c.plan_with.new.self in
    let plan = c.in_ok-plan.plan in
    let is : c.size_behind-size.result ≡ size_since (decide_all (Input c.args.input ∷ c.args.self.now.history)) =
    c.size_behind-size.ensures ∙ ap (λ (s : HistorySize). sizes_next (size_next s (Input plan.input)) plan.decisions) c.size.ensures
    ∙ step_size core plan c.args.input c.in_ok-plan.ensures.ok c.in_ok-plan.ensures.input ∙ ap (λ (h : History). size_since (decide_all (Input c.args.input ∷ h))) c.plan_with.ensures.same in
    let limits : c.limits.result ≡ c.args.self.now.limits = c.limits.ensures ∙ c.plan_with.ensures.limits in
    (is, ap (is_past c.args.self.now.limits) (sym is) ∙ ap (λ (l : HistorySize). is_past l c.size_behind-size.result) (sym limits) ∙ sym c.is_past.ensures ∙ c.if-is_past.true)

pub returns-then-is_past-clause-open : goal.returns-then-is_past-clause-open
returns-then-is_past-clause-open g c =
    λ opens. absurd (
    let fits : is_past c.args.self.now.limits (size_since (decide_all (Input c.args.input ∷ c.args.self.now.history))) ≡ false = opened_fits c.args.self.now.history c.args.input c.args.self.now.limits opens in
    let not : true ≡ false = sym (returns-then-is_past-clause-full g c).1 ∙ fits in
    cc
    )

pub returns-clause-fits : goal.returns-clause-fits
returns-clause-fits g c =
    let core = c.plan_with.new.self in
    let plan = c.in_ok-plan.plan in
    let is : c.size_behind-size.result ≡ size_since (decide_all (Input c.args.input ∷ c.args.self.now.history)) =
    c.size_behind-size.ensures ∙ ap (λ (s : HistorySize). sizes_next (size_next s (Input plan.input)) plan.decisions) c.size.ensures
    ∙ step_size core plan c.args.input c.in_ok-plan.ensures.ok c.in_ok-plan.ensures.input ∙ ap (λ (h : History). size_since (decide_all (Input c.args.input ∷ h))) c.plan_with.ensures.same in
    let limits : c.limits.result ≡ c.args.self.now.limits = c.limits.ensures ∙ c.plan_with.ensures.limits in
    ap (is_past c.args.self.now.limits) (sym is) ∙ ap (λ (l : HistorySize). is_past l c.size_behind-size.result) (sym limits) ∙ sym c.is_past.ensures ∙ c.if-is_past.false
