use Rattle.std.proofs.Common.{◌≡◌, ◌∙◌, ◌+◌, ◌-◌, ◌<◌, ◌∷◌, suc, arith, length, take, drop, sym, ap, refl, subst}
use Rattle.cluster_types.specs.declared.entry.Entry.TheVariants.{Input}
use Rattle.cluster_defs.specs.Histories.{History, decide_all}
use Rattle.cluster_core.proofs.Plans.{decide_all_rests}
use Rattle.cluster_store.specs.Openings.{IsFirstBad}
use Rattle.cluster_store.specs.Remaking.{IsRemade}
use Rattle.cluster_store.proofs.Remade.{plan_keeps, plan_allows, none_there, step_kept, none_kept, first_bad, decisions_are, step_bad, step_cut, step_made}
use Rattle.cluster_store.proofs.remaking.remake_step.Goals as goal

pub returns-in-empty-clause-remade : goal.returns-in-empty-clause-remade
returns-in-empty-clause-remade g c =
    let h = c.args.core.now.history in
    let same : c.plan.new.self.history ≡ c.args.core.now.history = c.plan.ensures.same ∙ c.may_take.ensures.same ∙ c.understand.ensures.same in
    let is = c.in-Ok.ensures.input ∙ c.in_ok-same_input.ensures in
    let none = sym (plan_keeps c.plan.new.self c.in-Ok.plan c.args.core.now.history c.args.input.now c.in-Ok.ensures.ok same is) ∙ sym c.kept.ensures ∙ none_there c.kept.result.now c.in-empty.len_below in
    first_bad c.args.core.now.history (Input c.args.input.now) c.args.behind.now c.requires.stands
    (none_kept c.args.core.now.history c.args.input.now (decide_all (Input c.args.input.now ∷ c.args.core.now.history)) c.requires.rests refl none c.requires.stands.all_kept)

pub agreeing-same-requires : goal.agreeing-same-requires
agreeing-same-requires g c =
    let same : c.plan.new.self.history ≡ c.args.core.now.history = c.plan.ensures.same ∙ c.may_take.ensures.same ∙ c.understand.ensures.same in
    let is = c.in-Ok.ensures.input ∙ c.in_ok-same_input.ensures in
    let kept = step_kept c.plan.new.self c.in-Ok.plan c.args.core.now.history c.args.input.now c.kept.result.now c.in-Ok.ensures.ok same is c.requires.rests c.kept.ensures (omega (arith, c.in-len1-up.len_at_least)) in
    decisions_are (Input c.args.input.now ∷ c.args.core.now.history) (take (length c.kept.result.now - 1) (drop 1 c.kept.result.now)) kept.each

pub returns-then-same-behind-clause-remade : goal.returns-then-same-behind-clause-remade
returns-then-same-behind-clause-remade g c =
    let same : c.plan.new.self.history ≡ c.args.core.now.history = c.plan.ensures.same ∙ c.may_take.ensures.same ∙ c.understand.ensures.same in
    let is = c.in-Ok.ensures.input ∙ c.in_ok-same_input.ensures in
    let kept = step_kept c.plan.new.self c.in-Ok.plan c.args.core.now.history c.args.input.now c.kept.result.now c.in-Ok.ensures.ok same is c.requires.rests c.kept.ensures (omega (arith, c.in-len1-up.len_at_least)) in
    step_cut c.args.core.now.history c.args.input.now (take (length c.kept.result.now - 1) (drop 1 c.kept.result.now)) c.args.behind.now (decide_all (Input c.args.input.now ∷ c.args.core.now.history)) c.agreeing-same.result
    c.requires.stands (plan_allows c.plan.new.self c.in-Ok.plan c.args.core.now.history c.args.input.now c.in-Ok.ensures.ok same is) kept (omega (arith, c.if-same-decisions.true)) (omega (arith, c.if-same-behind.true)) c.agreeing-same.ensures.same

pub returns-then-same-decisions-clause-remade : goal.returns-then-same-decisions-clause-remade
returns-then-same-decisions-clause-remade g c =
    let same : c.plan.new.self.history ≡ c.args.core.now.history = c.plan.ensures.same ∙ c.may_take.ensures.same ∙ c.understand.ensures.same in
    let is = c.in-Ok.ensures.input ∙ c.in_ok-same_input.ensures in
    let kept = step_kept c.plan.new.self c.in-Ok.plan c.args.core.now.history c.args.input.now c.kept.result.now c.in-Ok.ensures.ok same is c.requires.rests c.kept.ensures (omega (arith, c.in-len1-up.len_at_least)) in
    let more : c.agreeing-same.result < length (take (length c.kept.result.now - 1) (drop 1 c.kept.result.now)) = omega (arith, c.if-same-decisions.true) in
    let there : c.agreeing-same.result < length c.args.behind.now = omega (arith, c.if-same-behind.false, c.agreeing-same.ensures.list) in
    let one : suc c.agreeing-same.result ≡ c.agreeing-same.result + 1 = omega arith in
    subst (IsFirstBad c.args.core.now.history (Input c.args.input.now ∷ c.args.behind.now)) one
    (step_bad c.args.core.now.history c.args.input.now (take (length c.kept.result.now - 1) (drop 1 c.kept.result.now)) c.args.behind.now (decide_all (Input c.args.input.now ∷ c.args.core.now.history)) c.agreeing-same.result
    c.requires.stands (plan_allows c.plan.new.self c.in-Ok.plan c.args.core.now.history c.args.input.now c.in-Ok.ensures.ok same is) kept more there c.agreeing-same.ensures.same (c.agreeing-same.ensures.differ more there))

pub returns-clause-remade : goal.returns-clause-remade
returns-clause-remade g c =
    let same : c.plan.new.self.history ≡ c.args.core.now.history = c.plan.ensures.same ∙ c.may_take.ensures.same ∙ c.understand.ensures.same in
    let is = c.in-Ok.ensures.input ∙ c.in_ok-same_input.ensures in
    let kept = step_kept c.plan.new.self c.in-Ok.plan c.args.core.now.history c.args.input.now c.kept.result.now c.in-Ok.ensures.ok same is c.requires.rests c.kept.ensures (omega (arith, c.in-len1-up.len_at_least)) in
    let one : suc c.agreeing-same.result ≡ c.agreeing-same.result + 1 = omega arith in
    let new : c.apply-made.new.self.history ≡ decide_all (Input c.args.input.now ∷ c.args.core.now.history) =
    c.apply-made.ensures.history ∙ ap (λ (x : History). decide_all (Input c.in-Ok.plan.input ∷ x)) same ∙ ap (λ i. decide_all (Input i ∷ c.args.core.now.history)) is in
    subst (IsRemade c.args.core.now.history c.apply-made.new.self.history (Input c.args.input.now ∷ c.args.behind.now)) one
    (subst (λ (x : History). IsRemade c.args.core.now.history x (Input c.args.input.now ∷ c.args.behind.now) (suc c.agreeing-same.result)) (sym new)
    (step_made c.args.core.now.history c.args.input.now (take (length c.kept.result.now - 1) (drop 1 c.kept.result.now)) c.args.behind.now (decide_all (Input c.args.input.now ∷ c.args.core.now.history)) c.agreeing-same.result
    c.requires.stands (plan_allows c.plan.new.self c.in-Ok.plan c.args.core.now.history c.args.input.now c.in-Ok.ensures.ok same is) kept (decide_all_rests (Input c.args.input.now ∷ c.args.core.now.history))
    (omega (arith, c.if-same-decisions.false, c.agreeing-same.ensures.decisions)) c.agreeing-same.ensures.list c.agreeing-same.ensures.same))
