use Rattle.std.proofs.Common.{◌≡◌, ◌∙◌, ◌∷◌, ◌++◌, List, All, length, sym, ap, subst}
use Rattle.std.proofs.lemmas.Result.{err_from_is_err_and}
use Rattle.cluster_types.specs.declared.entry.Entry.{Entry}
use Rattle.cluster_types.specs.declared.entry.Entry.TheVariants.{Input}
use Rattle.cluster_defs.specs.Histories.{decide_all}
use Rattle.cluster_core.specs.Steps.{kept_from}
use Rattle.record_codec.specs.Spelling.{IsWithinLimits}
use Rattle.cluster_store.proofs.Fits.{step_fits}
use Rattle.cluster_store.proofs.Holding.{refused_batch}
use Rattle.cluster_store.proofs.Remade.{plan_keeps, plan_allows}
use Rattle.cluster_store.proofs.store.take_step.Goals as goal

pub extend-requires : goal.extend-requires
extend-requires g c =
    subst (All IsWithinLimits) (sym (c.kept.ensures ∙ plan_keeps c.plan.new.self c.in_ok-plan.plan c.args.core.now.history c.args.input c.in_ok-plan.ensures.ok c.plan.ensures.same c.in_ok-plan.ensures.input))
    (step_fits c.args.core.now.history c.args.input c.requires.fits)

pub returns-in_err-extend-clause-why : goal.returns-in_err-extend-clause-why
returns-in_err-extend-clause-why g c =
    let old = c.args.core.now.history in
    let new = decide_all (Input c.args.input ∷ old) in
    let keeps = c.kept.ensures ∙ plan_keeps c.plan.new.self c.in_ok-plan.plan old c.args.input c.in_ok-plan.ensures.ok c.plan.ensures.same c.in_ok-plan.ensures.input in
    let p = err_from_is_err_and c.from_residual-in_err-extend.result c.from_residual-in_err-extend.ensures.1 in
    rw p.1 (refused_batch c.args.core.now.limits new (c.args.batch.now ++ c.kept.result.now) (c.args.batch.now ++ kept_from (length old) new) c.in_err-extend.field-0.0 p.0 p.2 (ap (λ (es : List Entry). c.args.batch.now ++ es) keeps) c.in_ok-plan.ensures.fits
    c.in_err-extend.ensures.long.0)

pub returns-clause-allowed : goal.returns-clause-allowed
returns-clause-allowed g c =
    plan_allows c.plan.new.self c.in_ok-plan.plan c.args.core.now.history c.args.input c.in_ok-plan.ensures.ok c.plan.ensures.same c.in_ok-plan.ensures.input
