use Rattle.std.proofs.Common.{◌≡◌, ◌∙◌, ◌∷◌, ap, subst}
use Rattle.cluster_types.specs.declared.entry.Entry.TheVariants.{Input}
use Rattle.cluster_defs.specs.Histories.{decide_all}
use Rattle.cluster_store.specs.declared.fault.ServeError.{ServeError}
use Rattle.cluster_store.specs.declared.fault.ServeError.TheVariants.{Step}
use Rattle.cluster_store.specs.declared.fault.StepError.TheVariants.{BatchFull}
use Rattle.cluster_store.specs.Stores.{WhyUnserved, IsRefused}
use Rattle.tape_drive.proofs.Calm.{never_long}
use Rattle.tape_drive.proofs.steps.take_step.Goals as goal

pub unreachable-requires-in-Err-Step-BatchFull : goal.unreachable-requires-in-Err-Step-BatchFull
unreachable-requires-in-Err-Step-BatchFull g c =
    let why : IsRefused c.args.store.now.failed c.args.store.now.mark c.args.store.now.limits (decide_all (Input c.args.input ∷ c.args.store.now.history)) BatchFull =
    subst (λ (e : ServeError). WhyUnserved c.args.store.now.failed c.args.store.now.mark c.args.store.now.limits (decide_all (Input c.args.input ∷ c.args.store.now.history)) e)
    (c.in-Err-Step-BatchFull.field-0-is ∙ ap Step c.in-Err-Step-BatchFull.field-0-0-is) c.in-Err-Step-BatchFull.ensures.why in
    never_long c.args.store.now c.args.input c.requires.calm c.requires.working c.requires.no_open why.1 why.2
