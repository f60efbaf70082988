use Rattle.std.proofs.Common.{◌≡◌, ◌⊎◌, sym, ap, ◌∙◌, subst, Some}
use Rattle.cluster_defs.specs.Words.{once}
use Rattle.cluster_types.specs.Limits.{most_ids}
use Rattle.cluster_defs.specs.Purges.{Resubmitting}
use Rattle.cluster_defs.specs.RecordPlans.{resubmit_in}
use Rattle.cluster_state.specs.Stands.{plain}
use Rattle.resubmission.specs.Plans.{refusal_of}
use Rattle.resubmission.specs.declared.plan.ResubmitRefusal.TheVariants.{OutOfMemory}
use Rattle.entry_outs.proofs.Telling.{resubmit_told}
use Rattle.entry_outs.proofs.rulings.resubmit_ruling.Goals as goal

pub returns-in-Ok : goal.returns-in-Ok
returns-in-Ok c =
    sym (ap (λ rs. resubmit_in rs most_ids (once c.args.ids.now)) c.new-rows.ensures ∙ resubmit_told (plain c.args.state.now) c.args.ids.now c.requires)
    ∙ c.in-Ok.ensures.ok

pub returns-in-Err : goal.returns-in-Err
returns-in-Err c =
    c.refused_or_memory.ensures _
    (subst (λ (w : Resubmitting). (c.in-Err.refused ≡ OutOfMemory) ⊎ (refusal_of w ≡ Some c.in-Err.refused))
    (ap (λ rs. resubmit_in rs most_ids (once c.args.ids.now)) c.new-rows.ensures ∙ resubmit_told (plain c.args.state.now) c.args.ids.now c.requires)
    c.in-Err.ensures.err)
