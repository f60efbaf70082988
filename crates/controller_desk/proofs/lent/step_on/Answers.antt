use Rattle.std.proofs.Common.{subst}
use Rattle.cluster_store.specs.declared.fault.StepError.{StepError}
use Rattle.cluster_store.specs.declared.fault.StepError.TheVariants.{BatchFull}
use Rattle.cluster_store.specs.Stores.{IsRefused}
use Rattle.controller_desk.specs.Calls.{behind}
use Rattle.controller_desk.proofs.Taking.{never_long, has_stepped, ups_stepped, set_stepped}
use Rattle.controller_desk.proofs.lent.step_on.Goals as goal

pub unreachable-requires : goal.unreachable-requires
unreachable-requires g c = let v = c.args.store.now in
    let why : IsRefused v.failed v.mark v.limits (behind v.history c.args.input) BatchFull =
    subst (λ (e : StepError). IsRefused v.failed v.mark v.limits (behind v.history c.args.input) e) c.in-Err-BatchFull.field-0-is c.in-Err-BatchFull.ensures.why in
    never_long v c.args.input c.requires.set c.requires.no_open why.1 why.2

pub returns-in-Ok-clause-tried : goal.returns-in-Ok-clause-tried
returns-in-Ok-clause-tried g c = has_stepped c.args.store.now c.args.input c.step.new.self c.in-Ok.ensures.ok c.in-Ok.ensures.taken

pub returns-in-Ok-clause-set : goal.returns-in-Ok-clause-set
returns-in-Ok-clause-set g c = set_stepped c.args.store.now c.args.input c.step.new.self c.requires.no_open c.requires.number c.requires.set (has_stepped c.args.store.now c.args.input c.step.new.self c.in-Ok.ensures.ok c.in-Ok.ensures.taken)

pub returns-in-Ok-clause-ok : goal.returns-in-Ok-clause-ok
returns-in-Ok-clause-ok g c = ups_stepped c.args.store.now c.args.input c.step.new.self c.requires.no_open (has_stepped c.args.store.now c.args.input c.step.new.self c.in-Ok.ensures.ok c.in-Ok.ensures.taken)
