use Rattle.std.proofs.Common.{◌∙◌, Some, Result, Ok, sym, ap, subst}
use Rattle.controller_desk.specs.declared.acted.Acted.{Acted}
use Rattle.controller_desk.specs.declared.fault.ActError.{ActError}
use Rattle.controller_desk.specs.Calls.{HasActed}
use Rattle.session_threads.proofs.Entering.{none_entered, passed_over, entered_step, entered_junk, entered_still, refused_adds, acted_gone, gone_adds}
use Rattle.link_messages.proofs.Short.{are_short, signed_short}
use Rattle.session_threads.proofs.hearing.hear.Goals as goal
use Rattle.cluster_types.proofs.Options.{at_err}

pub returns-in_err-message-clause-err : goal.returns-in_err-message-clause-err
returns-in_err-message-clause-err g c = at_err _ (none_entered _ _ _)

pub returns-in-None-clause-ok : goal.returns-in-None-clause-ok
returns-in-None-clause-ok g c = passed_over _ _ _ _ (sym c.in_ok-message.ensures ∙ c.in-None.is)

pub returns-in_err-reading-clause-err : goal.returns-in_err-reading-clause-err
returns-in_err-reading-clause-err g c = at_err _ (none_entered _ _ _)

pub act-requires-clause-short : goal.act-requires-clause-short
act-requires-clause-short g c =
    signed_short c.args.context.now.key.now c.args.frames.now c.in_ok-reading.reading.message (are_short c.args.frames.now c.requires.short) (sym c.in_ok-message.ensures ∙ c.in-Some.is ∙ ap Some (sym c.in_ok-reading.ensures.0))

pub returns-in-Ok-Entered-clause-ok : goal.returns-in-Ok-Entered-clause-ok
returns-in-Ok-Entered-clause-ok g c =
    let t = c.act.ensures.turn in
    entered_step g.T.Disk.Disk.faults c.args.context.now.key.now c.args.connection.number c.args.frames.now c.in_ok-reading.reading.message _ _ t.0 t.1 t.3.0 t.3.1 (sym c.in_ok-message.ensures ∙ c.in-Some.is ∙ ap Some (sym c.in_ok-reading.ensures.0)) t.2
    (subst (λ (r : Result Acted ActError). HasActed t.0 t.3.0 t.3.1 c.args.connection.number c.in_ok-reading.reading.message r t.1) (c.in-Ok-Entered.is ∙ ap Ok c.in-Ok-Entered.field-0-is) t.3.2)

pub returns-in-Ok-Junk-clause-ok : goal.returns-in-Ok-Junk-clause-ok
returns-in-Ok-Junk-clause-ok g c =
    let t = c.act.ensures.turn in
    entered_junk g.T.Disk.Disk.faults c.args.context.now.key.now c.args.connection.number c.args.frames.now c.in_ok-reading.reading.message _ _ t.0 t.1 t.3.0 t.3.1 _ (sym c.in_ok-message.ensures ∙ c.in-Some.is ∙ ap Some (sym c.in_ok-reading.ensures.0)) t.2
    (subst (λ (r : Result Acted ActError). HasActed t.0 t.3.0 t.3.1 c.args.connection.number c.in_ok-reading.reading.message r t.1) (c.in-Ok-Junk.is ∙ ap Ok c.in-Ok-Junk.field-0-is) t.3.2)

pub returns-in-Ok-Gone-clause-err : goal.returns-in-Ok-Gone-clause-err
returns-in-Ok-Gone-clause-err g c =
    let t = c.act.ensures.turn in
    entered_still c.args.context.now.key.now c.args.connection.number _ _
    (gone_adds g.T.Disk.Disk.faults _ _ t.0 t.1 c.args.connection.number c.in_ok-reading.reading.message t.3.0 t.3.1 t.2
    (subst (λ (r : Result Acted ActError). HasActed t.0 t.3.0 t.3.1 c.args.connection.number c.in_ok-reading.reading.message r t.1) (c.in-Ok-Gone.is ∙ ap Ok c.in-Ok-Gone.field-0-is) t.3.2))

pub returns-in-Ok-Gone-clause-closed : goal.returns-in-Ok-Gone-clause-closed
returns-in-Ok-Gone-clause-closed g c =
    λ _.
    let t = c.act.ensures.turn in (
      acted_gone g.T.Disk.Disk.faults _ _ t.0 t.1 c.args.connection.number c.in_ok-reading.reading.message t.3.0 t.3.1 t.2
          (subst (λ (r : Result Acted ActError). HasActed t.0 t.3.0 t.3.1 c.args.connection.number c.in_ok-reading.reading.message r t.1) (c.in-Ok-Gone.is ∙ ap Ok c.in-Ok-Gone.field-0-is) t.3.2),
      c.act.ensures.back.2,
    )

pub returns-in-Err-clause-err : goal.returns-in-Err-clause-err
returns-in-Err-clause-err g c =
    let t = c.act.ensures.turn in
    let h = subst (λ (r : Result Acted ActError). HasActed t.0 t.3.0 t.3.1 c.args.connection.number c.in_ok-reading.reading.message r t.1) c.in-Err.is t.3.2 in
    entered_still c.args.context.now.key.now c.args.connection.number _ _ (refused_adds g.T.Disk.Disk.faults _ _ t.0 t.1 _ c.in-Err.error t.2 h.0)
