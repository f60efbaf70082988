use Rattle.std.proofs.Common.{◌+◌, Option, drop, sym, ap, ◌∙◌}
use Rattle.link_commands.specs.Asking.{or_next, answer_in}
use Rattle.link_commands.proofs.FirstAnswer.{first_is}
use Rattle.link_commands.proofs.finding.answer_in.Goals as goal
use Rattle.cluster_types.specs.declared.message.Message.{Message}

pub returns-in-Some : goal.returns-in-Some
returns-in-Some c =
    let key = c.args.key.now in
    let id = c.args.id.now in
    let all = c.args.messages.now in
    let i = c.loop-frames.frames-index in
    sym (sym c.loop-frames.invariant
    ∙ first_is key id all i c.frames-item.result _ c.loop-frames-test.true c.frames-item.is c.in_ok-answer.ensures
    ∙ ap (λ (a : Option Message). or_next a (answer_in key id (drop (i + 1) all))) c.in-Some.is)

pub loop-frames-preserved : goal.loop-frames-preserved
loop-frames-preserved c =
    let key = c.args.key.now in
    let id = c.args.id.now in
    let all = c.args.messages.now in
    let i = c.loop-frames.frames-index in
    ap (λ (a : Option Message). or_next a (answer_in key id (drop (i + 1) all))) (sym c.in-None.is)
    ∙ sym (first_is key id all i c.frames-item.result _ c.loop-frames-test.true c.frames-item.is c.in_ok-answer.ensures)
    ∙ c.loop-frames.invariant
