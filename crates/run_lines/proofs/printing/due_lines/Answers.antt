use Rattle.std.proofs.Common.{sym, ap, ◌∙◌}
use Rattle.std.specs.Option.{option_copied}
use Rattle.run_lines.proofs.Fronts.{front_none, one_line, all_ahead}
use Rattle.run_lines.proofs.printing.due_lines.Goals as goal

pub returns-in-None-clause-text : goal.returns-in-None-clause-text
returns-in-None-clause-text c =
    let none = front_none c.args.gathered.now.answers c.loop-place.place (sym c.get.ensures ∙ ap option_copied c.in-None.is) in
    (all_ahead c.args.labels.now c.args.gathered.now.answers c.args.from c.loop-place.place c.loop-place.text.items none c.loop-place.invariant).0

pub returns-in-None-clause-next : goal.returns-in-None-clause-next
returns-in-None-clause-next c =
    let none = front_none c.args.gathered.now.answers c.loop-place.place (sym c.get.ensures ∙ ap option_copied c.in-None.is) in
    (all_ahead c.args.labels.now c.args.gathered.now.answers c.args.from c.loop-place.place c.loop-place.text.items none c.loop-place.invariant).1

pub loop-place-preserved : goal.loop-place-preserved
loop-place-preserved c =
    one_line c.args.labels.now c.args.gathered.now.answers c.args.from c.loop-place.place c.loop-place.text.items c.push_line.new.text.items c.in-Some.answer.now
    (sym c.get.ensures ∙ ap option_copied c.in-Some.is) c.in_ok-push_line-in-Some.ensures c.loop-place.invariant
