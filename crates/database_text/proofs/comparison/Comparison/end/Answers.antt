use Rattle.std.proofs.Common.{◌∙◌, sym, arith}
use Rattle.database_text.proofs.Feeding.{stand_end, stand_even, stand_ahead, end_equal, none_equal}
use Rattle.database_text.proofs.comparison.Comparison.end.Goals as goal

pub returns-then-is_some-clause-place : goal.returns-then-is_some-clause-place
returns-then-is_some-clause-place c =
    let i = c.self.inside in
    rw (← c.self.view_is) (stand_end i.input.octets i.printed.octets i.difference i.same i.input_ahead.items i.printed_ahead.items (sym c.is_some.ensures ∙ c.if-is_some.true) c.self.invariant)

pub returns-then-is_some-clause-equal : goal.returns-then-is_some-clause-equal
returns-then-is_some-clause-equal c =
    none_equal c.self.inside.difference c.args.self.now.input c.args.self.now.printed (returns-then-is_some-clause-place c)

pub returns-then-max-eq0-clause-place : goal.returns-then-max-eq0-clause-place
returns-then-max-eq0-clause-place c =
    let i = c.self.inside in
    rw (← c.self.view_is) (end_equal i.input.octets i.printed.octets (stand_even i.input.octets i.printed.octets i.difference i.same i.input_ahead.items i.printed_ahead.items (sym c.is_some.ensures ∙ c.if-is_some.false) (omega arith) c.self.invariant))

pub returns-clause-place : goal.returns-clause-place
returns-clause-place c =
    let i = c.self.inside in
    rw (← c.self.view_is) (stand_ahead i.input.octets i.printed.octets i.difference i.same i.input_ahead.items i.printed_ahead.items (sym c.is_some.ensures ∙ c.if-is_some.false) (omega arith) c.self.invariant)
