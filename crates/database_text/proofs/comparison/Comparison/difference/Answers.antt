use Rattle.database_text.proofs.Feeding.{stand_first}
use Rattle.database_text.proofs.comparison.Comparison.difference.Goals as goal

pub returns : goal.returns
returns c =
    let i = c.self.inside in
    rw (← c.self.view_is) (stand_first i.input.octets i.printed.octets i.difference i.same i.input_ahead.items i.printed_ahead.items c.self.invariant)
