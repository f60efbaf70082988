use Rattle.database_text.proofs.Feeding.{stand_turned}
use Rattle.database_text.proofs.comparison.Comparison.feed_printed.Goals as goal

pub invariant_of-self-2 : goal.invariant_of-self-2
invariant_of-self-2 c =
    let i = c.self.inside in
    let now = c.feed.new in
    rw c.add.ensures
    (stand_turned _ i.input.octets now.difference now.same now.own_ahead.items now.other_ahead.items
    (c.in_ok-feed.ensures.ok i.printed.octets i.input.octets (stand_turned i.input.octets i.printed.octets i.difference i.same i.input_ahead.items i.printed_ahead.items c.self.invariant)))
