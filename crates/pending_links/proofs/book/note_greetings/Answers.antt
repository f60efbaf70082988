use Rattle.pending_links.specs.Pending.{with_greeting}
use Rattle.pending_links.proofs.Loops.{map_next}
use Rattle.pending_links.proofs.book.note_greetings.Goals as goal

pub loop-place-preserved : goal.loop-place-preserved
loop-place-preserved c = map_next (with_greeting c.args.number) c.args.links.now c.loop-place.links c.loop-place.place _ c.with_greeting.result c.loop-place-test.true c.loop-place.auto.links c.loop-place.invariant c.with_greeting.ensures
