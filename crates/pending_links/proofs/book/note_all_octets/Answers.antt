use Rattle.pending_links.specs.Pending.{with_octets}
use Rattle.pending_links.proofs.Loops.{map_next}
use Rattle.pending_links.proofs.book.note_all_octets.Goals as goal

pub loop-place-preserved : goal.loop-place-preserved
loop-place-preserved c = map_next (with_octets c.args.number c.args.octets) c.args.links.now c.loop-place.links c.loop-place.place _ c.with_octets.result c.loop-place-test.true c.loop-place.auto.links c.loop-place.invariant c.with_octets.ensures
