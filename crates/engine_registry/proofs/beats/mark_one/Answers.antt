use Rattle.engine_registry.proofs.Apart.{at_marked, past_marked}
use Rattle.engine_registry.proofs.beats.mark_one.Goals as goal

pub returns-then-place-live : goal.returns-then-place-live
returns-then-place-live c = at_marked c.args.conn c.args.beat c.args.live.now c.args.place c.index-live-place.result c.mark.new.engine c.requires.apart c.if-place-live.true c.mark.ensures c.requires.place

pub returns-else-place-live : goal.returns-else-place-live
returns-else-place-live c = past_marked c.args.conn c.args.beat c.args.live.now c.args.place c.if-place-live.false c.requires.place
