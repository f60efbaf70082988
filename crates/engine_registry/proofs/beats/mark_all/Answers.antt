use Rattle.std.proofs.lemmas.List.Edits.{map_over_more}
use Rattle.cluster_defs.specs.Engines.{marked}
use Rattle.engine_registry.proofs.beats.mark_all.Goals as goal

pub loop-place-preserved : goal.loop-place-preserved
loop-place-preserved c =
    rw (c.mark.ensures, ← c.index-live-place.is) (map_over_more (marked c.args.conn c.args.beat) c.args.live.now c.loop-place.live c.loop-place.place c.index-live-place.result c.loop-place-test.true c.loop-place.invariant c.index-live-place.is)
