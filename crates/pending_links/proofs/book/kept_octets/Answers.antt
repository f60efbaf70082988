use Rattle.pending_links.proofs.Loops.{kept_more}
use Rattle.pending_links.proofs.book.kept_octets.Goals as goal

pub loop-link-preserved : goal.loop-link-preserved
loop-link-preserved c = kept_more c.args.links.now c.loop-link.link-index _ c.loop-link.octets c.saturating_add-octets.result c.loop-link-test.true c.saturating_add-octets.ensures c.loop-link.invariant
