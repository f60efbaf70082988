use Rattle.std.proofs.Common.{reverse, take}
use Rattle.cluster_state.specs.Stands.{plain}
use Rattle.cluster_core.proofs.Growing.{plain_time}
use Rattle.cluster_core.proofs.Plans.{time_at, next_at, stands_at}
use Rattle.cluster_core.proofs.known.rebuilt.Goals as goal

pub take-requires-clause-next : goal.take-requires-clause-next
take-requires-clause-next c =
    next_at c.args.entries.now c.loop-entry.entry-index c.entry-item.result (plain c.loop-entry.known.state) c.loop-entry.known.place
    c.loop-entry-test.true c.entry-item.is c.requires.legal c.loop-entry.invariant

pub take-requires-clause-time : goal.take-requires-clause-time
take-requires-clause-time c = time_at c.args.entries.now c.loop-entry.entry-index c.entry-item.result c.loop-entry-test.true c.entry-item.is c.requires.time

pub take-requires-clause-now : goal.take-requires-clause-now
take-requires-clause-now c = plain_time (reverse (take c.loop-entry.entry-index c.args.entries.now)) (plain c.loop-entry.known.state) c.loop-entry.known.place c.loop-entry.invariant

pub loop-entry-preserved : goal.loop-entry-preserved
loop-entry-preserved c =
    stands_at c.args.entries.now c.loop-entry.entry-index c.entry-item.result (plain c.loop-entry.known.state) (plain c.take.new.self.state) c.loop-entry.known.place c.take.new.self.place
    c.loop-entry-test.true c.entry-item.is c.requires.legal c.requires.time c.loop-entry.invariant c.in_ok-take.ensures.data c.in_ok-take.ensures.place
