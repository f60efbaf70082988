use Rattle.std.proofs.Common.{arith}
use Rattle.journal_standby.proofs.Going.{came_on, came_more, came_all}
use Rattle.journal_standby.proofs.standby.append_all.Goals as goal

pub returns-in_err-append-clause-any_moment : goal.returns-in_err-append-clause-any_moment
returns-in_err-append-clause-any_moment g c = λ tells.
    came_on g.D.Disk.content g.D.Disk.image g.D.Disk.moment g.D.Disk.image_since g.met.D.Disk.counts_now g.met.D.Disk.widens g.met.D.Disk.only_now c.args.journal.now.disk c.loop-batch.journal.disk c.append.new.self.disk c.args.batches.now c.loop-batch.batch-index
    c.batch-item.result c.loop-batch-test.true c.batch-item.is (c.loop-batch.invariant.came tells) (c.append.ensures.any_moment tells c.loop-batch.invariant.works)

pub loop-batch-preserved : goal.loop-batch-preserved
loop-batch-preserved g c = record {
  works = c.in_ok-append.ensures.failed;
  came = λ tells.
      came_more g.D.Disk.content g.D.Disk.image g.D.Disk.moment g.D.Disk.image_since g.met.D.Disk.counts_now g.met.D.Disk.widens g.met.D.Disk.only_now c.args.journal.now.disk c.loop-batch.journal.disk c.append.new.self.disk c.args.batches.now c.loop-batch.batch-index
      c.batch-item.result c.loop-batch-test.true c.batch-item.is (c.loop-batch.invariant.came tells) (c.append.ensures.any_moment tells c.loop-batch.invariant.works) (c.in_ok-append.ensures.durable tells) (c.in_ok-append.ensures.stands tells);
  later = omega (arith, c.append.ensures.later, c.loop-batch.invariant.later);
}

pub returns-clause-stands : goal.returns-clause-stands
returns-clause-stands g c = λ tells list is.
    came_all g.D.Disk.content g.D.Disk.image g.D.Disk.moment g.D.Disk.image_since c.args.journal.now.disk c.loop-batch.journal.disk c.args.batches.now c.loop-batch.batch-index c.loop-batch-test.false (c.loop-batch.invariant.came tells) list is

pub returns-clause-any_moment : goal.returns-clause-any_moment
returns-clause-any_moment g c = λ tells list is. ((c.loop-batch.invariant.came tells).going list is).leaves
