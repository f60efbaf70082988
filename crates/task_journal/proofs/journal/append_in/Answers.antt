use Rattle.std.proofs.Common.{inl}
use Rattle.task_journal.specs.Settled.{Outcome}
use Rattle.task_journal.proofs.Moments.{Going, weaker, joined}
use Rattle.task_journal.proofs.Behind.{stands_now}
use Rattle.task_journal.proofs.journal.append_in.Goals as goal

pub returns-in_err-make_room-clause-any_moment : goal.returns-in_err-make_room-clause-any_moment
returns-in_err-make_room-clause-any_moment g c = λ told list es is_batch stands.
    weaker g.D.Disk.moment g.D.Disk.image_since c.args.disk.now c.make_room.new.disk (λ f same. inl same) (c.make_room.ensures.any_moment told list stands)

pub returns-in_err-append_at-clause-any_moment : goal.returns-in_err-append_at-clause-any_moment
returns-in_err-append_at-clause-any_moment g c = λ told list es is_batch stands.
    let mid = c.make_room.new.disk in
    let before = c.in_ok-make_room.ensures.stands told list stands in
    let P = Outcome list es in
    let so_far : Going g.D.Disk.moment g.D.Disk.image g.D.Disk.image_since c.args.disk.now mid P = record {
      leaves = weaker g.D.Disk.moment g.D.Disk.image_since c.args.disk.now mid (λ f same. inl same) (c.make_room.ensures.any_moment told list stands);
      now = λ f now. inl (stands_now g.D.Disk.content g.D.Disk.image mid c.args.gate (c.in_ok-make_room.ensures.ready told) list before f now);
    } in
    joined g.D.Disk.moment g.D.Disk.image g.D.Disk.image_since g.met.D.Disk.counts_now g.met.D.Disk.widens c.args.disk.now mid c.append_at.new.disk P P so_far (c.append_at.ensures.any_moment told list es is_batch before) (λ f same. same)

pub returns-clause-any_moment : goal.returns-clause-any_moment
returns-clause-any_moment g c = λ told list es is_batch stands.
    let mid = c.make_room.new.disk in
    let before = c.in_ok-make_room.ensures.stands told list stands in
    let P = Outcome list es in
    let so_far : Going g.D.Disk.moment g.D.Disk.image g.D.Disk.image_since c.args.disk.now mid P = record {
      leaves = weaker g.D.Disk.moment g.D.Disk.image_since c.args.disk.now mid (λ f same. inl same) (c.make_room.ensures.any_moment told list stands);
      now = λ f now. inl (stands_now g.D.Disk.content g.D.Disk.image mid c.args.gate (c.in_ok-make_room.ensures.ready told) list before f now);
    } in
    joined g.D.Disk.moment g.D.Disk.image g.D.Disk.image_since g.met.D.Disk.counts_now g.met.D.Disk.widens c.args.disk.now mid c.append_at.new.disk P P so_far (c.append_at.ensures.any_moment told list es is_batch before) (λ f same. same)

pub returns-clause-ready : goal.returns-clause-ready
returns-clause-ready g c = λ told list es is_batch stands. c.in_ok-append_at.ensures.ready told list es is_batch (c.in_ok-make_room.ensures.stands told list stands)

pub returns-clause-stands : goal.returns-clause-stands
returns-clause-stands g c = λ told list es is_batch stands. c.in_ok-append_at.ensures.stands told list es is_batch (c.in_ok-make_room.ensures.stands told list stands)
