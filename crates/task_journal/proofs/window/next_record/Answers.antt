use Rattle.std.proofs.Common.{◌+◌, ◌-◌, ◌<◌, ◌≤◌, length, ap, ◌∙◌, arith}
use Rattle.std.proofs.lemmas.Result.{err_from_is_err_and}
use Rattle.task_journal.proofs.Versions.{reads_on}
use Rattle.task_journal.proofs.Calls.{reads_joined}
use Rattle.task_journal.proofs.Spans.{fails_any, taken_shows, record_found, record_bad, record_short, more_shows}
use Rattle.task_journal.proofs.window.next_record.Goals as goal

pub returns-in-Ok-clause-value : goal.returns-in-Ok-clause-value
returns-in-Ok-clause-value g c = λ told.
    let shows = c.loop-entry.invariant.shows told in
    let read = rw c.octets.ensures at c.in-Ok.ensures.value in
    let le : c.in-Ok.taken ≤ length c.loop-entry.window.octets = omega (arith, c.in-Ok.ensures.inside, ap length c.octets.ensures) in
    let place = c.take.ensures.place (omega (arith, shows.inside, c.ranges.end, le)) in
    rw (← c.loop-entry.invariant.place) (record_found c.args.version c.loop-entry.window c.take.new.self c.args.end (g.D.Disk.content c.args.disk.now) c.in-Ok.entry c.in-Ok.taken shows le c.take.ensures.octets place read)

pub returns-in-Ok-clause-shows : goal.returns-in-Ok-clause-shows
returns-in-Ok-clause-shows g c = λ told.
    let shows = c.loop-entry.invariant.shows told in
    let le : c.in-Ok.taken ≤ length c.loop-entry.window.octets = omega (arith, c.in-Ok.ensures.inside, ap length c.octets.ensures) in
    let place = c.take.ensures.place (omega (arith, shows.inside, c.ranges.end, le)) in
    taken_shows c.loop-entry.window c.take.new.self c.args.end (g.D.Disk.content c.args.disk.now) c.in-Ok.taken shows le c.take.ensures.octets place

pub returns-in-Err-Stop-Bad-clause-value : goal.returns-in-Err-Stop-Bad-clause-value
returns-in-Err-Stop-Bad-clause-value g c = λ told.
    let read = rw (c.in-Err-Stop-Bad.field-0-is, c.in-Err-Stop-Bad.field-0-0-is, c.octets.ensures) at c.in-Err-Stop-Bad.ensures.value in
    rw (c.place.ensures, ← c.loop-entry.invariant.place) (record_bad c.args.version c.loop-entry.window c.args.end (g.D.Disk.content c.args.disk.now) (c.loop-entry.invariant.shows told) read)

pub returns-then-left-missing-clause-value : goal.returns-then-left-missing-clause-value
returns-then-left-missing-clause-value g c = λ told.
    let shows = c.loop-entry.invariant.shows told in
    let read = rw (c.in-Err-Stop-Short.field-0-is, c.in-Err-Stop-Short.field-0-0-is, c.octets.ensures) at c.in-Err-Stop-Short.ensures.value in
    let few : c.args.end - (c.loop-entry.window.place + length c.loop-entry.window.octets) < c.in-Err-Stop-Short.missing =
    omega (arith, shows.inside, c.ranges.end, ap length c.octets-in-Err-Stop-Short.ensures, c.place-in-Err-Stop-Short.ensures, c.saturating_add-ready.ensures, c.saturating_sub-left.ensures, c.if-left-missing.true) in
    rw (c.place-then-left-missing.ensures, ← c.loop-entry.invariant.place) (record_short c.args.version c.loop-entry.window c.args.end (g.D.Disk.content c.args.disk.now) c.in-Err-Stop-Short.missing shows read few)

pub returns-in_err-read_more-in-Err-Stop-Short-clause-value : goal.returns-in_err-read_more-in-Err-Stop-Short-clause-value
returns-in_err-read_more-in-Err-Stop-Short-clause-value g c = λ told.
    let p = err_from_is_err_and c.from_residual.result c.from_residual.ensures.1 in
    rw (p.1, p.2) (fails_any c.in_err-read_more-in-Err-Stop-Short.field-0.0 _ c.in_err-read_more-in-Err-Stop-Short.ensures.fault)

pub loop-entry-preserved : goal.loop-entry-preserved
loop-entry-preserved g c = record {
  shows = λ told.
      let shows = c.loop-entry.invariant.shows told in
      let octets = rw c.loop-entry.invariant.reads.same at (c.in_ok-read_more-in-Err-Stop-Short.ensures.octets told) in
      let inside : c.loop-entry.window.place + length c.loop-entry.window.octets + c.max-n.result ≤ c.args.end =
      omega (arith, shows.inside, c.ranges.end, ap length c.octets-in-Err-Stop-Short.ensures, c.place-in-Err-Stop-Short.ensures, c.saturating_add-ready.ensures, c.saturating_sub-left.ensures, c.if-left-missing.false, c.min.ensures, c.max-n.ensures) in
      more_shows c.loop-entry.window c.read_more.new.self c.args.end (g.D.Disk.content c.args.disk.now) c.max-n.result shows inside octets c.read_more.ensures.place;
  place = c.read_more.ensures.place ∙ c.loop-entry.invariant.place;
  reads = reads_joined c.loop-entry.invariant.reads c.read_more.ensures.reads;
}

pub loop-entry-smaller : goal.loop-entry-smaller
loop-entry-smaller g c =
    let read = rw (c.in-Err-Stop-Short.field-0-is, c.in-Err-Stop-Short.field-0-0-is, c.octets.ensures) at c.in-Err-Stop-Short.ensures.value in
    let some = (reads_on c.args.version).some c.loop-entry.window.octets c.in-Err-Stop-Short.missing read in
    omega (arith, some, c.ranges.end, ap length c.octets-in-Err-Stop-Short.ensures, c.place-in-Err-Stop-Short.ensures, c.saturating_add-ready.ensures, c.saturating_sub-left.ensures, c.if-left-missing.false, c.min.ensures, c.max-n.ensures, c.in_ok-read_more-in-Err-Stop-Short.ensures.more, c.read_more.ensures.place)
