use Rattle.std.proofs.Common.{◌≡◌, sym, subst, refl}
use Rattle.history_lock.specs.History.{Extends}
use Rattle.controller_desk.specs.Calls.{HasFlushed}
use Rattle.controller_desk.specs.Contents.{content_of}
use Rattle.controller_desk.proofs.Extending.{may_go, logs, in_turn, flushed_on}
use Rattle.run_book.proofs.book.Book.flush.Goals as goal

pub leave-requires-clause-later : goal.leave-requires-clause-later
leave-requires-clause-later g c =
    let same : c.deref_mut.result.now ≡ c.enter-book.result.store.value = search in
    let made = subst (λ v. HasFlushed g.D.Disk.faults v c.flush_on-result.result c.flush_on-result.new.store) same c.flush_on-result.ensures.flushed in
    let on = flushed_on g.D.Disk.faults c.enter-book.result.store.value c.flush_on-result.result c.flush_on-result.new.store made in
    subst (λ v. Extends v.seen (content_of g.D.Disk.faults c.flush_on-result.new.store)) (sym c.enter-book.ensures.known) on.extends

pub returns-clause-turn : goal.returns-clause-turn
returns-clause-turn g c =
    let same : c.deref_mut.result.now ≡ c.enter-book.result.store.value = search in
    let made = subst (λ v. HasFlushed g.D.Disk.faults v c.flush_on-result.result c.flush_on-result.new.store) same c.flush_on-result.ensures.flushed in
    let on = flushed_on g.D.Disk.faults c.enter-book.result.store.value c.flush_on-result.result c.flush_on-result.new.store made in (
      c.enter-book.result.store.value,
      c.flush_on-result.new.store,
      in_turn g.D.Disk.faults _ _ _ c.enter-book.result.store.value c.flush_on-result.new.store c.enter-book.ensures.later c.enter-book.ensures.known c.leave.ensures.known on,
      made,
      logs g.D.Disk.faults (λ b. b.store.value) _ _ _ _ _ c.enter-book.result.store.value c.flush_on-result.new.store c.enter-book.ensures.newest c.enter-book.ensures.log c.enter-book.ensures.steps refl refl on c.leave.ensures.log,
    )

pub leave-requires-clause-step : goal.leave-requires-clause-step
leave-requires-clause-step g c =
    let same : c.deref_mut.result.now ≡ c.enter-book.result.store.value = search in
    let made = subst (λ v. HasFlushed g.D.Disk.faults v c.flush_on-result.result c.flush_on-result.new.store) same c.flush_on-result.ensures.flushed in
    let on = flushed_on g.D.Disk.faults c.enter-book.result.store.value c.flush_on-result.result c.flush_on-result.new.store made in
    record { newest = c.enter-book.result; starts = c.enter-book.ensures.newest; next = on }

pub leave-requires-clause-loan : goal.leave-requires-clause-loan
leave-requires-clause-loan g c = may_go _ _ c.enter-book.result c.enter-book.ensures.newest
