use Rattle.std.proofs.Common.{◌≡◌, refl, subst}
use Rattle.std.specs.Prelude.{filter}
use Rattle.controller_desk.specs.Calls.{has_news}
use Rattle.controller_desk.proofs.Extending.{may_go, logs, in_turn, same_on}
use Rattle.run_book.proofs.book.Book.keep_news.Goals as goal

pub returns-clause-turn : goal.returns-clause-turn
returns-clause-turn g c =
    let same : c.deref.result.now ≡ c.enter-book.result.store.value = search in
    let kept = subst (λ v. c.keep_news_on.new.conns.items ≡ filter (has_news v) c.args.conns.now.items) same c.keep_news_on.ensures in (
      c.enter-book.result.store.value,
      c.enter-book.result.store.value,
      in_turn g.D.Disk.faults _ _ _ c.enter-book.result.store.value c.enter-book.result.store.value c.enter-book.ensures.later c.enter-book.ensures.known c.leave.ensures.known (same_on g.D.Disk.faults c.enter-book.result.store.value c.enter-book.result.store.value refl),
      (refl, kept),
      logs g.D.Disk.faults (λ b. b.store.value) _ _ _ _ _ c.enter-book.result.store.value c.enter-book.result.store.value c.enter-book.ensures.newest c.enter-book.ensures.log c.enter-book.ensures.steps refl refl (same_on g.D.Disk.faults c.enter-book.result.store.value c.enter-book.result.store.value refl) c.leave.ensures.log,
    )

pub leave-requires-clause-step : goal.leave-requires-clause-step
leave-requires-clause-step g c =
    record { newest = c.enter-book.result; starts = c.enter-book.ensures.newest; next = same_on g.D.Disk.faults c.enter-book.result.store.value c.enter-book.result.store.value refl }

pub leave-requires-clause-loan : goal.leave-requires-clause-loan
leave-requires-clause-loan g c = may_go _ _ c.enter-book.result c.enter-book.ensures.newest
