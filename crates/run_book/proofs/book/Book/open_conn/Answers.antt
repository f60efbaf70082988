use Rattle.std.proofs.Common.{◌≡◌, sym, subst, refl}
use Rattle.history_lock.specs.History.{Extends}
use Rattle.controller_desk.specs.Calls.{HasOpened}
use Rattle.controller_desk.specs.Contents.{content_of}
use Rattle.controller_desk.proofs.Extending.{may_go, logs, in_turn, opened_on}
use Rattle.run_book.proofs.book.Book.open_conn.Goals as goal

pub leave-requires-clause-later : goal.leave-requires-clause-later
leave-requires-clause-later g c =
    let same : c.deref_mut.result.now ≡ c.enter-book.result.store.value = search in
    let made = subst (λ v. HasOpened v 0 0 c.args.channel c.args.identity.now c.open_on-result.result c.open_on-result.new.store) same c.open_on-result.ensures.opened in
    let on = opened_on g.D.Disk.faults c.enter-book.result.store.value 0 0 c.args.channel c.args.identity.now c.open_on-result.result c.open_on-result.new.store c.rest.ensures.fulls made in
    subst (λ v. Extends v.seen (content_of g.D.Disk.faults c.open_on-result.new.store)) (sym c.enter-book.ensures.known) on.extends

pub returns-clause-turn : goal.returns-clause-turn
returns-clause-turn g c =
    let same : c.deref_mut.result.now ≡ c.enter-book.result.store.value = search in
    let made = subst (λ v. HasOpened v 0 0 c.args.channel c.args.identity.now c.open_on-result.result c.open_on-result.new.store) same c.open_on-result.ensures.opened in
    let on = opened_on g.D.Disk.faults c.enter-book.result.store.value 0 0 c.args.channel c.args.identity.now c.open_on-result.result c.open_on-result.new.store c.rest.ensures.fulls made in (
      c.enter-book.result.store.value,
      c.open_on-result.new.store,
      in_turn g.D.Disk.faults _ _ _ c.enter-book.result.store.value c.open_on-result.new.store c.enter-book.ensures.later c.enter-book.ensures.known c.leave.ensures.known on,
      made,
      logs g.D.Disk.faults (λ b. b.store.value) _ _ _ _ _ c.enter-book.result.store.value c.open_on-result.new.store c.enter-book.ensures.newest c.enter-book.ensures.log c.enter-book.ensures.steps refl refl on c.leave.ensures.log,
    )

pub leave-requires-clause-step : goal.leave-requires-clause-step
leave-requires-clause-step g c =
    let same : c.deref_mut.result.now ≡ c.enter-book.result.store.value = search in
    let made = subst (λ v. HasOpened v 0 0 c.args.channel c.args.identity.now c.open_on-result.result c.open_on-result.new.store) same c.open_on-result.ensures.opened in
    let on = opened_on g.D.Disk.faults c.enter-book.result.store.value 0 0 c.args.channel c.args.identity.now c.open_on-result.result c.open_on-result.new.store c.rest.ensures.fulls made in
    record { newest = c.enter-book.result; starts = c.enter-book.ensures.newest; next = on }

pub leave-requires-clause-loan : goal.leave-requires-clause-loan
leave-requires-clause-loan g c = may_go _ _ c.enter-book.result c.enter-book.ensures.newest
