use Rattle.std.proofs.Common.{◌≡◌, [], refl, subst}
use Rattle.std.specs.Prelude.{filter}
use Rattle.history_lock.specs.Names.{known}
use Rattle.history_lock.proofs.Growing.{extends_self}
use Rattle.history_lock.proofs.Turning.{turned}
use Rattle.controller_desk.specs.Calls.{has_news}
use Rattle.controller_desk.specs.Contents.{content_of}
use Rattle.controller_desk.proofs.Extending.{may_go, holds_none, logs, in_turn, same_on}
use Rattle.controller_desk.proofs.desk.Desk.keep_news.Goals as goal

pub returns-clause-turn : goal.returns-clause-turn
returns-clause-turn g c =
    let same : c.deref.result.now ≡ c.enter-locked.result.store.value = search in
    let kept = subst (λ v. c.keep_news_on.new.conns.items ≡ filter (has_news v) c.args.conns.now.items) same c.keep_news_on.ensures in (
      c.enter-locked.result.store.value,
      c.enter-locked.result.store.value,
      in_turn g.D.Disk.faults _ _ _ c.enter-locked.result.store.value c.enter-locked.result.store.value c.enter-locked.ensures.later c.enter-locked.ensures.known c.leave.ensures.known (same_on g.D.Disk.faults c.enter-locked.result.store.value c.enter-locked.result.store.value refl),
      (refl, kept),
      logs g.D.Disk.faults (λ l. l.store.value) _ _ _ _ _ c.enter-locked.result.store.value c.enter-locked.result.store.value c.enter-locked.ensures.newest c.enter-locked.ensures.log c.enter-locked.ensures.steps refl refl (same_on g.D.Disk.faults c.enter-locked.result.store.value c.enter-locked.result.store.value refl) c.leave.ensures.log,
    )

-- the store is put back as it was taken, so that the turn adds nothing
pub returns-clause-added : goal.returns-clause-added
returns-clause-added g c =
    (turned [] (known c.args.pass.now) _ _ (content_of g.D.Disk.faults c.enter-locked.result.store.value) (content_of g.D.Disk.faults c.enter-locked.result.store.value) c.enter-locked.ensures.later c.enter-locked.ensures.known c.leave.ensures.known refl (extends_self _)).added

pub leave-requires-clause-step : goal.leave-requires-clause-step
leave-requires-clause-step g c =
    record { newest = c.enter-locked.result; starts = c.enter-locked.ensures.newest; next = same_on g.D.Disk.faults c.enter-locked.result.store.value c.enter-locked.result.store.value refl }

pub leave-requires-clause-loan : goal.leave-requires-clause-loan
leave-requires-clause-loan g c = may_go _ _ c.enter-locked.result c.enter-locked.ensures.newest
