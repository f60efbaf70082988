use Rattle.std.proofs.Common.{◌≡◌, ◌∷◌, refl, ap, ◌∙◌, subst}
use mathlib.Core.Option.{some}
use Rattle.history_lock.specs.History.{Extends}
use Rattle.history_lock.specs.Log.{StartsAt}
use Rattle.history_lock.specs.Loans.{HoldsIn}
use Rattle.history_lock.proofs.Sharing.{closes_free, closes_whole, closes_home}
use Rattle.history_lock.proofs.lock.HistoryLock.close.Goals as goal

pub returns-then-turn-ne0-clause-whole : goal.returns-then-turn-ne0-clause-whole
returns-then-turn-ne0-clause-whole g c = λ all. let p = c.args.pass in
    absurd (c.if-turn-ne0.true (closes_whole g.T.Keeps.content g.T.Keeps.step g.T.Keeps.loan _ p.seat.id p.seat.me.0 _ _ c.word-turn.result c.close_with-closed.ensures.values.2 c.requires.idle all c.word-turn.ensures))

pub returns-clause-later : goal.returns-clause-later
returns-clause-later g c = let p = c.args.pass in
    let t = closes_free g.T.Keeps.content g.T.Keeps.step g.T.Keeps.loan _ p.seat.id p.seat.me.0 _ _ c.take-value.result c.close_with-closed.ensures.values.2 p.unspent (c.word-turn.ensures ∙ ap some c.if-turn-ne0.false) c.take-value.ensures.value in
    let same : t.0 ≡ c.in-Some.value = cc (t.2, c.in-Some.is) in
    subst (λ v. Extends p.seat.me.0.view.seen (g.T.Keeps.content v)) same t.3

pub returns-clause-log : goal.returns-clause-log
returns-clause-log g c = let p = c.args.pass in
    let t = closes_free g.T.Keeps.content g.T.Keeps.step g.T.Keeps.loan _ p.seat.id p.seat.me.0 _ _ c.take-value.result c.close_with-closed.ensures.values.2 p.unspent (c.word-turn.ensures ∙ ap some c.if-turn-ne0.false) c.take-value.ensures.value in
    let same : t.0 ≡ c.in-Some.value = cc (t.2, c.in-Some.is) in
    (t.0 ∷ t.1, subst (λ v. StartsAt v (t.0 ∷ t.1)) same (record { older = t.1; is = refl }), t.4, t.5)

pub returns-clause-holds : goal.returns-clause-holds
returns-clause-holds g c = let p = c.args.pass in
    let t = closes_free g.T.Keeps.content g.T.Keeps.step g.T.Keeps.loan _ p.seat.id p.seat.me.0 _ _ c.take-value.result c.close_with-closed.ensures.values.2 p.unspent (c.word-turn.ensures ∙ ap some c.if-turn-ne0.false) c.take-value.ensures.value in
    let same : t.0 ≡ c.in-Some.value = cc (t.2, c.in-Some.is) in
    subst (λ v. HoldsIn (g.T.Keeps.loan v) p.seat.me.0.hold) same t.6

pub returns-clause-home : goal.returns-clause-home
returns-clause-home g c = let p = c.args.pass in λ all empty.
    closes_home g.T.Keeps.content g.T.Keeps.step g.T.Keeps.loan _ p.seat.id p.seat.me.0 _ _ c.in-Some.value c.close_with-closed.ensures.values.2 all p.unspent empty (c.word-turn.ensures ∙ ap some c.if-turn-ne0.false) (c.take-value.ensures.value ∙ ap some c.in-Some.is)
