use Rattle.std.proofs.Common.{rules, arith, ap, sym, ◌∙◌, subst}
use Rattle.history_lock.specs.History.{Extends}
use Rattle.history_lock.specs.Log.{Follows}
use Rattle.history_lock.specs.Loans.{loan_in, MayLend}
use Rattle.history_lock.specs.Rule.{given_up}
use Rattle.history_lock.proofs.Sharing.{allows_give_up}
use Rattle.history_lock.proofs.Holding.{putting, leaving}
use Rattle.history_lock.proofs.lock.HistoryLock.leave.Goals as goal

pub swap-requires : goal.swap-requires
swap-requires g c = let p = c.args.pass.now in let t = g.T.Keeps.content in
    let put = putting t g.T.Keeps.step g.T.Keeps.loan p.seat.me c.exchange.new.seat.me c.args.value p.slots c.requires.turn c.exchange.ensures.3 in
    (search rules, search rules, allows_give_up t g.T.Keeps.step g.T.Keeps.loan _ _ _ _ c.args.value c.args.self.now.sized.1 (ap (λ m. m.1) put) (ap (λ m. m.0.view.has_turn) put ∙ c.requires.turn) (ap (λ m. m.0.view.spent) put ∙ p.unspent) (subst (λ m. Extends m.0.view.seen (t c.args.value)) (sym put) c.requires.later) (subst (λ m. Follows g.T.Keeps.step m.0.log c.args.value) (sym put) c.requires.step) (subst (λ m. MayLend m.0.hold (loan_in g.T.Keeps.loan m.0.log) (g.T.Keeps.loan c.args.value)) (sym put) c.requires.loan))

pub invariant_of-pass : goal.invariant_of-pass
invariant_of-pass g c = let p = c.args.pass.now in let t = g.T.Keeps.content in
    let put = putting t g.T.Keeps.step g.T.Keeps.loan p.seat.me c.exchange.new.seat.me c.args.value p.slots c.requires.turn c.exchange.ensures.3 in
    let h = leaving t g.T.Keeps.step g.T.Keeps.loan p.seat.me.0 c.swap.new.seat.me c.args.value p.stand p.ascends c.requires.later (c.swap.ensures.2 ∙ ap (λ m. given_up t g.T.Keeps.step g.T.Keeps.loan m.0 m.1) put) in
    record { slots = h.slots; unspent = h.unspent; lasting = omega (arith, h.shared, p.lasting); stand = h.stand; ascends = h.ascends }
