-- The passes have the whole of the lock's shares together, at each step.
use Rattle.std.proofs.Common.{◌≡◌, ◌≢◌, ℕ, zero, suc, ◌+◌, ◌-◌, ◌*◌, ◌^◌, ◌<◌, ◌≤◌, List, [], ◌∷◌, ◌++◌, Bool, true, false, get_or, set, eqb, Option, Some, None, ⊎_elim, refl, ap, sym, ◌∙◌, subst, arith, true≢false}
use Rattle.std.proofs.Math.Pow.{pow_mono}
use Rattle.std.proofs.Math.Nat.{pow-suc}
use Rattle.std.proofs.lemmas.Nat.{pow_pos}
use mathlib.Core.Logic.{dite}
use mathlib.Core.Option.{some, none, some-injective, some-ne-none}
use native.Mathlib.Decide.{ℕ_discrete}
use lib.ListN.{get_elem?}
use prog.Atomic.{either}
use Rattle.atomic_table.specs.Table.{State, Me, step, opening, Allows, Splits, Joins, Final, Seen}
use Rattle.history_lock.specs.declared.known.Content.{Content}
use Rattle.history_lock.specs.declared.known.Knows.{Knows}
use Rattle.history_lock.specs.Log.{IsEnd, Chain, Follows}
use Rattle.history_lock.specs.History.{Extends}
use Rattle.history_lock.specs.Loans.{Loan, loan_in, HoldsIn, MayLend}
use Rattle.history_lock.specs.Slots.{IsReady}
use Rattle.history_lock.specs.Rule.{without_turn, knows, kept_of_split, given_of_split, half_kept, half_given, told_seat, spent_seat, whole, shares_of, Shared, Ruled, TurnRuled, IsWholeLog, turn_taken, turn_given_up, told_merged, given_up}
use Rattle.history_lock.proofs.Lists.{each_set, each_snoc}
use Rattle.history_lock.proofs.Lending.{none_lent}
use Rattle.history_lock.proofs.Keeping.{word_here, closes, starts, splits, joins, takes_turn_at, leaves_at, settles_at}

module _ {T : Type 0} where
  abbrev HasShare : Knows T → Type 0
  HasShare v = v.view.spent ≡ false → 0 < v.view.share

  set_sum : (views : List (Knows T)) (id : ℕ) (v w : Knows T) → get_elem? views id ≡ some v → shares_of (set views id w) + v.view.share ≡ shares_of views + w.view.share
  set_sum [] id v w e = absurd (some-ne-none v (sym e))
  set_sum (x ∷ views) zero v w e = let same : x.view.share ≡ v.view.share = ap (λ (u : Knows T). u.view.share) (some-injective x v e) in omega arith
  set_sum (x ∷ views) (suc id) v w e = let t = set_sum views id v w e in omega arith

  snoc_sum : (views : List (Knows T)) (w : Knows T) → shares_of (views ++ w ∷ []) ≡ shares_of views + w.view.share
  snoc_sum [] w = omega arith
  snoc_sum (x ∷ views) w = let t = snoc_sum views w in omega arith

  one_sum : (views : List (Knows T)) (i : ℕ) (v : Knows T) → get_elem? views i ≡ some v → v.view.share ≤ shares_of views
  one_sum [] i v e = absurd (some-ne-none v (sym e))
  one_sum (x ∷ views) zero v e = let same : x.view.share ≡ v.view.share = ap (λ (u : Knows T). u.view.share) (some-injective x v e) in omega arith
  one_sum (x ∷ views) (suc i) v e = let t = one_sum views i v e in omega arith

  -- two passes have no more than all
  two_sum : (views : List (Knows T)) (i j : ℕ) (v w : Knows T) → get_elem? views i ≡ some v → get_elem? views j ≡ some w → i ≢ j → v.view.share + w.view.share ≤ shares_of views
  two_sum [] i j v w p q ne = absurd (some-ne-none v (sym p))
  two_sum (x ∷ views) zero zero v w p q ne = absurd (ne refl)
  two_sum (x ∷ views) zero (suc j) v w p q ne = let same : x.view.share ≡ v.view.share = ap (λ (u : Knows T). u.view.share) (some-injective x v p) in let t = one_sum views j w q in omega arith
  two_sum (x ∷ views) (suc i) zero v w p q ne = let same : x.view.share ≡ w.view.share = ap (λ (u : Knows T). u.view.share) (some-injective x w q) in let t = one_sum views i v p in omega arith
  two_sum (x ∷ views) (suc i) (suc j) v w p q ne = let t = two_sum views i j v w p q (λ e. ne (ap suc e)) in omega arith

  shared_first : (v : Knows T) → v.view.share ≡ whole → Shared (v ∷ [])
  unfolding whole
  shared_first v is = record { all = omega (arith, is); each = each_snoc HasShare [] v (λ _. omega (arith, pow_pos 4096, is)) (λ j u e. absurd (some-ne-none u (sym e))) }

  shared_set : (views : List (Knows T)) (id : ℕ) (v w : Knows T) → get_elem? views id ≡ some v → v.view.spent ≡ false → w.view.share ≡ v.view.share → Shared views → Shared (set views id w)
  shared_set views id v w at unspent same sh = record {
    all = let t = set_sum views id v w at in omega (arith, sh.all);
    each = each_set HasShare views id w (λ _. let p = sh.each id v at unspent in omega arith) sh.each;
  }

  shared_split : (views : List (Knows T)) (id : ℕ) (v : Knows T) → get_elem? views id ≡ some v → 2 ≤ v.view.share → Shared views → Shared (set views id (kept_of_split v) ++ given_of_split v ∷ [])
  shared_split views id v at two sh = record {
    all = let t = set_sum views id v (kept_of_split v) at in let n = snoc_sum (set views id (kept_of_split v)) (given_of_split v) in omega (arith, sh.all);
    each = each_snoc HasShare (set views id (kept_of_split v)) (given_of_split v) (λ _. omega arith) (each_set HasShare views id (kept_of_split v) (λ _. omega arith) sh.each);
  }

  shared_join : (views : List (Knows T)) (id : ℕ) (v : Knows T) (other : ℕ) (u : Knows T) → get_elem? views id ≡ some v → get_elem? (set views id (told_seat v u)) other ≡ some u → v.view.spent ≡ false → Shared views
      → Shared (set (set views id (told_seat v u)) other spent_seat)
  shared_join views id v other u at them unspent sh = record {
    all = let t = set_sum views id v (told_seat v u) at in let n = set_sum (set views id (told_seat v u)) other u spent_seat them in omega (arith, sh.all);
    each = each_set HasShare (set views id (told_seat v u)) other spent_seat (λ e. absurd (true≢false e)) (each_set HasShare views id (told_seat v u) (λ _. let p = sh.each id v at unspent in omega arith) sh.each);
  }

-- the two halves are the whole
pub halves : (share : ℕ) → half_kept share + half_given share ≡ share
halves share = omega arith

-- half of a share does for half of the passes that may come
pub half_lasts : (room asked share : ℕ) → asked < room → 2 ^ room ≤ share → (2 ^ (room - (asked + 1)) ≤ half_kept share) × (2 ^ asked ≤ half_given share) × (2 ≤ share)
half_lasts zero asked share lt le = absurd (omega arith)
half_lasts (suc k) asked share lt le =
    let twice : 2 ^ suc k ≡ 2 ^ k * 2 = pow-suc 2 k in
    let kept : 2 ^ (suc k - (asked + 1)) ≤ 2 ^ k = pow_mono (omega arith) in
    let given : 2 ^ asked ≤ 2 ^ k = pow_mono (omega arith) in
    let some_share = pow_pos k in
    (omega arith, omega arith, omega arith)

pub first_lasts : (passes : ℕ) → passes ≤ 4096 → 2 ^ (passes - 1) ≤ whole
unfolding whole
first_lasts passes le = pow_mono {i = passes - 1} {j = 4096} (omega arith)

module _ {T : Type 0} (content : T → Content) (follows : T → T → Type 0) (loan : T → Loan) (first : T) where
  abbrev SeatState : Type 0
  SeatState = Me (Option T) (Knows T)

  -- a step that changes no share keeps the whole rule
  pub keeping : (n id : ℕ) (m : SeatState) (i : ℕ) (f : ℕ → ℕ) (then : ℕ → SeatState → Type 0) → m.0.view.spent ≡ false → ((found : ℕ) (next : SeatState) → then found next → next.0.view.share ≡ m.0.view.share)
      → Allows (TurnRuled content follows loan first) n id m i f then → Allows (Ruled content follows loan first) n id m i f then
  keeping n id m i f then unspent same allows s r deep at small =
      let t = allows s r.turns deep at small in
      (t.0, t.1, t.2, record { turns = t.3; shares = shared_set s.views id m.0 t.0 at unspent (same _ _ t.4) r.shares }, t.4)

  taken_same : (m : SeatState) (st : _) (found : ℕ) (next : SeatState) → turn_taken content follows loan st m found next → next.0.view.share ≡ m.0.view.share
  taken_same m st found next t = dite (ℕ_discrete found 0) (λ e. ap (λ (n : SeatState). n.0.view.share) ((t.0 e).1.is)) (λ ne. ap (λ (n : SeatState). n.0.view.share) (t.1 ne))

  given_same : (v : Knows T) (slots : List (ℕ × Option T)) → (given_up content follows loan v slots).0.view.share ≡ v.view.share
  given_same v [] = refl
  given_same v ((k, None) ∷ more) = refl
  given_same v ((k, Some value) ∷ more) = refl

  pub allows_take : (n id : ℕ) (m : SeatState) → n ≡ 1 → IsReady m → Allows (Ruled content follows loan first) n id m 0 (λ k. either (eqb k 0) 1 k) (turn_taken content follows loan (step n 0 0 1 none) m)
  allows_take n id m one ready = keeping n id m 0 (λ k. either (eqb k 0) 1 k) (turn_taken content follows loan (step n 0 0 1 none) m) ready.1 (taken_same m (step n 0 0 1 none)) (takes_turn_at content follows loan first n id m one ready)

  pub allows_give_up : (n id : ℕ) (m : SeatState) (value : T) → n ≡ 1 → m.1 ≡ (0, Some value) ∷ [] → m.0.view.has_turn ≡ true → m.0.view.spent ≡ false → Extends m.0.view.seen (content value) → Follows follows m.0.log value → MayLend m.0.hold (loan_in loan m.0.log) (loan value)
      → Allows (Ruled content follows loan first) n id m 0 (λ _. 0) (turn_given_up content follows loan (step n 0 0 0 none) m)
  allows_give_up n id m value one slots turn unspent later stepped_on may =
      keeping n id m 0 (λ _. 0) (turn_given_up content follows loan (step n 0 0 0 none) m) unspent (λ found next t. ap (λ (x : SeatState). x.0.view.share) t ∙ given_same m.0 m.1) (leaves_at content follows loan first n id m value one slots turn later stepped_on may)

  pub allows_merge : (n id : ℕ) (m : SeatState) → n ≡ 1 → IsReady m → Allows (Ruled content follows loan first) n id m 0 (λ k. k) (told_merged content follows loan (step n 0 0 0 none) m)
  allows_merge n id m one ready = keeping n id m 0 (λ k. k) (told_merged content follows loan (step n 0 0 0 none) m) ready.1 (λ found next t. ap (λ (x : SeatState). x.0.view.share) t.is) (settles_at content follows loan first n id m one ready)

  pub allows_split : (id : ℕ) (v : Knows T) → v.view.has_turn ≡ false → v.view.spent ≡ false → 2 ≤ v.view.share → Splits (Ruled content follows loan first) id v (kept_of_split v) (given_of_split v)
  allows_split id v idle unspent two s r at = record { turns = splits content follows loan first id v idle unspent s r.turns at; shares = shared_split s.views id v at two r.shares }

  pub allows_join : (id : ℕ) (v : Knows T) (other : ℕ) (u : Knows T) → v.view.has_turn ≡ false → v.view.spent ≡ false → u.view.has_turn ≡ false → u.view.spent ≡ false → u.hold ≡ None → Joins (Ruled content follows loan first) id v other u (told_seat v u) spent_seat
  allows_join id v other u idle unspent idle' unspent' empty s r at apart them = record {
    turns = joins content follows loan first id v other u idle unspent idle' unspent' empty s r.turns at apart them;
    shares = shared_join s.views id v other u at them unspent r.shares;
  }

  pub allows_start : Ruled content follows loan first (opening (0 ∷ []) (Some first ∷ []) (knows (without_turn whole (content first) []) (first ∷ []) (loan first)))
  allows_start = record { turns = starts content follows loan first; shares = shared_first _ refl }

  pub closes_free : (id : ℕ) (v : Knows T) (ws : List ℕ) (xs : List (Option T)) (slot : Option T) → Final (Seen (Ruled content follows loan first) id v) ws xs → v.view.spent ≡ false
      → get_elem? ws 0 ≡ some 0 → get_elem? xs 0 ≡ some slot → (value : T) × (older : List T) × (slot ≡ Some value) × Extends v.view.seen (content value) × IsEnd v.log (value ∷ older) × Chain follows (value ∷ older) × HoldsIn (loan value) v.hold
  closes_free id v ws xs slot end = closes content follows loan first id v ws xs slot (end.0, (end.1.0.turns, end.1.1), end.2, end.3, end.4)

  -- a pass with the whole of the shares is the only one that isn't spent, so that the turn is free
  pub closes_whole : (id : ℕ) (v : Knows T) (ws : List ℕ) (xs : List (Option T)) (w : ℕ) → Final (Seen (Ruled content follows loan first) id v) ws xs → v.view.has_turn ≡ false → v.view.share ≡ whole → get_elem? ws 0 ≡ some w → w ≡ 0
  closes_whole id v ws xs w end idle all here =
      let s = end.0 in let r = end.1.0 in
      let is : get_or s.words 0 0 ≡ w = ap (λ l. get_or l 0 0) end.2 ∙ word_here content follows loan first ws w here in
      ⊎_elim (λ f. sym is ∙ f.word)
      (λ h. let apart : h.seat ≢ id = λ e. true≢false (sym h.turn.0 ∙ (ap (λ (u : Knows T). u.view.has_turn) (some-injective h.holder v (sym h.at ∙ (ap (λ i. get_elem? s.views i) e ∙ end.1.1))) ∙ idle)) in
      let some_share = r.shares.each h.seat h.holder h.at h.turn.1 in
      let both = two_sum s.views h.seat id h.holder v h.at end.1.1 apart in
      absurd (omega (arith, r.shares.all))) r.turns.state

  -- where a pass with the whole of the shares holds nothing, nothing is out of the value
  pub closes_home : (id : ℕ) (v : Knows T) (ws : List ℕ) (xs : List (Option T)) (value : T) → Final (Seen (Ruled content follows loan first) id v) ws xs → v.view.share ≡ whole → v.view.spent ≡ false → v.hold ≡ None
      → get_elem? ws 0 ≡ some 0 → get_elem? xs 0 ≡ some (Some value) → loan value ≡ None
  closes_home id v ws xs value end all unspent empty free there =
      let s = end.0 in let r = end.1.0 in
      let others : (j : ℕ) (k : Knows T) → get_elem? s.views j ≡ some k → j ≢ id → k.view.spent ≡ true = λ j k e ne. spent_is k.view.spent j k refl e ne in
      ⊎_elim (λ f. let is : value ≡ f.value = cc (some-injective (Some value) (Some f.value) (sym there ∙ end.4 0 (Some f.value) f.home)) in
      subst (λ (u : T). loan u ≡ None) (sym is) (none_lent (loan f.value) s.views id v end.1.1 empty others f.lent))
      (λ h. let none_free : get_or s.words 0 0 ≡ 0 = ap (λ l. get_or l 0 0) end.2 ∙ word_here content follows loan first ws 0 free in let word = h.word in absurd (omega arith)) r.turns.state
    where
      spent_is : (b : Bool) (j : ℕ) (k : Knows T) → k.view.spent ≡ b → get_elem? end.0.views j ≡ some k → j ≢ id → k.view.spent ≡ true
      spent_is true j k is e ne = is
      spent_is false j k is e ne =
          let some_share = end.1.0.shares.each j k e is in
          let both = two_sum end.0.views j id k v e end.1.1 ne in
          absurd (omega (arith, end.1.0.shares.all))

  -- of each table that keeps the rule there is such a log
  pub rule_tells : (s : State (Option T) (Knows T)) → Ruled content follows loan first s → (log : List T) × IsWholeLog content follows loan first s log
  rule_tells s r = ⊎_elim
      (λ f. (f.value ∷ f.older, record { from = f.from; chain = f.chain; ends = λ j k at unspent. (f.covers j k at unspent).seen_log; home = λ _. (f.value, f.home, record { older = f.older; is = refl }) }))
      (λ h. (h.holder.log, record { from = h.from; chain = h.chain; ends = λ j k at unspent. (h.covers j k at unspent).seen_log; home = λ free. let word = h.word in absurd (omega arith) })) r.turns.state
