-- What is out of a value, and who holds it, through each step of the passes.
use Rattle.std.proofs.Common.{◌≡◌, ◌≢◌, ℕ, zero, suc, List, [], ◌∷◌, ◌++◌, true, false, set, Option, Some, None, ⊎_elim, refl, ap, sym, ◌∙◌, subst, true≢false}
use Rattle.std.specs.Prelude.{is_some}
use mathlib.Core.Logic.{dite}
use mathlib.Core.Option.{some, some-injective, some-ne-none}
use native.Mathlib.Decide.{ℕ_discrete}
use lib.ListN.{get_elem?}
use Rattle.atomic_table.proofs.Lists.{at_set, set_else, at_longer, at_snoc}
use Rattle.history_lock.specs.declared.known.Knows.{Knows}
use Rattle.history_lock.specs.Loans.{Loan, loan_in, HoldsIn, MayLend, hold_after}
use Rattle.history_lock.specs.Log.{StartsAt}
use Rattle.history_lock.specs.Rule.{Lent}
use Rattle.history_lock.proofs.Lists.{set_at, each_snoc}

holds_self : (x : Loan) → HoldsIn x x
holds_self None = tt
holds_self (Some x) = refl

unheld : (h : Loan) → (is_some h ≡ true → ⊥) → h ≡ None
unheld None f = refl
unheld (Some x) f = absurd (f refl)

none_out : (h : Loan) → HoldsIn None h → h ≡ None
none_out None p = refl
none_out (Some x) p = absurd (cc p)

held_none : (h : Loan) → h ≡ None → is_some h ≡ true → ⊥
held_none h is some_h = true≢false (sym some_h ∙ ap is_some is)

module _ {T : Type 0} where
  -- what stood in place of a view that holds the same
  before_set : (views : List (Knows T)) (id : ℕ) (v w : Knows T) → get_elem? views id ≡ some v → w.hold ≡ v.hold → (j : ℕ) (k : Knows T) → get_elem? (set views id w) j ≡ some k
      → (l : Knows T) × (get_elem? views j ≡ some l) × (l.hold ≡ k.hold)
  before_set views id v w at same j k e = ⊎_elim
      (λ t. (v, ap (λ i. get_elem? views i) t.0 ∙ at, sym same ∙ ap (λ (u : Knows T). u.hold) t.1))
      (λ t. (k, t.1, refl)) (at_set views id j w k e)

  -- a pass that holds what it held
  pub lent_same : (out : Loan) (views : List (Knows T)) (id : ℕ) (v w : Knows T) → get_elem? views id ≡ some v → w.hold ≡ v.hold → (is_some w.hold ≡ true → w.view.spent ≡ false) → Lent out views → Lent out (set views id w)
  lent_same out views id v w at same live t = record {
    holds = λ j k e. let b = before_set views id v w at same j k e in subst (HoldsIn out) b.2 (t.holds j b.0 b.1);
    one = λ i j k l p q some_k some_l. let a = before_set views id v w at same i k p in let b = before_set views id v w at same j l q in t.one i j a.0 b.0 a.1 b.1 (ap is_some a.2 ∙ some_k) (ap is_some b.2 ∙ some_l);
    held = λ some_out. let h = t.held some_out in dite (ℕ_discrete h.0 id)
        (λ e. let is : v ≡ h.1 = some-injective v h.1 (sym at ∙ (ap (λ i. get_elem? views i) (sym e) ∙ h.2)) in
        let mine : w.hold ≡ out = same ∙ (ap (λ (u : Knows T). u.hold) is ∙ h.4) in
        (id, w, set_at views id v w at, live (ap is_some mine ∙ some_out), mine))
        (λ ne. (h.0, h.1, set_else views id h.0 w ne ∙ h.2, h.3, h.4));
  }

  -- a further pass, which holds nothing
  pub lent_more : (out : Loan) (views : List (Knows T)) (w : Knows T) → w.hold ≡ None → Lent out views → Lent out (views ++ w ∷ [])
  lent_more out views w empty t = record {
    holds = each_snoc (λ k. HoldsIn out k.hold) views w (subst (HoldsIn out) (sym empty) tt) t.holds;
    one = λ i j k l p q some_k some_l. ⊎_elim
        (λ a. ⊎_elim (λ b. t.one i j k l a b some_k some_l) (λ b. absurd (held_none l.hold (ap (λ (u : Knows T). u.hold) (sym b) ∙ empty) some_l)) (at_snoc views w l j q))
        (λ a. absurd (held_none k.hold (ap (λ (u : Knows T). u.hold) (sym a) ∙ empty) some_k)) (at_snoc views w k i p);
    held = λ some_out. let h = t.held some_out in (h.0, h.1, at_longer views (w ∷ []) h.0 h.1 h.2, h.3, h.4);
  }

  -- a pass that holds all that is out, where no other holds any
  alone : (after : Loan) (views : List (Knows T)) (id : ℕ) (v w : Knows T) → get_elem? views id ≡ some v → w.view.spent ≡ false
      → ((j : ℕ) (k : Knows T) → get_elem? views j ≡ some k → j ≢ id → k.hold ≡ None) → w.hold ≡ after → Lent after (set views id w)
  alone after views id v w at live others mine = record {
    holds = λ j k e. ⊎_elim (λ t. subst (HoldsIn after) (sym mine ∙ ap (λ (u : Knows T). u.hold) t.1) (holds_self after)) (λ t. subst (HoldsIn after) (sym (others j k t.1 t.0)) tt) (at_set views id j w k e);
    one = λ i j k l p q some_k some_l. mine_at i k p some_k ∙ sym (mine_at j l q some_l);
    held = λ _. (id, w, set_at views id v w at, live, mine);
  }
    where
      mine_at : (i : ℕ) (k : Knows T) → get_elem? (set views id w) i ≡ some k → is_some k.hold ≡ true → i ≡ id
      mine_at i k p some_k = ⊎_elim (λ t. t.0) (λ t. absurd (held_none k.hold (others i k t.1 t.0) some_k)) (at_set views id i w k p)

  -- a pass that leaves
  pub lent_moved : (out after : Loan) (views : List (Knows T)) (id : ℕ) (v w : Knows T) → get_elem? views id ≡ some v → w.view.spent ≡ false → MayLend v.hold out after → w.hold ≡ hold_after v.hold out after → Lent out views → Lent after (set views id w)
  lent_moved out after views id v w at live may is t = by_hold v.hold out refl refl
    where
      by_hold : (h o : Loan) → v.hold ≡ h → out ≡ o → Lent after (set views id w)
      by_hold (Some x) o h_is o_is = alone after views id v w at live (λ j k e ne. unheld k.hold (λ some_k. ne (t.one j id k v e at some_k (ap is_some h_is)))) (is ∙ ap (λ (h : Loan). hold_after h out after) h_is)
      by_hold None None h_is o_is = alone after views id v w at live (λ j k e ne. none_out k.hold (subst (λ (o : Loan). HoldsIn o k.hold) o_is (t.holds j k e)))
          (is ∙ (ap (λ (h : Loan). hold_after h out after) h_is ∙ ap (λ (o : Loan). hold_after None o after) o_is))
      by_hold None (Some x) h_is o_is =
          let stays : after ≡ Some x = subst (λ (o : Loan). MayLend None o after) o_is (subst (λ (h : Loan). MayLend h out after) h_is may) in
          let same : w.hold ≡ v.hold = is ∙ (ap (λ (h : Loan). hold_after h out after) h_is ∙ (ap (λ (o : Loan). hold_after None o after) o_is ∙ sym h_is)) in
          subst (λ (o : Loan). Lent o (set views id w)) (o_is ∙ sym stays) (lent_same out views id v w at same (λ _. live) t)

  -- the first pass
  pub lent_first : (out : Loan) (w : Knows T) → w.view.spent ≡ false → w.hold ≡ out → Lent out (w ∷ [])
  lent_first out w live is = record {
    holds = each_snoc (λ k. HoldsIn out k.hold) [] w (subst (HoldsIn out) (sym is) (holds_self out)) (λ j k e. absurd (some-ne-none k (sym e)));
    one = λ i j k l p q some_k some_l. at_first i k p ∙ sym (at_first j l q);
    held = λ _. (0, w, refl, live, is);
  }
    where
      at_first : (i : ℕ) (k : Knows T) → get_elem? (w ∷ []) i ≡ some k → i ≡ 0
      at_first zero k e = refl
      at_first (suc i) k e = absurd (some-ne-none k (sym e))

  -- where each other pass is spent, and this one holds nothing, nothing is out
  pub none_lent : (out : Loan) (views : List (Knows T)) (id : ℕ) (v : Knows T) → get_elem? views id ≡ some v → v.hold ≡ None → ((j : ℕ) (k : Knows T) → get_elem? views j ≡ some k → j ≢ id → k.view.spent ≡ true) → Lent out views → out ≡ None
  none_lent out views id v at empty others t = unheld out (λ some_out. let h = t.held some_out in dite (ℕ_discrete h.0 id)
      (λ e. let is : v ≡ h.1 = some-injective v h.1 (sym at ∙ (ap (λ i. get_elem? views i) (sym e) ∙ h.2)) in held_none out (sym h.4 ∙ (ap (λ (u : Knows T). u.hold) (sym is) ∙ empty)) some_out)
      (λ ne. true≢false (sym (others h.0 h.1 h.2 ne) ∙ h.3)))

  -- what is out of the newest value
  pub loan_is : (loan : T → Loan) (value : T) (log : List T) → StartsAt value log → loan_in loan log ≡ loan value
  loan_is loan value log starts = ap (loan_in loan) starts.is

-- FOR CALLS THAT LEAVE OUT WHAT IS OUT

pub may_leave : (hold before after : Loan) → after ≡ before → MayLend hold before after
may_leave None None after same = tt
may_leave None (Some x) after same = same
may_leave (Some x) before after same = tt

pub still_empty : (hold before after : Loan) → hold ≡ None → after ≡ before → hold_after hold before after ≡ None
still_empty None None after empty same = same
still_empty None (Some x) after empty same = refl
still_empty (Some x) before after empty same = absurd (cc empty)
