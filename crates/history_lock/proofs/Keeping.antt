-- Each step of the lock keeps its rule.
use Rattle.std.proofs.Common.{◌≡◌, ◌≢◌, ℕ, zero, suc, List, [], ◌∷◌, ◌++◌, true, false, length, get_or, set, eqb, Option, Some, inl, inr, ⊎_elim, refl, ap, sym, ◌∙◌, subst, arith, length-set, get_or-set_same, true≢false}
use Rattle.std.specs.Prelude.{is_some, None}
use mathlib.Core.Logic.{dite}
use mathlib.Core.Option.{some, none, some-injective, some-ne-none}
use native.Mathlib.Decide.{ℕ_discrete}
use lib.ListN.{get_elem?}
use prog.Atomic.{either}
use Rattle.atomic_table.specs.Table.{State, Me, Act, step, keeps, takes, gives, Valid, carried_after, stepped, opening, Allows, Splits, Joins, Final, Seen}
use Rattle.atomic_table.proofs.Lists.{at_set, set_here, set_else, at_longer, at_snoc}
use Rattle.history_lock.specs.declared.known.Content.{Content}
use Rattle.history_lock.specs.declared.known.Knows.{Knows}
use Rattle.history_lock.specs.History.{Extends, merged}
use Rattle.history_lock.specs.Log.{IsEnd, Chain, Follows, longer_log}
use Rattle.history_lock.specs.Rule.{without_turn, with_turn, knows, kept_of_split, given_of_split, told_seat, spent_seat, added_by, Covered, Covers, Placed, Lent, TurnRuled, whole, turn_taken, turn_given_up, told_merged}
use Rattle.history_lock.specs.Loans.{Loan, loan_in, HoldsIn, MayLend, hold_after}
use Rattle.history_lock.specs.Slots.{IsReady}
use Rattle.history_lock.proofs.Lists.{set_at, each_set, each_snoc}
use Rattle.history_lock.proofs.Lending.{lent_same, lent_more, lent_moved, lent_first}
use Rattle.history_lock.proofs.Places.{stand_later, placed_more}
use Rattle.history_lock.proofs.Growing.{extends_self, extends_on, merges}
use Rattle.history_lock.proofs.Logs.{end_self, end_on, end_more, longer_ends, chain_one, chain_more}

module _ {T : Type 0} where
  pub covered_self : (c : Content) (log : List T) (k : Knows T) → k.view.seen ≡ c → k.view.told ≡ c → k.log ≡ log → k.told ≡ log → Covered c log k
  covered_self c log k a b d e = record { seen = subst (λ x. Extends x c) (sym a) (extends_self c); told = subst (λ x. Extends x c) (sym b) (extends_self c); seen_log = subst (λ l. IsEnd l log) (sym d) (end_self log); told_log = subst (λ l. IsEnd l log) (sym e) (end_self log) }

  pub covered_on : (c d : Content) (log more : List T) (k : Knows T) → Extends c d → IsEnd log more → Covered c log k → Covered d more k
  covered_on c d log more k p q t = record { seen = extends_on _ _ _ t.seen p; told = extends_on _ _ _ t.told p; seen_log = end_on _ _ _ t.seen_log q; told_log = end_on _ _ _ t.told_log q }

module _ {T : Type 0} (content : T → Content) (follows : T → T → Type 0) (loan : T → Loan) (first : T) where
  abbrev St : Type 0
  St = State (Option T) (Knows T)

  abbrev Rule : St → Type 0
  Rule = TurnRuled content follows loan first

  abbrev SeatState : Type 0
  SeatState = Me (Option T) (Knows T)

  abbrev All : Content → List T → St → Type 0
  All c log s = (j : ℕ) (v : Knows T) → get_elem? s.views j ≡ some v → Covers c log v

  -- some content extends what each pass has seen
  cover : (s : St) → Rule s → (c : Content) × (log : List T) × All c log s
  cover s r = ⊎_elim (λ f. (content f.value, f.value ∷ f.older, f.covers)) (λ h. (h.holder.view.seen, h.holder.log, h.covers)) r.state

  -- a pass without the turn changes what it knows
  unturned : (s : St) → Rule s → (ws : List ℕ) (id : ℕ) (v w : Knows T) → get_or ws 0 0 ≡ get_or s.words 0 0 → length ws ≡ 1 → get_elem? s.views id ≡ some v → v.view.has_turn ≡ false → w.view.has_turn ≡ false → Placed w
      → w.hold ≡ v.hold → (is_some w.hold ≡ true → w.view.spent ≡ false) → ((c : Content) (log : List T) → All c log s → Covers c log w) → Rule record { words = ws; homes = s.homes; views = set s.views id w }
  unturned s r ws id v w same long at was now placed hold live covers = record {
    one_word = long;
    one_slot = r.one_slot;
    state = ⊎_elim (λ f. inl record {
      word = same ∙ f.word;
      value = f.value;
      older = f.older;
      home = f.home;
      from = f.from;
      chain = f.chain;
      covers = each_set (Covers (content f.value) (f.value ∷ f.older)) s.views id w (covers _ _ f.covers) f.covers;
      no_turn = each_set (λ u. u.view.has_turn ≡ false) s.views id w now f.no_turn;
      lent = lent_same (loan f.value) s.views id v w at hold live f.lent;
    })
        (λ h. let other : h.seat ≢ id = λ e. true≢false (sym h.turn.0 ∙ (ap (λ (u : Knows T). u.view.has_turn) (some-injective h.holder v (sym h.at ∙ (ap (λ i. get_elem? s.views i) e ∙ at))) ∙ was)) in inr record {
          word = same ∙ h.word;
          seat = h.seat;
          holder = h.holder;
          at = set_else s.views id h.seat w other ∙ h.at;
          turn = h.turn;
          away = h.away;
          from = h.from;
          chain = h.chain;
          covers = each_set (Covers h.holder.view.seen h.holder.log) s.views id w (covers _ _ h.covers) h.covers;
          no_turn = λ j u e ne. ⊎_elim (λ t. ap (λ (x : Knows T). x.view.has_turn) (sym t.1) ∙ now) (λ t. h.no_turn j u t.1 ne) (at_set s.views id j w u e);
          lent = lent_same (loan_in loan h.holder.log) s.views id v w at hold live h.lent;
        }) r.state;
    places = each_set Placed s.views id w placed r.places;
  }

  pub starts : Rule (opening (0 ∷ []) (Some first ∷ []) (knows (without_turn whole (content first) []) (first ∷ []) (loan first)))
  starts = record {
    one_word = refl;
    one_slot = refl;
    state = inl record {
      word = refl;
      value = first;
      older = [];
      home = refl;
      from = end_self _;
      chain = chain_one follows first;
      covers = each_snoc (Covers (content first) (first ∷ [])) [] _ (λ _. covered_self _ _ _ refl refl refl refl) (λ j v e. absurd (some-ne-none v (sym e)));
      no_turn = each_snoc (λ v. v.view.has_turn ≡ false) [] _ refl (λ j v e. absurd (some-ne-none v (sym e)));
      lent = lent_first (loan first) _ refl refl;
    };
    places = each_snoc Placed [] _ (refl, refl) (λ j v e. absurd (some-ne-none v (sym e)));
  }

  abbrev Goes : St → ℕ → SeatState → (ℕ → ℕ) → (ℕ → SeatState → Type 0) → ℕ → Type 0
  Goes s id m f then k = (w : Knows T) × (a : Act (Option T)) × Valid s.homes m.1 a × Rule (stepped s 0 (f k) id m.1 w a) × then k (w, carried_after m.1 a)

  pub takes_turn : (id : ℕ) (v : Knows T) → v.view.spent ≡ false → v.view.has_turn ≡ false
      → Allows Rule 1 id (v, []) 0 (λ k. either (eqb k 0) 1 k) (turn_taken content follows loan (step 1 0 0 1 none) (v, []))
  takes_turn id v unspent idle s r _ at _ = let one = r.one_word in let deep = r.one_slot in let G = Goes s id (v, []) (λ k. either (eqb k 0) 1 k) (turn_taken content follows loan (step 1 0 0 1 none) (v, [])) in
      ⊎_elim (λ f. subst G (sym f.word) (let w : Knows T = knows (with_turn v.view.share (content f.value) v.view.added) (f.value ∷ f.older) v.hold in (
        w,
        takes 0 (Some f.value),
        f.home,
        record {
          one_word = length-set s.words 0 1 ∙ one;
          one_slot = length-set s.homes 0 none ∙ deep;
          state = inr record {
            word = get_or-set_same s.words 0 1 0 (omega arith);
            seat = id;
            holder = w;
            at = set_at s.views id v w at;
            turn = (refl, refl);
            away = set_here s.homes 0 none (omega arith);
            from = f.from;
            chain = f.chain;
            covers = each_set (Covers w.view.seen w.log) s.views id w (λ _. covered_self _ _ _ refl refl refl refl) f.covers;
            no_turn = λ j u e ne. ⊎_elim (λ t. absurd (ne t.0)) (λ t. f.no_turn j u t.1) (at_set s.views id j w u e);
            lent = lent_same (loan f.value) s.views id v w at refl (λ _. refl) f.lent;
          };
          places = let p = r.places id v at in each_set Placed s.views id w (stand_later v.view.seen (content f.value) v.view.added (f.covers id v at unspent).seen p.0, p.1) r.places;
        },
        ((λ _. (f.value, record { older = f.older; is = refl; later = (f.covers id v at unspent).seen; log = (f.covers id v at unspent).seen_log; chain = f.chain; holds = f.lent.holds id v at })), λ ne. absurd (ne refl)),
      )))
      (λ h. subst G (sym h.word) (
        v,
        keeps,
        tt,
        unturned s r (set s.words 0 1) id v v (get_or-set_same s.words 0 1 0 (omega arith) ∙ sym h.word) (length-set s.words 0 1 ∙ one) at idle idle (r.places id v at) refl (λ _. unspent) (λ c log all. all id v at),
        ((λ e. absurd (omega arith)), λ _. refl),
      )) r.state

  pub leaves : (id : ℕ) (v : Knows T) (value : T) → v.view.has_turn ≡ true → Extends v.view.seen (content value) → Follows follows v.log value → MayLend v.hold (loan_in loan v.log) (loan value)
      → Allows Rule 1 id (v, (0, Some value) ∷ []) 0 (λ _. 0) (turn_given_up content follows loan (step 1 0 0 0 none) (v, (0, Some value) ∷ []))
  leaves id v value turn later stepped_on may s r _ at _ = let one = r.one_word in let deep = r.one_slot in let w : Knows T = knows (without_turn v.view.share (content value) (added_by v.view (content value).list)) (value ∷ v.log) (hold_after v.hold (loan_in loan v.log) (loan value)) in
      ⊎_elim (λ f. absurd (true≢false (sym turn ∙ f.no_turn id v at)))
      (λ h. dite (ℕ_discrete id h.seat) (λ e.
      let same : h.holder ≡ v = some-injective h.holder v (sym h.at ∙ (ap (λ i. get_elem? s.views i) (sym e) ∙ at)) in
      let on : Extends h.holder.view.seen (content value) = subst (λ (u : Knows T). Extends u.view.seen (content value)) (sym same) later in
      let logs : IsEnd h.holder.log (value ∷ v.log) = subst (λ (u : Knows T). IsEnd u.log (value ∷ v.log)) (sym same) (end_more value v.log) in (
        w,
        gives,
        tt,
        record {
          one_word = length-set s.words 0 0 ∙ one;
          one_slot = length-set s.homes 0 (some (Some value)) ∙ deep;
          state = inl record {
            word = get_or-set_same s.words 0 0 0 (omega arith);
            value = value;
            older = v.log;
            home = set_here s.homes 0 (some (Some value)) (omega arith);
            from = end_on _ _ _ h.from logs;
            chain = chain_more follows v.log value stepped_on (subst (λ (u : Knows T). Chain follows u.log) same h.chain);
            covers = each_set (Covers (content value) (value ∷ v.log)) s.views id w (λ _. covered_self _ _ _ refl refl refl refl)
                (λ j u e un. covered_on _ _ _ _ u on logs (h.covers j u e un));
            no_turn = λ j u e'. ⊎_elim (λ t. ap (λ (x : Knows T). x.view.has_turn) (sym t.1)) (λ t. h.no_turn j u t.1 (λ z. t.0 (z ∙ sym e))) (at_set s.views id j w u e');
            lent = lent_moved (loan_in loan v.log) (loan value) s.views id v w at refl may refl (subst (λ (u : Knows T). Lent (loan_in loan u.log) s.views) same h.lent);
          };
          places = let p = r.places id v at in each_set Placed s.views id w (placed_more v.view.seen (content value) v.view.added later p.0 p.1) r.places;
        },
        refl,
      )) (λ ne. absurd (true≢false (sym turn ∙ h.no_turn id v at ne)))) r.state

  pub splits : (id : ℕ) (v : Knows T) → v.view.has_turn ≡ false → v.view.spent ≡ false → Splits Rule id v (kept_of_split v) (given_of_split v)
  splits id v idle unspent s r at = let w : Knows T = given_of_split v in let q = unturned s r s.words id v (kept_of_split v) refl r.one_word at idle idle (r.places id v at) refl (λ _. unspent) (λ c log all un. let t = all id v at un in record { seen = t.seen; told = t.told; seen_log = t.seen_log; told_log = t.told_log }) in let vs : List (Knows T) = set s.views id (kept_of_split v) in
      let mine : (c : Content) (log : List T) → All c log (record { words = s.words; homes = s.homes; views = vs }) → Covers c log w = λ c log all _. let t = all id (kept_of_split v) (set_at s.views id v (kept_of_split v) at) unspent in record { seen = t.seen; told = t.seen; seen_log = t.seen_log; told_log = t.seen_log } in record {
        one_word = q.one_word;
        one_slot = q.one_slot;
        state = ⊎_elim (λ f. inl record {
          word = f.word;
          value = f.value;
          older = f.older;
          home = f.home;
          from = f.from;
          chain = f.chain;
          covers = each_snoc (Covers (content f.value) (f.value ∷ f.older)) vs w (mine _ _ f.covers) f.covers;
          no_turn = each_snoc (λ u. u.view.has_turn ≡ false) vs w refl f.no_turn;
          lent = lent_more (loan f.value) vs w refl f.lent;
        })
            (λ h. inr record {
              word = h.word;
              seat = h.seat;
              holder = h.holder;
              at = at_longer vs (w ∷ []) h.seat h.holder h.at;
              turn = h.turn;
              away = h.away;
              from = h.from;
              chain = h.chain;
              covers = each_snoc (Covers h.holder.view.seen h.holder.log) vs w (mine _ _ h.covers) h.covers;
              no_turn = λ j u e ne. ⊎_elim (λ t. h.no_turn j u t ne) (λ t. ap (λ (x : Knows T). x.view.has_turn) (sym t)) (at_snoc vs w u j e);
              lent = lent_more (loan_in loan h.holder.log) vs w refl h.lent;
            }) q.state;
        places = each_snoc Placed vs w (refl, refl) q.places;
      }

  pub joins : (id : ℕ) (v : Knows T) (other : ℕ) (u : Knows T) → v.view.has_turn ≡ false → v.view.spent ≡ false → u.view.has_turn ≡ false → u.view.spent ≡ false → u.hold ≡ None → Joins Rule id v other u (told_seat v u) spent_seat
  joins id v other u idle unspent idle' unspent' empty s r at apart them =
      let there : get_elem? s.views other ≡ some u = sym (set_else s.views id other (told_seat v u) apart) ∙ them in
      let q = unturned s r s.words id v (told_seat v u) refl r.one_word at idle idle (r.places id v at) refl (λ _. unspent) (λ c log all _. record { seen = (all id v at unspent).seen; told = (all other u there unspent').seen; seen_log = (all id v at unspent).seen_log; told_log = (all other u there unspent').seen_log }) in
      unturned _ q s.words other u spent_seat refl r.one_word them idle' refl (refl, refl) (sym empty) (λ e. absurd (true≢false (sym e))) (λ c log all e. absurd (true≢false e))

  pub settles : (id : ℕ) (v : Knows T) → v.view.has_turn ≡ false → v.view.spent ≡ false → Allows Rule 1 id (v, []) 0 (λ k. k) (told_merged content follows loan (step 1 0 0 0 none) (v, []))
  settles id v idle unspent s r _ at _ = let one = r.one_word in let w : Knows T = knows (without_turn v.view.share (merged v.view.seen v.view.told) v.view.added) (longer_log v.log v.told) v.hold in let x : ℕ = get_or s.words 0 0 in
      let c = cover s r in let t = c.2 id v at unspent in let m = merges v.view.seen v.view.told c.0 t.seen t.told in let l = longer_ends v.log v.told c.1 t.seen_log t.told_log in (
        w,
        keeps,
        tt,
        unturned s r (set s.words 0 x) id v w (get_or-set_same s.words 0 x 0 (omega arith)) (length-set s.words 0 x ∙ one) at idle refl (let p = r.places id v at in (stand_later v.view.seen w.view.seen v.view.added m.0 p.0, p.1)) refl (λ _. refl)
            (λ c log all _. let t = all id v at unspent in let n = merges v.view.seen v.view.told c t.seen t.told in let k = longer_ends v.log v.told log t.seen_log t.told_log in record { seen = n.2; told = n.2; seen_log = k.2; told_log = k.2 }),
        record { is = refl; seen = m.0; told = m.1; seen_log = l.0; told_log = l.1 },
      )

  -- the same, of a seat as a call finds it
  pub takes_turn_at : (n id : ℕ) (m : SeatState) → n ≡ 1 → IsReady m → Allows Rule n id m 0 (λ k. either (eqb k 0) 1 k) (turn_taken content follows loan (step n 0 0 1 none) m)
  takes_turn_at n id m one ready = subst (λ n. Allows Rule n id m 0 (λ k. either (eqb k 0) 1 k) (turn_taken content follows loan (step n 0 0 1 none) m)) (sym one)
      (subst (λ held. Allows Rule 1 id (m.0, held) 0 (λ k. either (eqb k 0) 1 k) (turn_taken content follows loan (step 1 0 0 1 none) (m.0, held))) (sym ready.2) (takes_turn id m.0 ready.1 ready.0))

  pub leaves_at : (n id : ℕ) (m : SeatState) (value : T) → n ≡ 1 → m.1 ≡ (0, Some value) ∷ [] → m.0.view.has_turn ≡ true → Extends m.0.view.seen (content value) → Follows follows m.0.log value → MayLend m.0.hold (loan_in loan m.0.log) (loan value)
      → Allows Rule n id m 0 (λ _. 0) (turn_given_up content follows loan (step n 0 0 0 none) m)
  leaves_at n id m value one hand turn later stepped_on may = subst (λ n. Allows Rule n id m 0 (λ _. 0) (turn_given_up content follows loan (step n 0 0 0 none) m)) (sym one)
      (subst (λ held. Allows Rule 1 id (m.0, held) 0 (λ _. 0) (turn_given_up content follows loan (step 1 0 0 0 none) (m.0, held))) (sym hand) (leaves id m.0 value turn later stepped_on may))

  pub settles_at : (n id : ℕ) (m : SeatState) → n ≡ 1 → IsReady m → Allows Rule n id m 0 (λ k. k) (told_merged content follows loan (step n 0 0 0 none) m)
  settles_at n id m one ready = subst (λ n. Allows Rule n id m 0 (λ k. k) (told_merged content follows loan (step n 0 0 0 none) m)) (sym one)
      (subst (λ held. Allows Rule 1 id (m.0, held) 0 (λ k. k) (told_merged content follows loan (step 1 0 0 0 none) (m.0, held))) (sym ready.2) (settles id m.0 ready.0 ready.1))

  pub word_here : (ws : List ℕ) (w : ℕ) → get_elem? ws 0 ≡ some w → get_or ws 0 0 ≡ w
  word_here [] w e = absurd (some-ne-none w (sym e))
  word_here (x ∷ ws) w e = some-injective x w e

  -- where the turn is free at the end, the value is there, and extends what the last pass had seen
  pub closes : (id : ℕ) (v : Knows T) (ws : List ℕ) (xs : List (Option T)) (slot : Option T) → Final (Seen Rule id v) ws xs → v.view.spent ≡ false
      → get_elem? ws 0 ≡ some 0 → get_elem? xs 0 ≡ some slot → (value : T) × (older : List T) × (slot ≡ Some value) × Extends v.view.seen (content value) × IsEnd v.log (value ∷ older) × Chain follows (value ∷ older) × HoldsIn (loan value) v.hold
  closes id v ws xs slot end unspent free there = let s = end.0 in let r = end.1.0 in
      ⊎_elim (λ f. (f.value, f.older, sym (some-injective (Some f.value) slot (sym (end.4 0 (Some f.value) f.home) ∙ there)), (f.covers id v end.1.1 unspent).seen, (f.covers id v end.1.1 unspent).seen_log, f.chain, f.lent.holds id v end.1.1))
      (λ h. let none_free : get_or s.words 0 0 ≡ 0 = ap (λ l. get_or l 0 0) end.2 ∙ word_here ws 0 free in let word = h.word in absurd (omega arith)) r.state
