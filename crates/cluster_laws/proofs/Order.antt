-- The places of last uses are others among the kept entries, but their order is the same.
use Rattle.std.proofs.Common.{◌≡◌, ℕ, suc, ◌≤◌, [], ◌∷◌, length, Bool, true, false, cond, refl, sym, ◌∙◌, arith}
use Rattle.std.specs.Prelude.{nat_lt}
use Rattle.std.proofs.lemmas.Bool.{lt-ltb, le-ltb}
use Rattle.cluster_types.specs.declared.entry.Input.TheVariants.{Open, Up, Down, In, Beat, Time}
use Rattle.cluster_types.specs.declared.entry.Entry.{Entry}
use Rattle.cluster_types.specs.declared.entry.Entry.TheVariants.{Input, Hand, Settle, Lose}
use Rattle.cluster_defs.specs.Facts.{Facts, event_on}
use Rattle.cluster_defs.specs.Scheduling.{is_kept}
use Rattle.cluster_defs.specs.Histories.{History, facts, kept}
use Rattle.cluster_defs.specs.Uses.{is_use, last_use}
use Rattle.cluster_laws.proofs.Kept.{kept_facts, still_from}

within : (b : Bool) (x n : ℕ) → x ≤ n → cond b (suc n) x ≤ suc n
within true x n le = omega arith
within false x n le = omega arith

pub last_use_within : (h : History) (m : ℕ) → last_use h m ≤ length h
last_use_within [] m = omega arith
last_use_within (e ∷ older) m = within (is_use (facts older) e m) (last_use older m) (length older) (last_use_within older m)

order_step : (a b : Bool) (x y n x' y' n' : ℕ) → x ≤ n → y ≤ n → x' ≤ n' → y' ≤ n' → nat_lt x' y' ≡ nat_lt x y → nat_lt (cond a (suc n') x') (cond b (suc n') y') ≡ nat_lt (cond a (suc n) x) (cond b (suc n) y)
order_step true true x y n x' y' n' p q p' q' same = le-ltb (suc n') (suc n') (omega arith) ∙ sym (le-ltb (suc n) (suc n) (omega arith))
order_step true false x y n x' y' n' p q p' q' same = le-ltb (suc n') y' (omega arith) ∙ sym (le-ltb (suc n) y (omega arith))
order_step false true x y n x' y' n' p q p' q' same = lt-ltb x' (suc n') (omega arith) ∙ sym (lt-ltb x (suc n) (omega arith))
order_step false false x y n x' y' n' p q p' q' same = same

-- an entry that isn't kept is no use
no_use : (f : Facts) (e : Entry) (m : ℕ) → is_kept f e ≡ false → is_use f e m ≡ false
no_use f (Input (In conn moment word message)) m h = let still = still_from f conn message (event_on f conn message) h in rw still.no_join refl
no_use f (Input (Open moment scheme hwm misses)) m h = refl
no_use f (Input (Up conn channel moment word identity)) m h = refl
no_use f (Input (Down conn moment word)) m h = refl
no_use f (Input (Beat moment word)) m h = refl
no_use f (Input (Time moment word)) m h = refl
no_use f (Hand id n) m h = cc
no_use f (Settle id v c) m h = refl
no_use f (Lose n) m h = refl

pub kept_order : (h : History) (a b : ℕ) → nat_lt (last_use (kept h) a) (last_use (kept h) b) ≡ nat_lt (last_use h a) (last_use h b)
kept_order [] a b = refl
kept_order (e ∷ older) a b =
    elim (is_kept (facts older) e) as (λ k. is_kept (facts older) e ≡ k → nat_lt (last_use (cond k (e ∷ kept older) (kept older)) a) (last_use (cond k (e ∷ kept older) (kept older)) b) ≡ nat_lt (last_use (e ∷ older) a) (last_use (e ∷ older) b)) [
      | true ↦ λ _. rw (kept_facts older) (order_step (is_use (facts older) e a) (is_use (facts older) e b) (last_use older a) (last_use older b) (length older) (last_use (kept older) a) (last_use (kept older) b) (length (kept older))
          (last_use_within older a) (last_use_within older b) (last_use_within (kept older) a) (last_use_within (kept older) b) (kept_order older a b))
      | false ↦ λ off. rw (no_use (facts older) e a off, no_use (facts older) e b off) (kept_order older a b)
    ] refl
