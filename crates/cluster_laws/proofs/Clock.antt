-- Beats and the time.
use Rattle.std.proofs.Common.{◌≡◌, ⊎_elim, ℕ, ◌≤◌, List, [], ◌∷◌, length, Bool, true, false, refl, sym, subst, arith}
use Rattle.std.specs.Prelude.{◌==◌, max, filter, filter_map, ◌||◌}
use Rattle.std.specs.List.{list_any, AllByRecursion as Each}
use Rattle.std.proofs.lemmas.Bool.{or_left, eq-eqb, cases_lt, or_right}
use Rattle.cluster_types.specs.declared.entry.Input.TheVariants.{Open, Up, Down, In, Beat, Time}
use Rattle.cluster_types.specs.declared.entry.Entry.TheVariants.{Input, Hand, Settle, Lose}
use Rattle.cluster_defs.specs.Histories.{History, facts}
use Rattle.cluster_laws.specs.Counts.{since_open, is_beat, told_moment, IsGreatest}

pub beats_are_counted : (history : History) → (facts history).beats ≡ length (filter is_beat (since_open history))
beats_are_counted [] = refl
beats_are_counted (Input (Open moment scheme hwm misses) ∷ older) = refl
beats_are_counted (Input (Up conn channel moment word identity) ∷ older) = beats_are_counted older
beats_are_counted (Input (Down conn moment word) ∷ older) = beats_are_counted older
beats_are_counted (Input (In conn moment word m) ∷ older) = beats_are_counted older
beats_are_counted (Input (Beat moment word) ∷ older) = let before = beats_are_counted older in omega (arith, before)
beats_are_counted (Input (Time moment word) ∷ older) = beats_are_counted older
beats_are_counted (Hand id n ∷ older) = beats_are_counted older
beats_are_counted (Settle id v c ∷ older) = beats_are_counted older
beats_are_counted (Lose n ∷ older) = beats_are_counted older

none_more : (a b : ℕ) (numbers : List ℕ) → a ≤ b → Each (λ m. m ≤ a) numbers → Each (λ m. m ≤ b) numbers
none_more a b [] le all = tt
none_more a b (n ∷ numbers) le all = (let first = all.0 in omega (arith, le, first), none_more a b numbers le all.1)

skipped : (a b c : Bool) → (a || c) ≡ true → (a || (b || c)) ≡ true
skipped true b c one = refl
skipped false b c one = or_right b c one

-- one number more, where the greater one is taken
greater : (old n : ℕ) (numbers : List ℕ) → IsGreatest old (0 ∷ numbers) → IsGreatest (max old n) (0 ∷ n ∷ numbers)
greater old n numbers g = ⊎_elim (λ lt. upper (omega (arith, lt))) (λ ge. lower ge) (cases_lt old n)
  where
    upper : old ≤ n → IsGreatest (max old n) (0 ∷ n ∷ numbers)
    upper le =
        let is : max old n ≡ n = omega (arith, le) in
        subst (λ k. IsGreatest k (0 ∷ n ∷ numbers)) (sym is) (record {
          none_greater = (omega arith, (omega arith, none_more old n numbers le g.none_greater.1));
          is_one = or_right (0 == n) _ (or_left (n == n) (list_any (λ m. m == n) numbers) (eq-eqb n n refl));
        })

    lower : n ≤ old → IsGreatest (max old n) (0 ∷ n ∷ numbers)
    lower le =
        let is : max old n ≡ old = omega (arith, le) in
        subst (λ k. IsGreatest k (0 ∷ n ∷ numbers)) (sym is) (record {
          none_greater = (g.none_greater.0, (le, g.none_greater.1));
          is_one = skipped (0 == old) (n == old) (list_any (λ m. m == old) numbers) g.is_one;
        })

pub now_is_greatest : (history : History) → IsGreatest (facts history).now (0 ∷ filter_map told_moment history)
now_is_greatest [] = record { none_greater = (omega arith, tt); is_one = refl }
now_is_greatest (Input (Open moment scheme hwm misses) ∷ older) = greater (facts older).now moment (filter_map told_moment older) (now_is_greatest older)
now_is_greatest (Input (Up conn channel moment word identity) ∷ older) = now_is_greatest older
now_is_greatest (Input (Down conn moment word) ∷ older) = now_is_greatest older
now_is_greatest (Input (In conn moment word m) ∷ older) = now_is_greatest older
now_is_greatest (Input (Beat moment word) ∷ older) = greater (facts older).now moment (filter_map told_moment older) (now_is_greatest older)
now_is_greatest (Input (Time moment word) ∷ older) = greater (facts older).now moment (filter_map told_moment older) (now_is_greatest older)
now_is_greatest (Hand id n ∷ older) = now_is_greatest older
now_is_greatest (Settle id v c ∷ older) = now_is_greatest older
now_is_greatest (Lose n ∷ older) = now_is_greatest older
