-- Where a line is cut.
use Rattle.std.proofs.Common.{◌≡◌, ℕ, zero, suc, ◌<◌, ◌≤◌, arith, List, [], ◌∷◌, ◌++◌, length, take, drop, true, false, cond, Option, Some, None, refl, sym, ap, ◌∙◌}
use Rattle.std.specs.Prelude.{MatchOption, option_map}
use Rattle.std.specs.Borrow.{Bor}
use Rattle.std.specs.Str.Pattern.{FindsText, LacksTextAt, SplitsAroundMatch}
use Rattle.std.proofs.lemmas.Bool.{and_parts, eqb-true}
use Rattle.job_graph.specs.Lines.{begins_code, cut}

-- a colon and a blank
abbrev pub colon : List ℕ
colon = 58 ∷ 32 ∷ []

begins_is : (s : List ℕ) → begins_code s ≡ true → s ≡ colon ++ drop 2 s
begins_is [] h = cc
begins_is (c ∷ []) h = cc
begins_is (c ∷ d ∷ more) h = let p = and_parts _ _ h in (λ i. eqb-true c 58 p.0 i ∷ eqb-true d 32 p.1 i ∷ more)

lacks_off : (s : List ℕ) (i : ℕ) → LacksTextAt colon s i → begins_code (drop i s) ≡ false
lacks_off s i lacks =
    (elim (begins_code (drop i s)) as (λ b. begins_code (drop i s) ≡ b → b ≡ false) [
      | true ↦ λ on. absurd (lacks (drop 2 (drop i s)) (begins_is (drop i s) on))
      | false ↦ λ off. refl
    ]) refl

cut_on : (c : ℕ) (cs : List ℕ) → begins_code (c ∷ cs) ≡ true → cut (c ∷ cs) ≡ Some ([], drop 2 (c ∷ cs))
cut_on c cs on = ap (λ b. cond b (Some ([], drop 2 (c ∷ cs))) (option_map (λ p. (c ∷ p.0, p.1)) (cut cs))) on

cut_off : (c : ℕ) (cs : List ℕ) → begins_code (c ∷ cs) ≡ false → cut (c ∷ cs) ≡ option_map (λ p. (c ∷ p.0, p.1)) (cut cs)
cut_off c cs off = ap (λ b. cond b (Some ([], drop 2 (c ∷ cs))) (option_map (λ p. (c ∷ p.0, p.1)) (cut cs))) off

cut_none : (s : List ℕ) → ((i : ℕ) → i ≤ length s → begins_code (drop i s) ≡ false) → cut s ≡ None
cut_none [] h = refl
cut_none (c ∷ cs) h = cut_off c cs (h 0 (omega arith)) ∙ ap (option_map (λ p. (c ∷ p.0, p.1))) (cut_none cs (λ i l. h (suc i) (omega (arith, l))))

cut_some : (s : List ℕ) (i : ℕ) → ((k : ℕ) → k < i → begins_code (drop k s) ≡ false) → begins_code (drop i s) ≡ true → cut s ≡ Some (take i s, drop 2 (drop i s))
cut_some [] zero lacks on = cc
cut_some [] (suc i) lacks on = cc
cut_some (c ∷ cs) zero lacks on = cut_on c cs on
cut_some (c ∷ cs) (suc i) lacks on =
    cut_off c cs (lacks 0 (omega arith)) ∙ ap (option_map (λ p. (c ∷ p.0, p.1))) (cut_some cs i (λ k l. lacks (suc k) (omega (arith, l))) on)

-- what `split_once` gives
pub cut_result : (s : List ℕ) (r : Option (Bor (List ℕ) × Bor (List ℕ)))
    → MatchOption r (FindsText colon s None) (λ x. SplitsAroundMatch (FindsText colon) s x.0.now x.1.now)
    → option_map (λ p. (p.0.now, p.1.now)) r ≡ cut s
cut_result s None h = sym (cut_none s (λ i l. lacks_off s i (h i l)))
cut_result s (Some x) h =
    let i : ℕ = h.0 in
    let found = h.2 in
    let on : begins_code (drop i s) ≡ true = ap begins_code found.1.split in
    let back : x.1.now ≡ drop 2 (drop i s) = h.4 ∙ sym (ap (drop 2) found.1.split) in
    (λ t. Some (h.3 t, back t)) ∙ sym (cut_some s i (λ k l. lacks_off s k (found.0 k l)) on)
