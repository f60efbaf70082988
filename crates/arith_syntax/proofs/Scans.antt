-- One token of a text is one lexeme.
use Rattle.std.proofs.Common.{◌≡◌, ℕ, suc, ◌+◌, ◌-◌, ◌<◌, ◌≤◌, Bool, true, false, cond, List, [], ◌∷◌, length, take, drop, get_or, Ok, Err, refl, sym, ap, subst, ◌∙◌, arith, length-drop}
use Rattle.std.proofs.Math.Seq.{drop-cons}
use Rattle.std.proofs.lemmas.List.{drop-drop, take_rest}
use Rattle.arith_syntax.specs.declared.refusal.Fault.TheVariants as faults
use Rattle.arith_syntax.specs.declared.token.Token.{Token}
use Rattle.arith_syntax.specs.declared.token.Token.TheVariants.{Bad}
use Rattle.arith_syntax.specs.Lexical.{is_blank, is_bad, token_at, Lexeme, found, scan}
use Rattle.arith_syntax.specs.Reading.{State, Step, step, next_step, first_step, run, placed}
use Rattle.arith_syntax.proofs.Words.{token_long, scan_skip}

bad_is : (t : Token) → is_bad t ≡ true → t ≡ Bad
bad_is Bad h = refl
bad_is _ h = absurd cc

bad_step : (b : Bool) (s : State) → cond b (next_step 64 Bad s) (first_step 64 Bad s) ≡ Err faults.NoToken
bad_step true s = refl
bad_step false s = refl

good_at : (t : Token) (s u : State) (b : Bool) → is_bad t ≡ b → step 64 t s ≡ Ok u → b ≡ false
good_at t s u false e h = refl
good_at t s u true e h =
    let x : ◌≡◌ {A = Step} (Err faults.NoToken) (Ok u) = sym (bad_step s.complete s) ∙ ap (λ k. step 64 k s) (sym (bad_is t e)) ∙ h in absurd cc

-- a token that is taken is one
pub good : (t : Token) (s u : State) → step 64 t s ≡ Ok u → is_bad t ≡ false
good t s u h = good_at t s u (is_bad t) refl h

blank_skip : (b : Bool) (x y : List Lexeme) → b ≡ false → cond b x y ≡ y
blank_skip b x y h = ap (λ c. cond c x y) h

-- the lexemes from a place where no blank stands
lexeme_at : (text : List ℕ) (at : ℕ) → at < length text → false ≡ is_blank (get_or text at 0) → scan 0 at (drop at text) ≡ found (token_at (drop at text)).0 at (scan ((token_at (drop at text)).1 - 1) (at + 1) (drop (suc at) text))
lexeme_at text at lt nb =
    let front : drop at text ≡ get_or text at 0 ∷ drop (suc at) text = drop-cons text at 0 lt in
    subst (λ l. scan 0 at l ≡ found (token_at l).0 at (scan ((token_at l).1 - 1) (at + 1) (drop (suc at) text))) (sym front)
    (blank_skip (is_blank (get_or text at 0)) _ _ (sym nb))

-- where a token is taken
pub record Taken (text : List ℕ) (at : ℕ) (count : ℕ) (s u : State) : Type 0 where
  pub forward : 1 ≤ count
  pub within : at + count ≤ length text
  pub same : run s (scan 0 at (drop at text)) ≡ run u (scan 0 (at + count) (drop (at + count) text))

rest_of : (text : List ℕ) (at : ℕ) → take (length text - at) (drop at text) ≡ drop at text
rest_of text at = take_rest text at

pub taken : (text : List ℕ) (at : ℕ) (t : Token) (count : ℕ) (s u : State) → at < length text → false ≡ is_blank (get_or text at 0) → ◌≡◌ {A = Token × ℕ} (t, count) (token_at (take (length text - at) (drop at text))) → step 64 t s ≡ Ok u → Taken text at count s u
taken text at t count s u lt nb is h =
    let here : ◌≡◌ {A = Token × ℕ} (token_at (drop at text)) (t, count) = ap token_at (sym (rest_of text at)) ∙ sym is in
    let token_is : (token_at (drop at text)).0 ≡ t = ap (λ p. p.0) here in
    let count_is : (token_at (drop at text)).1 ≡ count = ap (λ p. p.1) here in
    let some : 0 < length (drop at text) = omega (arith, length-drop at text) in
    let long = token_long (drop at text) some in
    let ok = good t s u h in
    let within : count ≤ length (drop at text) = subst (λ n. n ≤ length (drop at text)) count_is (long.within (ap is_bad token_is ∙ ok)) in
    let one : 1 ≤ count = subst (λ n. 1 ≤ n) count_is long.some in
    let room : length (drop at text) ≡ length text - at = length-drop at text in
    let less : count - 1 ≤ length (drop (suc at) text) = omega (arith, length-drop (suc at) text) in
    let place : at + 1 + (count - 1) ≡ at + count = omega arith in
    let back : suc at + (count - 1) ≡ at + count = omega arith in
    record {
      forward = one;
      within = omega arith;
      same = ap (run s) (lexeme_at text at lt nb)
          ∙ ap (λ (p : Token × ℕ). run s (found p.0 at (scan (p.1 - 1) (at + 1) (drop (suc at) text)))) here
          ∙ ap (λ b. run s (cond b ((Bad, at) ∷ []) ((t, at) ∷ scan (count - 1) (at + 1) (drop (suc at) text)))) ok
          ∙ ap (λ r. placed at r (λ v. run v (scan (count - 1) (at + 1) (drop (suc at) text)))) h
          ∙ ap (run u) (scan_skip (count - 1) (at + 1) (drop (suc at) text) less
          ∙ ap (λ l. scan 0 (at + 1 + (count - 1)) l) (drop-drop (count - 1) (suc at) text ∙ ap (λ n. drop n text) back)
          ∙ ap (λ n. scan 0 n (drop (at + count) text)) place);
    }
