-- Each first fault of the grammar is the one at which the reader stops.
use Rattle.std.proofs.Common.{◌≡◌, ℕ, ◌<◌, ◌≤◌, Bool, true, false, cond, List, [], ◌∷◌, ◌++◌, Ok, Err, refl, sym, ap, subst, ◌∙◌, append_assoc, arith}
use Rattle.std.specs.Prelude.{map}
use Rattle.std.specs.List.{filter, AllByRecursion}
use Rattle.arith_syntax.specs.declared.operators.UnaryOperator.{UnaryOperator}
use Rattle.arith_syntax.specs.declared.operators.UnaryOperator.TheVariants.{Plus, Minus, Complement, Not}
use Rattle.arith_syntax.specs.declared.token.Token.{Token}
use Rattle.arith_syntax.specs.declared.token.Token.TheVariants.{Number, TooLarge, Name, Binary, Tilde, Exclamation, Assign, Question, Colon, LeftParenthesis, RightParenthesis, Separator, End, Bad}
use Rattle.arith_syntax.specs.declared.refusal.Fault.{Fault}
use Rattle.arith_syntax.specs.declared.refusal.Fault.TheVariants as faults
use Rattle.arith_syntax.specs.Tree.{Tree, Constant, Variable, Parenthesized, Unary, Operation, Conditional, Assignment, IsExpression, tokens_of, sign}
use Rattle.arith_syntax.specs.Grammar.{Fits, joined, is_some_part, IsProgram}
use Rattle.arith_syntax.specs.Reading.{State, nothing_read, Step, first_step, next_step, step}
use Rattle.arith_syntax.proofs.Steps.{steps}
use Rattle.std.specs.Prelude.{◌⊎◌}
use Rattle.std.proofs.Common.{inl, inr, ◌≢◌, length}
use Rattle.std.proofs.lemmas.List.{append-nil}
use Rattle.arith_syntax.specs.declared.error.SyntaxError.{SyntaxError}
use Rattle.arith_syntax.specs.declared.error.SyntaxError.TheVariants as errors
use Rattle.arith_syntax.specs.Grammar.{Begins, Misplaced, NestsTooDeep, StandsAt, FirstFault, tokens}
use Rattle.arith_syntax.specs.Lexical.{Lexeme, lexemes}
use Rattle.arith_syntax.specs.Reading.{placed, run}
use Rattle.arith_syntax.proofs.Sound.{Position, Sound, IsToken, state_at, tokens_at, step_sound, end_sound, begins}
use Rattle.arith_syntax.proofs.Faults.{Proper, after_ok, bad_flat, begins_read, end_never_deep, goes_on, large_is, misplaced, no_token_is, number_is_token, number_taken, start, start_sound, too_deep, zero_token}

-- what was read is some position
pub record Reached (limit : ℕ) (ts : List Token) (s : State) : Type 0 where
  pub at : Position
  pub sound : Sound limit at
  pub state : s ≡ state_at at
  pub tokens_are : tokens_at at ≡ ts

-- tokens of a text, other than its end
abbrev pub Plain : List Token → Type 0
Plain [] = Unit {0}
Plain (t ∷ ts) = IsToken t × (t ≢ End) × Plain ts

reach_from : (limit : ℕ) (p : Position) (ts : List Token) (s : State) → Sound limit p → Plain ts → steps limit (state_at p) ts ≡ Ok s → Reached limit (tokens_at p ++ ts) s
reach_from limit p [] s g plain e =
    let same : s ≡ state_at p = cc in
    record { at = p; sound = g; state = same; tokens_are = sym (append-nil (tokens_at p)) }
reach_from limit p (t ∷ ts) s g plain e =
    let q = after_ok (step limit t (state_at p)) (λ u. steps limit u ts) s e in
    let goes = step_sound limit p t q.0 g plain.0 plain.1 q.1 in
    let more = reach_from limit goes.to ts s goes.sound plain.2 (subst (λ u. steps limit u ts ≡ Ok s) goes.state q.2) in
    record {
      at = more.at;
      sound = more.sound;
      state = more.state;
      tokens_are = more.tokens_are ∙ ap (λ l. l ++ ts) goes.tokens ∙ append_assoc (tokens_at p) (t ∷ []) ts;
    }

not_empty : (before : List Lexeme) (l : Lexeme) (more : List Lexeme) → before ++ l ∷ more ≡ [] → ⊥
not_empty [] l more e = cc
not_empty (b ∷ before) l more e = cc

-- what stands before a lexeme are tokens
plain_before : (before : List Lexeme) (l : Lexeme) (more : List Lexeme) → Proper (before ++ l ∷ more) → Plain (tokens before)
plain_before [] l more p = tt
plain_before (b ∷ before) l more p =
    elim p [
      | inl ends ↦ absurd (not_empty before l more ends.1)
      | inr other ↦ elim other [
        | inl bad ↦ absurd (not_empty before l more bad.1)
        | inr good ↦ (good.0, good.1, plain_before before l more good.2)
      ]
    ]

proper_at : (before : List Lexeme) (l : Lexeme) (more : List Lexeme) → Proper (before ++ l ∷ more) → Proper (l ∷ more)
proper_at [] l more p = p
proper_at (b ∷ before) l more p =
    elim p [
      | inl ends ↦ absurd (not_empty before l more ends.1)
      | inr other ↦ elim other [
        | inl bad ↦ absurd (not_empty before l more bad.1)
        | inr good ↦ proper_at before l more good.2
      ]
    ]

-- the reader at a lexeme up to which the text can go on as a program
pub record Stopped (text : List ℕ) (before : List Lexeme) (token : Token) (at : ℕ) : Type 0 where
  pub state : State
  pub read : steps 64 nothing_read (tokens before) ≡ Ok state
  pub place : Reached 64 (tokens before) state
  pub rest : List Lexeme
  pub proper : Proper ((token, at) ∷ rest)
  pub runs : run nothing_read (lexemes text) ≡ placed at (step 64 token state) (λ t. run t rest)

run_before : (s t : State) (before more : List Lexeme) → steps 64 s (tokens before) ≡ Ok t → run s (before ++ more) ≡ run t more
run_before s t [] more e = let same : s ≡ t = cc in ap (λ u. run u more) same
run_before s t (l ∷ before) more e =
    let q = after_ok (step 64 l.0 s) (λ u. steps 64 u (tokens before)) t e in
    ap (λ r. placed l.1 r (λ u. run u (before ++ more))) q.1 ∙ run_before q.0 t before more q.2

stopped_at : (text : List ℕ) (before : List Lexeme) (token : Token) (at : ℕ) → Proper (lexemes text) → StandsAt text before token at → Stopped text before token at
stopped_at text before token at proper s =
    let r = begins_read 64 (tokens before) s.begins in
    let all = subst Proper s.split proper in
    record {
      state = r.0;
      read = r.1;
      place = reach_from 64 start (tokens before) r.0 start_sound (plain_before before (token, at) s.after all) r.1;
      rest = s.after;
      proper = proper_at before (token, at) s.after all;
      runs = ap (run nothing_read) s.split ∙ run_before nothing_read r.0 before ((token, at) ∷ s.after) r.1;
    }

-- each fault of the grammar is what the step gives
bad_here : (b : Bool) (s : State) → cond b (next_step 64 Bad s) (first_step 64 Bad s) ≡ Err faults.NoToken
bad_here true s = refl
bad_here false s = refl

step_or : (r : Step) → ((s : State) × (r ≡ Ok s)) ⊎ ((f : Fault) × (r ≡ Err f))
step_or (Ok s) = inl (s, refl)
step_or (Err f) = inr (f, refl)

-- a program goes on with a token that is taken
taken_begins : (limit : ℕ) (ts : List Token) (token : Token) (s t : State) → Reached limit ts s → IsToken token → token ≢ End → step limit token s ≡ Ok t → Begins limit (ts ++ token ∷ [])
taken_begins limit ts token s t r is ne e =
    let goes = step_sound limit r.at token t r.sound is ne (subst (λ u. step limit token u ≡ Ok t) r.state e) in
    subst (Begins limit) (goes.tokens ∙ ap (λ l. l ++ token ∷ []) r.tokens_are) (begins limit goes.to goes.sound)

taken_ends : (ts : List Token) (s t : State) → Reached 64 ts s → step 64 End s ≡ Ok t → (trees : List Tree) × IsProgram 64 ts trees
taken_ends ts s t r e =
    let w = end_sound 64 r.at t r.sound (subst (λ u. step 64 End u ≡ Ok t) r.state e) in
    (w.trees, subst (λ l. IsProgram 64 l w.trees) r.tokens_are w.program)

large_stops : (limit : ℕ) (b : Bool) (s t : State) → cond b (next_step limit TooLarge s) (first_step limit TooLarge s) ≡ Ok t → ⊥
large_stops limit true s t e = cc
large_stops limit false s t e = cc

bad_never : (limit : ℕ) (b : Bool) (s t : State) → cond b (next_step limit Bad s) (first_step limit Bad s) ≡ Ok t → ⊥
bad_never limit true s t e = cc
bad_never limit false s t e = cc

-- a program that goes on with a token reads it
no_large : (limit : ℕ) (x : List Token) (s : State) → steps 64 nothing_read x ≡ Ok s → Begins limit (x ++ TooLarge ∷ []) → ⊥
no_large limit x s r b = let t = goes_on 64 limit x TooLarge s r b in large_stops limit s.complete s t.0 t.1

no_bad : (limit : ℕ) (x : List Token) (s : State) → steps 64 nothing_read x ≡ Ok s → Begins limit (x ++ Bad ∷ []) → ⊥
no_bad limit x s r b = let t = goes_on 64 limit x Bad s r b in bad_never limit s.complete s t.0 t.1

no_go : (x : List Token) (s : State) (token : Token) → steps 64 nothing_read x ≡ Ok s → Misplaced x token → token ≢ End → (limit : ℕ) → Begins limit (x ++ token ∷ []) → ⊥
no_go x s End r m ne limit b = ne refl
no_go x s Bad r m ne limit b = m
no_go x s TooLarge r m ne limit b = no_large limit x s r b
no_go x s (Number n) r m ne limit b = m limit b
no_go x s (Name y) r m ne limit b = m limit b
no_go x s (Binary op) r m ne limit b = m limit b
no_go x s Tilde r m ne limit b = m limit b
no_go x s Exclamation r m ne limit b = m limit b
no_go x s (Assign op) r m ne limit b = m limit b
no_go x s Question r m ne limit b = m limit b
no_go x s Colon r m ne limit b = m limit b
no_go x s LeftParenthesis r m ne limit b = m limit b
no_go x s RightParenthesis r m ne limit b = m limit b
no_go x s Separator r m ne limit b = m limit b

plain_append : (x y : List Token) → Plain x → Plain y → Plain (x ++ y)
plain_append [] y p q = q
plain_append (t ∷ x) y p q = (p.0, p.1, plain_append x y p.2 q)

plain_sign : (op : UnaryOperator) → IsToken (sign op) × (sign op ≢ End)
plain_sign Plus = (tt, λ e. cc)
plain_sign Minus = (tt, λ e. cc)
plain_sign Complement = (tt, λ e. cc)
plain_sign Not = (tt, λ e. cc)

plain_tree : (e : Tree) → IsExpression e → Plain (tokens_of e)
plain_tree (Constant n) g = (g, (λ e. cc), tt)
plain_tree (Variable x) g = (g, (λ e. cc), tt)
plain_tree (Parenthesized e) g = (tt, (λ e. cc), plain_append (tokens_of e) (RightParenthesis ∷ []) (plain_tree e g) (tt, (λ e. cc), tt))
plain_tree (Unary op e) g = ((plain_sign op).0, (plain_sign op).1, plain_tree e g.1)
plain_tree (Operation op a b) g = plain_append (tokens_of a) (Binary op ∷ tokens_of b) (plain_tree a g.2) (tt, (λ e. cc), plain_tree b g.3)
plain_tree (Conditional c a b) g =
    plain_append (tokens_of c) (Question ∷ (tokens_of a ++ Colon ∷ tokens_of b)) (plain_tree c g.2)
    (tt, (λ e. cc), plain_append (tokens_of a) (Colon ∷ tokens_of b) (plain_tree a g.3) (tt, (λ e. cc), plain_tree b g.4))
plain_tree (Assignment x op e) g = (g.0, (λ e. cc), (g.1, (λ e. cc), plain_tree e g.2))

plain_parts : (limit : ℕ) (first : List Token) (more : List (List Token)) (trees : List Tree) → filter is_some_part (first ∷ more) ≡ map tokens_of trees → AllByRecursion (Fits limit) trees → Plain (joined first more)
plain_parts limit [] [] trees e f = tt
plain_parts limit [] (next ∷ more) trees e f = (tt, (λ x. cc), plain_parts limit next more trees e f)
plain_parts limit (x ∷ xs) more [] e f = absurd cc
plain_parts limit (x ∷ xs) [] (t ∷ trees) e f =
    let is : tokens_of t ≡ x ∷ xs = cc in subst Plain is (plain_tree t f.0.grammar)
plain_parts limit (x ∷ xs) (next ∷ more) (t ∷ trees) e f =
    let is : tokens_of t ≡ x ∷ xs = cc in
    let others : filter is_some_part (next ∷ more) ≡ map tokens_of trees = cc in
    plain_append (x ∷ xs) (Separator ∷ joined next more) (subst Plain is (plain_tree t f.0.grammar)) (tt, (λ e. cc), plain_parts limit next more trees others f.1)

program_plain : (limit : ℕ) (ts : List Token) (trees : List Tree) → IsProgram limit ts trees → Plain ts
program_plain limit ts trees p = subst Plain (sym p.parts) (plain_parts limit p.first p.more trees p.expressions p.each)

plain_at : (x : List Token) (token : Token) (rest : List Token) → Plain (x ++ token ∷ rest) → IsToken token × (token ≢ End)
plain_at [] token rest p = (p.0, p.1)
plain_at (t ∷ x) token rest p = plain_at x token rest p.2

-- what a program goes on with is a token
begins_plain : (limit : ℕ) (x : List Token) (token : Token) → Begins limit (x ++ token ∷ []) → IsToken token × (token ≢ End)
begins_plain limit x token b =
    plain_at x token b.rest (subst Plain (append_assoc x (token ∷ []) b.rest) (program_plain limit ((x ++ token ∷ []) ++ b.rest) b.trees b.program))

deep_here : (x : List Token) (s : State) (token : Token) (r : Reached 64 x s) → steps 64 nothing_read x ≡ Ok s → IsToken token → token ≢ End → step 64 token s ≡ Err faults.Nested → NestsTooDeep x token
deep_here x s token r read is ne e =
    too_deep r.at token x r.sound is ne r.tokens_are (read ∙ ap Ok r.state) (subst (λ u. step 64 token u ≡ Err faults.Nested) r.state e)

-- the same where the step is a fault
misplaced_fault : (x : List Token) (s : State) (l : Lexeme) (more : List Lexeme) → Reached 64 x s → steps 64 nothing_read x ≡ Ok s → Proper (l ∷ more) → Misplaced x l.0 → (f : Fault) → step 64 l.0 s ≡ Err f → step 64 l.0 s ≡ Err faults.Misplaced
misplaced_fault x s l more r read proper m faults.Misplaced e = e
misplaced_fault x s l more r read proper m faults.NoToken e = absurd (subst (Misplaced x) (no_token_is s.complete l.0 s e) m)
misplaced_fault x s l more r read proper m faults.Nested e =
    elim proper [
      | inl ends ↦ absurd (end_never_deep s.complete s (subst (λ t. step 64 t s ≡ Err faults.Nested) ends.0 e))
      | inr other ↦ elim other [
        | inl bad ↦ absurd (bad_flat s.complete s (subst (λ t. step 64 t s ≡ Err faults.Nested) bad.0 e))
        | inr good ↦ let d = deep_here x s l.0 r read good.0 good.1 e in absurd (no_go x s l.0 read m good.1 d.limit d.deeper)
      ]
    ]
misplaced_fault x s l more r read proper m faults.Large e =
    let is = large_is s.complete l.0 s e in
    absurd (subst (Misplaced x) is.0 m 64 (taken_begins 64 x (Number 0) s _ r zero_token number_is_token (number_taken s is.1)))

deep_fault : (x : List Token) (s : State) (token : Token) → Reached 64 x s → steps 64 nothing_read x ≡ Ok s → NestsTooDeep x token → token ≢ End → (f : Fault) → step 64 token s ≡ Err f → step 64 token s ≡ Err faults.Nested
deep_fault x s token r read n ne faults.Nested e = e
deep_fault x s token r read n ne faults.Misplaced e = absurd (no_go x s token read (misplaced x s token e read) ne n.limit n.deeper)
deep_fault x s token r read n ne faults.NoToken e = absurd (no_bad n.limit x s read (subst (λ t. Begins n.limit (x ++ t ∷ [])) (no_token_is s.complete token s e) n.deeper))
deep_fault x s token r read n ne faults.Large e = absurd (no_large n.limit x s read (subst (λ t. Begins n.limit (x ++ t ∷ [])) (large_is s.complete token s e).0 n.deeper))

-- where a token is misplaced the step says so
misplaced_step : (x : List Token) (s : State) (l : Lexeme) (more : List Lexeme) → Reached 64 x s → steps 64 nothing_read x ≡ Ok s → Proper (l ∷ more) → Misplaced x l.0 → step 64 l.0 s ≡ Err faults.Misplaced
misplaced_step x s l more r read proper m =
    elim (step_or (step 64 l.0 s)) [
      | inl ok ↦ elim proper [
        | inl ends ↦
            let whole = taken_ends x s ok.0 r (subst (λ t. step 64 t s ≡ Ok ok.0) ends.0 ok.1) in
            absurd (subst (Misplaced x) ends.0 m 64 whole.0 whole.1)
        | inr other ↦ elim other [
          | inl bad ↦ absurd (bad_never 64 s.complete s ok.0 (subst (λ t. step 64 t s ≡ Ok ok.0) bad.0 ok.1))
          | inr good ↦ absurd (no_go x s l.0 read m good.1 64 (taken_begins 64 x l.0 s ok.0 r good.0 good.1 ok.1))
        ]
      ]
      | inr err ↦ misplaced_fault x s l more r read proper m err.0 err.1
    ]

not_deep_here : (x : List Token) (s : State) (token : Token) → Reached 64 x s → steps 64 nothing_read x ≡ Ok s → NestsTooDeep x token → step 64 token s ≡ Err faults.Nested
not_deep_here x s token r read n =
    let is = begins_plain n.limit x token n.deeper in
    elim (step_or (step 64 token s)) [
      | inl ok ↦ absurd (n.none (taken_begins 64 x token s ok.0 r is.0 is.1 ok.1))
      | inr err ↦ deep_fault x s token r read n is.1 err.0 err.1
    ]

large_here : (b : Bool) (s t : State) → cond b (next_step 64 (Number 0) s) (first_step 64 (Number 0) s) ≡ Ok t → cond b (next_step 64 TooLarge s) (first_step 64 TooLarge s) ≡ Err faults.Large
large_here true s t e = absurd cc
large_here false s t e = refl

-- a first fault of the grammar is the reader's
pub fault_read : (text : List ℕ) (e : SyntaxError) → Proper (lexemes text) → FirstFault text e → length text ≤ 65536 → e ≢ errors.OutOfMemory → run nothing_read (lexemes text) ≡ Err e
fault_read text (errors.BadToken at) proper f short nm =
    let st = stopped_at text f.0 Bad at proper f.1 in
    st.runs ∙ ap (λ r. placed at r (λ t. run t st.rest)) (bad_here st.state.complete st.state)
fault_read text (errors.BadSyntax at) proper f short nm =
    let st = stopped_at text f.0 f.1 at proper f.2 in
    st.runs ∙ ap (λ r. placed at r (λ t. run t st.rest)) (misplaced_step (tokens f.0) st.state (f.1, at) st.rest st.place st.read st.proper f.3)
fault_read text (errors.TooDeep at) proper f short nm =
    let st = stopped_at text f.0 f.1 at proper f.2 in
    st.runs ∙ ap (λ r. placed at r (λ t. run t st.rest)) (not_deep_here (tokens f.0) st.state f.1 st.place st.read f.3)
fault_read text (errors.ConstantTooLarge at) proper f short nm =
    let st = stopped_at text f.0 TooLarge at proper f.1 in
    let t = goes_on 64 64 (tokens f.0) (Number 0) st.state st.read f.2 in
    st.runs ∙ ap (λ r. placed at r (λ t. run t st.rest)) (large_here st.state.complete st.state t.0 t.1)
fault_read text errors.TooLong proper f short nm = absurd (omega arith)
fault_read text errors.OutOfMemory proper f short nm = absurd (nm refl)

-- a text that is too long has no other fault
pub long_fault : (text : List ℕ) (e : SyntaxError) → 65536 < length text → FirstFault text e → e ≢ errors.OutOfMemory → e ≡ errors.TooLong
long_fault text (errors.BadToken at) long f nm = let s = f.1 in absurd (omega (arith, s.short))
long_fault text (errors.BadSyntax at) long f nm = let s = f.2 in absurd (omega (arith, s.short))
long_fault text (errors.TooDeep at) long f nm = let s = f.2 in absurd (omega (arith, s.short))
long_fault text (errors.ConstantTooLarge at) long f nm = let s = f.1 in absurd (omega (arith, s.short))
long_fault text errors.TooLong long f nm = refl
long_fault text errors.OutOfMemory long f nm = absurd (nm refl)
