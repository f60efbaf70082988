-- A fault of the reader is the first one of the grammar.
use Rattle.std.proofs.Common.{◌≡◌, ℕ, ◌+◌, ◌^◌, ◌<◌, ◌≤◌, Bool, true, false, cond, List, [], ◌∷◌, ◌++◌, Option, Some, None, Result, Ok, Err, refl, sym, ap, subst, ◌∙◌, append_assoc, arith}
use Rattle.std.specs.Prelude.{nat_lt}
use Rattle.std.specs.List.{AllByRecursion}
use Rattle.arith_syntax.specs.declared.operators.UnaryOperator.TheVariants.{Plus, Minus, Complement, Not}
use Rattle.arith_syntax.specs.declared.operators.BinaryOperator.{BinaryOperator}
use Rattle.arith_syntax.specs.declared.operators.BinaryOperator.TheVariants.{Add, Subtract}
use Rattle.arith_syntax.specs.declared.token.Token.{Token}
use Rattle.arith_syntax.specs.declared.token.Token.TheVariants.{Number, TooLarge, Name, Binary, Tilde, Exclamation, Assign, Question, Colon, LeftParenthesis, RightParenthesis, Separator, End, Bad}
use Rattle.arith_syntax.specs.declared.instruction.Instruction.{Instruction}
use Rattle.arith_syntax.specs.declared.instruction.Instruction.TheVariants.{Push, Load, Open, Sign, Then, Target}
use Rattle.arith_syntax.specs.declared.pending.Pending.{Pending}
use Rattle.arith_syntax.specs.declared.pending.Pending.TheVariants.{Parenthesis, Prefixed, Condition, Assigned}
use Rattle.arith_syntax.specs.declared.refusal.Fault.{Fault}
use Rattle.arith_syntax.specs.declared.refusal.Fault.TheVariants as faults
use Rattle.arith_syntax.specs.Tree.{Tree}
use Rattle.arith_syntax.specs.Grammar.{Fits, IsProgram}
use Rattle.arith_syntax.specs.Reading.{State, nothing_read, depth_of, close, Step, waiting, nested, operand, empty_expression, first_step, second_choice, parenthesized, expression_end, may_assign, assignment, next_step, step}
use Rattle.arith_syntax.proofs.Steps.{steps, step_then}
use Rattle.std.specs.Prelude.{◌⊎◌}
use Rattle.std.proofs.Common.{inl, inr, ◌≢◌, length}
use Rattle.std.proofs.lemmas.Bool.{cases_lt}
use Rattle.arith_syntax.specs.declared.error.SyntaxError.{SyntaxError}
use Rattle.arith_syntax.specs.Grammar.{Begins, Misplaced, NestsTooDeep, StandsAt, FirstFault, Grammar, tokens}
use Rattle.arith_syntax.specs.Lexical.{Lexeme, lexemes}
use Rattle.arith_syntax.specs.Reading.{error_at, placed, run}
use Rattle.arith_syntax.proofs.Complete.{put_all, awaiting, program_read}
use Rattle.arith_syntax.proofs.Sound.{Position, Sound, IsToken, Goes, state_at, tokens_at, step_sound, end_sound, begins, Stacked, FrameFits, shapes, OperandFits, Opened, Signed, Left, Asked, Chosen, Named, Frame}

-- a step is the same within every limit
pub record Steady (token : Token) (s : State) : Type 0 where
  pub is : Step
  pub each : (limit : ℕ) → step limit token s ≡ is

-- a step opens one more construct
pub record Opens (token : Token) (s : State) : Type 0 where
  pub instruction : Instruction
  pub pending : Pending
  pub code : List Instruction
  pub waits : List Pending
  pub each : (limit : ℕ) → step limit token s ≡ nested limit instruction pending code waits

abbrev pub Varies : (ℕ → Step) → Type 0
Varies f = ((r : Step) × ((limit : ℕ) → f limit ≡ r) × (r ≢ Err faults.Nested)) ⊎ ((i : Instruction) × (p : Pending) × (code : List Instruction) × (waits : List Pending) × ((limit : ℕ) → f limit ≡ nested limit i p code waits))

pub same : (r : Step) (f : ℕ → Step) → ((limit : ℕ) → f limit ≡ r) → r ≢ Err faults.Nested → Varies f
same r f h ne = inl (r, h, ne)

pub taken : (s : State) → ◌≢◌ {A = Step} (Ok s) (Err faults.Nested)
taken s e = cc

refused : ◌≢◌ {A = Step} (Err faults.Misplaced) (Err faults.Nested)
refused e = cc

empty_flat : (s : State) (waits : List Pending) → empty_expression s waits ≢ Err faults.Nested
empty_flat s [] e = cc
empty_flat s (p ∷ waits) e = cc

end_flat : (code : List Instruction) (waits : List Pending) → expression_end code waits ≢ Err faults.Nested
end_flat code [] e = cc
end_flat code (p ∷ waits) e = cc

choice_flat : (code : List Instruction) (waits : List Pending) → second_choice code waits ≢ Err faults.Nested
choice_flat code [] e = cc
choice_flat code (Condition ∷ waits) e = cc
choice_flat code (_ ∷ waits) e = cc

parenthesis_flat : (code : List Instruction) (waits : List Pending) → parenthesized code waits ≢ Err faults.Nested
parenthesis_flat code [] e = cc
parenthesis_flat code (Parenthesis ∷ waits) e = cc
parenthesis_flat code (_ ∷ waits) e = cc

one_more : (i : Instruction) (p : Pending) (code : List Instruction) (waits : List Pending) (f : ℕ → Step) → ((limit : ℕ) → f limit ≡ nested limit i p code waits) → Varies f
one_more i p code waits f h = inr (i, p, code, waits, h)

first_varies : (token : Token) (s : State) → Varies (λ limit. first_step limit token s)
first_varies (Binary Add) s = one_more (Sign Plus) (Prefixed Plus) s.code s.waits _ (λ limit. refl)
first_varies (Binary Subtract) s = one_more (Sign Minus) (Prefixed Minus) s.code s.waits _ (λ limit. refl)
first_varies Tilde s = one_more (Sign Complement) (Prefixed Complement) s.code s.waits _ (λ limit. refl)
first_varies Exclamation s = one_more (Sign Not) (Prefixed Not) s.code s.waits _ (λ limit. refl)
first_varies LeftParenthesis s = one_more Open Parenthesis s.code s.waits _ (λ limit. refl)
first_varies (Number n) s = same (operand (Push n) s) _ (λ limit. refl) (taken _)
first_varies (Name x) s = same (operand (Load x) s) _ (λ limit. refl) (taken _)
first_varies TooLarge s = same (Err faults.Large) _ (λ limit. refl) (λ e. cc)
first_varies Separator s = same (empty_expression s s.waits) _ (λ limit. refl) (empty_flat s s.waits)
first_varies End s = same (empty_expression s s.waits) _ (λ limit. refl) (empty_flat s s.waits)
first_varies Bad s = same (Err faults.NoToken) _ (λ limit. refl) (λ e. cc)
first_varies (Binary _) s = same (Err faults.Misplaced) _ (λ limit. refl) refused
first_varies _ s = same (Err faults.Misplaced) _ (λ limit. refl) refused

name_varies : (b : Bool) (op : Option BinaryOperator) (x : List ℕ) (code : List Instruction) (waits : List Pending) → Varies (λ limit. cond b (nested limit (Target x op) (Assigned x op) code waits) (Err faults.Misplaced))
name_varies true op x code waits = one_more (Target x op) (Assigned x op) code waits _ (λ limit. refl)
name_varies false op x code waits = same (Err faults.Misplaced) _ (λ limit. refl) refused

assignment_varies : (op : Option BinaryOperator) (code : List Instruction) (waits : List Pending) → Varies (λ limit. assignment limit op code waits)
assignment_varies op (Load x ∷ code) waits = name_varies (may_assign waits) op x code waits
assignment_varies op (_ ∷ code) waits = same (Err faults.Misplaced) _ (λ limit. refl) refused
assignment_varies op [] waits = same (Err faults.Misplaced) _ (λ limit. refl) refused

next_varies : (token : Token) (s : State) → Varies (λ limit. next_step limit token s)
next_varies (Assign op) s = assignment_varies op s.code s.waits
next_varies Question s = one_more Then Condition (close 3 s.code s.waits).code (close 3 s.code s.waits).waits _ (λ limit. refl)
next_varies (Binary op) s = same (next_step 0 (Binary op) s) _ (λ limit. refl) (taken _)
next_varies Colon s = same (next_step 0 Colon s) _ (λ limit. refl) (choice_flat _ _)
next_varies RightParenthesis s = same (next_step 0 RightParenthesis s) _ (λ limit. refl) (parenthesis_flat _ _)
next_varies Separator s = same (next_step 0 Separator s) _ (λ limit. refl) (end_flat _ _)
next_varies End s = same (next_step 0 End s) _ (λ limit. refl) (end_flat _ _)
next_varies Bad s = same (Err faults.NoToken) _ (λ limit. refl) (λ e. cc)
next_varies _ s = same (Err faults.Misplaced) _ (λ limit. refl) refused

choice_varies : (b : Bool) (f g : ℕ → Step) → Varies f → Varies g → Varies (λ limit. cond b (f limit) (g limit))
choice_varies true f g x y = x
choice_varies false f g x y = y

pub varies : (token : Token) (s : State) → Varies (λ limit. step limit token s)
varies token s = choice_varies s.complete (λ limit. next_step limit token s) (λ limit. first_step limit token s) (next_varies token s) (first_varies token s)

lt_yes : (m n : ℕ) → m < n → nat_lt m n ≡ true
lt_yes m n h = grind arith

lt_no : (m n : ℕ) → n ≤ m → nat_lt m n ≡ false
lt_no m n h = grind arith

nested_within : (limit : ℕ) (i : Instruction) (p : Pending) (code : List Instruction) (waits : List Pending) → ((depth_of waits < limit) × (nested limit i p code waits ≡ Ok (waiting i p code waits))) ⊎ (nested limit i p code waits ≡ Err faults.Nested)
nested_within limit i p code waits =
    elim (cases_lt (depth_of waits) limit) [
      | inl lt ↦ inl (lt, ap (λ b. cond b (Ok (waiting i p code waits)) (Err faults.Nested)) (lt_yes (depth_of waits) limit lt))
      | inr le ↦ inr (ap (λ b. cond b (Ok (waiting i p code waits)) (Err faults.Nested)) (lt_no (depth_of waits) limit le))
    ]

nested_same : (m n : ℕ) (i : Instruction) (p : Pending) (code : List Instruction) (waits : List Pending) (a b : State) → nested m i p code waits ≡ Ok a → nested n i p code waits ≡ Ok b → a ≡ b
nested_same m n i p code waits a b x y =
    elim (nested_within m i p code waits) [
      | inl at ↦ elim (nested_within n i p code waits) [
        | inl bt ↦ let e : ◌≡◌ {A = Step} (Ok a) (Ok b) = sym x ∙ at.1 ∙ sym bt.1 ∙ y in cc
        | inr bf ↦ absurd cc
      ]
      | inr af ↦ absurd cc
    ]

-- within two limits a token leads to one state
pub step_same : (m n : ℕ) (token : Token) (s a b : State) → step m token s ≡ Ok a → step n token s ≡ Ok b → a ≡ b
step_same m n token s a b x y =
    elim (varies token s) [
      | inl v ↦ let e : ◌≡◌ {A = Step} (Ok a) (Ok b) = sym x ∙ v.1 m ∙ sym (v.1 n) ∙ y in cc
      | inr v ↦ nested_same m n v.0 v.1 v.2 v.3 a b (sym (v.4 m) ∙ x) (sym (v.4 n) ∙ y)
    ]

pub after_ok : (r : Step) (f : State → Step) (t : State) → step_then r f ≡ Ok t → (s : State) × (r ≡ Ok s) × (f s ≡ Ok t)
after_ok (Ok s) f t e = (s, refl, e)
after_ok (Err d) f t e = absurd cc

pub steps_same : (m n : ℕ) (s a b : State) (read : List Token) → steps m s read ≡ Ok a → steps n s read ≡ Ok b → a ≡ b
steps_same m n s a b [] x y = let e : ◌≡◌ {A = Step} (Ok a) (Ok b) = sym x ∙ y in cc
steps_same m n s a b (token ∷ read) x y =
    let p = after_ok (step m token s) (λ t. steps m t read) a x in
    let q = after_ok (step n token s) (λ t. steps n t read) b y in
    let e : p.0 ≡ q.0 = step_same m n token s p.0 q.0 p.1 q.1 in
    steps_same m n p.0 a b read p.2 (ap (λ t. steps n t read) e ∙ q.2)

after_each : (r : Step) (h k g : State → Step) → ((t : State) → h t ≡ step_then (k t) g) → step_then r h ≡ step_then (step_then r k) g
after_each (Ok s) h k g e = e s
after_each (Err d) h k g e = refl

pub steps_append : (limit : ℕ) (s : State) (x y : List Token) → steps limit s (x ++ y) ≡ step_then (steps limit s x) (λ t. steps limit t y)
steps_append limit s [] y = refl
steps_append limit s (token ∷ x) y =
    after_each (step limit token s) (λ t. steps limit t (x ++ y)) (λ t. steps limit t x) (λ t. steps limit t y) (λ t. steps_append limit t x y)

-- how the tokens of a program are read in two parts
pub record Through (limit : ℕ) (x y : List Token) (t : State) : Type 0 where
  pub mid : State
  pub first : steps limit nothing_read x ≡ Ok mid
  pub second : steps limit mid y ≡ Ok t

through : (limit : ℕ) (x y : List Token) (t : State) → steps limit nothing_read (x ++ y) ≡ Ok t → Through limit x y t
through limit x y t e =
    let p = after_ok (steps limit nothing_read x) (λ s. steps limit s y) t (sym (steps_append limit nothing_read x y) ∙ e) in
    record { mid = p.0; first = p.1; second = p.2 }

-- what begins a program is read
pub begins_read : (limit : ℕ) (x : List Token) → Begins limit x → (s : State) × (steps limit nothing_read x ≡ Ok s)
begins_read limit x b =
    let all = program_read limit (x ++ b.rest) b.trees b.program in
    let t = through limit x (b.rest ++ End ∷ []) (awaiting (put_all b.trees []) []) (ap (steps limit nothing_read) (sym (append_assoc x b.rest (End ∷ []))) ∙ all) in
    (t.mid, t.first)

-- a token with which a program goes on is taken, after what was read before
pub goes_on : (m n : ℕ) (x : List Token) (token : Token) (s : State) → steps m nothing_read x ≡ Ok s → Begins n (x ++ token ∷ []) → (t : State) × (step n token s ≡ Ok t)
goes_on m n x token s e b =
    let r = begins_read n (x ++ token ∷ []) b in
    let t = through n x (token ∷ []) r.0 r.1 in
    let is = steps_same n m nothing_read t.mid s x t.first e in
    let p = after_ok (step n token t.mid) (λ u. steps n u []) r.0 t.second in
    (p.0, ap (step n token) (sym is) ∙ p.1)

-- where a program ends its end is taken
pub ends_there : (m n : ℕ) (x : List Token) (trees : List Tree) (s : State) → steps m nothing_read x ≡ Ok s → IsProgram n x trees → (t : State) × (step n End s ≡ Ok t)
ends_there m n x trees s e p =
    let t = through n x (End ∷ []) (awaiting (put_all trees []) []) (program_read n x trees p) in
    let is = steps_same n m nothing_read t.mid s x t.first e in
    let q = after_ok (step n End t.mid) (λ u. steps n u []) (awaiting (put_all trees []) []) t.second in
    (q.0, ap (step n End) (sym is) ∙ q.1)

misplaced_always : (m n : ℕ) (token : Token) (s t : State) → step m token s ≡ Err faults.Misplaced → step n token s ≡ Ok t → ⊥
misplaced_always m n token s t x y =
    elim (varies token s) [
      | inl v ↦ let e : ◌≡◌ {A = Step} (Err faults.Misplaced) (Ok t) = sym x ∙ v.1 m ∙ sym (v.1 n) ∙ y in cc
      | inr v ↦ elim (nested_within m v.0 v.1 v.2 v.3) [
        | inl ok ↦ let e : ◌≡◌ {A = Step} (Err faults.Misplaced) (Ok (waiting v.0 v.1 v.2 v.3)) = sym x ∙ v.4 m ∙ ok.1 in cc
        | inr deep ↦ let e : ◌≡◌ {A = Step} (Err faults.Misplaced) (Err faults.Nested) = sym x ∙ v.4 m ∙ deep in cc
      ]
    ]

-- a constant that is too large is misplaced where every constant is
like_constant : (n : ℕ) (b : Bool) (s t : State) → cond b (next_step 64 TooLarge s) (first_step 64 TooLarge s) ≡ Err faults.Misplaced → cond b (next_step n (Number 0) s) (first_step n (Number 0) s) ≡ Ok t → ⊥
like_constant n true s t x y = cc
like_constant n false s t x y = cc

no_token : (b : Bool) (s : State) → cond b (next_step 64 Bad s) (first_step 64 Bad s) ≡ Err faults.Misplaced → ⊥
no_token true s x = cc
no_token false s x = cc

-- a token that isn't taken is misplaced
misplaced_from : (x : List Token) (s : State) (token : Token) → ((n : ℕ) → Begins n (x ++ token ∷ []) → ⊥) → step 64 token s ≡ Err faults.Misplaced → steps 64 nothing_read x ≡ Ok s → Misplaced x token
misplaced_from x s End none e r = λ n trees p. let t = ends_there 64 n x trees s r p in misplaced_always 64 n End s t.0 e t.1
misplaced_from x s Bad none e r = no_token s.complete s e
misplaced_from x s TooLarge none e r = λ n b. let t = goes_on 64 n x (Number 0) s r b in like_constant n s.complete s t.0 e t.1
misplaced_from x s (Number n) none e r = none
misplaced_from x s (Name y) none e r = none
misplaced_from x s (Binary op) none e r = none
misplaced_from x s Tilde none e r = none
misplaced_from x s Exclamation none e r = none
misplaced_from x s (Assign op) none e r = none
misplaced_from x s Question none e r = none
misplaced_from x s Colon none e r = none
misplaced_from x s LeftParenthesis none e r = none
misplaced_from x s RightParenthesis none e r = none
misplaced_from x s Separator none e r = none

pub misplaced : (x : List Token) (s : State) (token : Token) → step 64 token s ≡ Err faults.Misplaced → steps 64 nothing_read x ≡ Ok s → Misplaced x token
misplaced x s token e r =
    misplaced_from x s token (λ n b. let t = goes_on 64 n x token s r b in misplaced_always 64 n token s t.0 e t.1) e r

-- what fits a limit fits a higher one
frame_higher : (m n d : ℕ) (f : Frame) → m ≤ n → FrameFits m d f → FrameFits n d f
frame_higher m n d Opened h f = omega arith
frame_higher m n d (Signed op) h f = omega arith
frame_higher m n d (Left op a) h f = (f.0, f.1, omega (arith, f.2))
frame_higher m n d (Asked c) h f = (f.0, f.1, omega (arith, f.2), omega (arith, f.3))
frame_higher m n d (Chosen c a) h f = (f.0, f.1, omega (arith, f.2), f.3, omega (arith, f.4))
frame_higher m n d (Named x op) h f = (f.0, f.1, omega (arith, f.2))

stack_higher : (m n : ℕ) (frames : List Frame) → m ≤ n → Stacked m frames → Stacked n frames
stack_higher m n [] h s = tt
stack_higher m n (f ∷ frames) h s = (frame_higher m n (depth_of (shapes frames)) f h s.0, s.1, stack_higher m n frames h s.2)

each_higher : (m n : ℕ) (trees : List Tree) → m ≤ n → AllByRecursion (Fits m) trees → AllByRecursion (Fits n) trees
each_higher m n [] h e = tt
each_higher m n (t ∷ trees) h e = (record { grammar = e.0.grammar; depth = omega (arith, e.0.depth) }, each_higher m n trees h e.1)

operand_higher : (m n : ℕ) (frames : List Frame) (operand : Option Tree) → m ≤ n → OperandFits m frames operand → OperandFits n frames operand
operand_higher m n frames None h o = tt
operand_higher m n frames (Some e) h o = (record { grammar = o.0.grammar; depth = omega (arith, o.0.depth); admitted = o.0.admitted }, o.1)

higher : (m n : ℕ) (p : Position) → m ≤ n → Sound m p → Sound n p
higher m n p h s =
    record {
      expressions = s.expressions;
      each = each_higher m n p.trees h s.each;
      stacked = stack_higher m n p.frames h s.stacked;
      operand = operand_higher m n p.frames p.operand h s.operand;
    }

-- a token that nests too deep is taken within some higher limit
pub record Deeper (m : ℕ) (token : Token) (s : State) : Type 0 where
  pub limit : ℕ
  pub more : m ≤ limit
  pub next : State
  pub taken : step limit token s ≡ Ok next

not_deep : (n : ℕ) (i : Instruction) (p : Pending) (code : List Instruction) (waits : List Pending) → depth_of waits < n → nested n i p code waits ≡ Err faults.Nested → ⊥
not_deep n i p code waits h e =
    let x : ◌≡◌ {A = Step} (Ok (waiting i p code waits)) (Err faults.Nested) = ap (λ b. cond b (Ok (waiting i p code waits)) (Err faults.Nested)) (sym (lt_yes (depth_of waits) n h)) ∙ e in cc

deeper : (m : ℕ) (token : Token) (s : State) → step m token s ≡ Err faults.Nested → Deeper m token s
deeper m token s e =
    elim (varies token s) [
      | inl v ↦ absurd (v.2 (sym (v.1 m) ∙ e))
      | inr v ↦
          let n = m + depth_of v.3 + 1 in
          elim (nested_within n v.0 v.1 v.2 v.3) [
            | inl ok ↦ record { limit = n; more = omega arith; next = waiting v.0 v.1 v.2 v.3; taken = v.4 n ∙ ok.1 }
            | inr deep ↦ absurd (not_deep n v.0 v.1 v.2 v.3 (omega arith) deep)
          ]
    ]

not_both : {x : Step} {t : State} → x ≡ Err faults.Nested → x ≡ Ok t → ⊥
not_both e q = cc

-- a token that nests too deep
pub too_deep : (p : Position) (token : Token) (x : List Token) → Sound 64 p → IsToken token → token ≢ End → tokens_at p ≡ x → steps 64 nothing_read x ≡ Ok (state_at p) → step 64 token (state_at p) ≡ Err faults.Nested → NestsTooDeep x token
too_deep p token x g t ne is r e =
    let d = deeper 64 token (state_at p) e in
    let s = step_sound d.limit p token d.next (higher 64 d.limit p d.more g) t ne d.taken in
    record {
      limit = d.limit;
      deeper = subst (Begins d.limit) (s.tokens ∙ ap (λ l. l ++ token ∷ []) is) (begins d.limit s.to s.sound);
      none = λ b. let q = goes_on 64 64 x token (state_at p) r b in not_both e q.1;
    }

-- what a text's lexemes are: tokens, and at last the end or octets that are none
abbrev pub Proper : List Lexeme → Type 0
Proper [] = ⊥
Proper (l ∷ more) = ((l.0 ≡ End) × (more ≡ [])) ⊎ ((l.0 ≡ Bad) × (more ≡ [])) ⊎ (IsToken l.0 × (l.0 ≢ End) × Proper more)

bad_stops : (b : Bool) (s t : State) → cond b (next_step 64 Bad s) (first_step 64 Bad s) ≡ Ok t → ⊥
bad_stops true s t e = cc
bad_stops false s t e = cc

pub bad_flat : (b : Bool) (s : State) → cond b (next_step 64 Bad s) (first_step 64 Bad s) ≡ Err faults.Nested → ⊥
bad_flat true s e = cc
bad_flat false s e = cc

pub end_never_deep : (b : Bool) (s : State) → cond b (next_step 64 End s) (first_step 64 End s) ≡ Err faults.Nested → ⊥
end_never_deep true s e = end_flat _ _ e
end_never_deep false s e = empty_flat s s.waits e

-- which steps end with a fault of the token itself
abbrev pub NotOf : Fault → Step → Type 0
NotOf f r = r ≢ Err f

ok_not : (s : State) (f : Fault) → ◌≢◌ {A = Step} (Ok s) (Err f)
ok_not s f e = cc

nested_not : (limit : ℕ) (i : Instruction) (p : Pending) (code : List Instruction) (waits : List Pending) (f : Fault) → f ≢ faults.Nested → nested limit i p code waits ≡ Err f → ⊥
nested_not limit i p code waits f ne e =
    elim (nested_within limit i p code waits) [
      | inl ok ↦ let x : ◌≡◌ {A = Step} (Ok (waiting i p code waits)) (Err f) = sym ok.1 ∙ e in cc
      | inr deep ↦ let x : ◌≡◌ {A = Step} (Err faults.Nested) (Err f) = sym deep ∙ e in ne (sym cc)
    ]

empty_not : (s : State) (waits : List Pending) (f : Fault) → f ≢ faults.Misplaced → empty_expression s waits ≡ Err f → ⊥
empty_not s [] f ne e = cc
empty_not s (p ∷ waits) f ne e = ne cc

end_not : (code : List Instruction) (waits : List Pending) (f : Fault) → f ≢ faults.Misplaced → expression_end code waits ≡ Err f → ⊥
end_not code [] f ne e = cc
end_not code (p ∷ waits) f ne e = ne cc

choice_not : (code : List Instruction) (waits : List Pending) (f : Fault) → f ≢ faults.Misplaced → second_choice code waits ≡ Err f → ⊥
choice_not code [] f ne e = ne cc
choice_not code (Condition ∷ waits) f ne e = cc
choice_not code (_ ∷ waits) f ne e = ne cc

parenthesis_not : (code : List Instruction) (waits : List Pending) (f : Fault) → f ≢ faults.Misplaced → parenthesized code waits ≡ Err f → ⊥
parenthesis_not code [] f ne e = ne cc
parenthesis_not code (Parenthesis ∷ waits) f ne e = cc
parenthesis_not code (_ ∷ waits) f ne e = ne cc

name_not : (b : Bool) (x : Step) (f : Fault) → f ≢ faults.Misplaced → (x ≡ Err f → ⊥) → cond b x (Err faults.Misplaced) ≡ Err f → ⊥
name_not true x f ne h e = h e
name_not false x f ne h e = ne cc

assignment_not : (op : Option BinaryOperator) (code : List Instruction) (waits : List Pending) (f : Fault) → f ≢ faults.Misplaced → f ≢ faults.Nested → assignment 64 op code waits ≡ Err f → ⊥
assignment_not op (Load x ∷ code) waits f ne nd e = name_not (may_assign waits) _ f ne (nested_not 64 _ _ _ _ f nd) e
assignment_not op (_ ∷ code) waits f ne nd e = ne cc
assignment_not op [] waits f ne nd e = ne cc

-- a fault of the token itself
abbrev pub OfToken : Fault → Token → Bool → Type 0
OfToken faults.NoToken token complete = token ≡ Bad
OfToken faults.Large token complete = (token ≡ TooLarge) × (complete ≡ false)
OfToken faults.Misplaced token complete = Unit {0}
OfToken faults.Nested token complete = Unit {0}

large_ne : faults.Large ≢ faults.Misplaced
large_ne e = cc

large_nd : faults.Large ≢ faults.Nested
large_nd e = cc

none_ne : faults.NoToken ≢ faults.Misplaced
none_ne e = cc

none_nd : faults.NoToken ≢ faults.Nested
none_nd e = cc

first_none : (token : Token) (s : State) → first_step 64 token s ≡ Err faults.NoToken → token ≡ Bad
first_none Bad s e = refl
first_none (Number n) s e = absurd (ok_not _ _ e)
first_none (Name x) s e = absurd (ok_not _ _ e)
first_none TooLarge s e = absurd cc
first_none (Binary Add) s e = absurd (nested_not 64 _ _ _ _ _ none_nd e)
first_none (Binary Subtract) s e = absurd (nested_not 64 _ _ _ _ _ none_nd e)
first_none Tilde s e = absurd (nested_not 64 _ _ _ _ _ none_nd e)
first_none Exclamation s e = absurd (nested_not 64 _ _ _ _ _ none_nd e)
first_none LeftParenthesis s e = absurd (nested_not 64 _ _ _ _ _ none_nd e)
first_none Separator s e = absurd (empty_not s s.waits _ none_ne e)
first_none End s e = absurd (empty_not s s.waits _ none_ne e)
first_none (Binary _) s e = absurd cc
first_none _ s e = absurd cc

next_none : (token : Token) (s : State) → next_step 64 token s ≡ Err faults.NoToken → token ≡ Bad
next_none Bad s e = refl
next_none (Binary op) s e = absurd (ok_not _ _ e)
next_none (Assign op) s e = absurd (assignment_not op s.code s.waits _ none_ne none_nd e)
next_none Question s e = absurd (nested_not 64 _ _ _ _ _ none_nd e)
next_none Colon s e = absurd (choice_not _ _ _ none_ne e)
next_none RightParenthesis s e = absurd (parenthesis_not _ _ _ none_ne e)
next_none Separator s e = absurd (end_not _ _ _ none_ne e)
next_none End s e = absurd (end_not _ _ _ none_ne e)
next_none _ s e = absurd cc

first_large : (token : Token) (s : State) → first_step 64 token s ≡ Err faults.Large → token ≡ TooLarge
first_large TooLarge s e = refl
first_large (Number n) s e = absurd (ok_not _ _ e)
first_large (Name x) s e = absurd (ok_not _ _ e)
first_large Bad s e = absurd cc
first_large (Binary Add) s e = absurd (nested_not 64 _ _ _ _ _ large_nd e)
first_large (Binary Subtract) s e = absurd (nested_not 64 _ _ _ _ _ large_nd e)
first_large Tilde s e = absurd (nested_not 64 _ _ _ _ _ large_nd e)
first_large Exclamation s e = absurd (nested_not 64 _ _ _ _ _ large_nd e)
first_large LeftParenthesis s e = absurd (nested_not 64 _ _ _ _ _ large_nd e)
first_large Separator s e = absurd (empty_not s s.waits _ large_ne e)
first_large End s e = absurd (empty_not s s.waits _ large_ne e)
first_large (Binary _) s e = absurd cc
first_large _ s e = absurd cc

next_large : (token : Token) (s : State) → next_step 64 token s ≡ Err faults.Large → ⊥
next_large Bad s e = cc
next_large (Binary op) s e = ok_not _ _ e
next_large (Assign op) s e = assignment_not op s.code s.waits _ large_ne large_nd e
next_large Question s e = nested_not 64 _ _ _ _ _ large_nd e
next_large Colon s e = choice_not _ _ _ large_ne e
next_large RightParenthesis s e = parenthesis_not _ _ _ large_ne e
next_large Separator s e = end_not _ _ _ large_ne e
next_large End s e = end_not _ _ _ large_ne e
next_large _ s e = cc

pub no_token_is : (b : Bool) (token : Token) (s : State) → cond b (next_step 64 token s) (first_step 64 token s) ≡ Err faults.NoToken → token ≡ Bad
no_token_is true token s e = next_none token s e
no_token_is false token s e = first_none token s e

pub large_is : (b : Bool) (token : Token) (s : State) → cond b (next_step 64 token s) (first_step 64 token s) ≡ Err faults.Large → (token ≡ TooLarge) × (b ≡ false)
large_is true token s e = absurd (next_large token s e)
large_is false token s e = (first_large token s e, refl)

-- where a text has come to
pub record At (text : List ℕ) (before : List Lexeme) (p : Position) : Type 0 where
  pub short : length text ≤ 65536
  pub sound : Sound 64 p
  pub tokens_are : tokens_at p ≡ tokens before
  pub read : steps 64 nothing_read (tokens before) ≡ Ok (state_at p)

pub stands : (text : List ℕ) (before : List Lexeme) (p : Position) (l : Lexeme) (more : List Lexeme) → At text before p → lexemes text ≡ before ++ l ∷ more → StandsAt text before l.0 l.1
stands text before p l more at split = record { short = at.short; after = more; split = split; begins = subst (Begins 64) at.tokens_are (begins 64 p at.sound) }

pub zero_token : 0 < 2 ^ 63
zero_token = omega arith

pub number_taken : (s : State) → s.complete ≡ false → step 64 (Number 0) s ≡ operand (Push 0) s
number_taken s e = ap (λ b. cond b (next_step 64 (Number 0) s) (first_step 64 (Number 0) s)) e

pub number_is_token : ◌≢◌ {A = Token} (Number 0) End
number_is_token e = cc

-- the fault of a step is the grammar's
fault_here : (text : List ℕ) (before : List Lexeme) (p : Position) (l : Lexeme) (more : List Lexeme) (f : Fault) → At text before p → lexemes text ≡ before ++ l ∷ more → Proper (l ∷ more) → step 64 l.0 (state_at p) ≡ Err f → FirstFault text (error_at f l.1)
fault_here text before p l more faults.NoToken at split proper e =
    (before, subst (λ t. StandsAt text before t l.1) (no_token_is (state_at p).complete l.0 (state_at p) e) (stands text before p l more at split))
fault_here text before p l more faults.Misplaced at split proper e =
    (before, l.0, stands text before p l more at split, misplaced (tokens before) (state_at p) l.0 e at.read)
fault_here text before p l more faults.Nested at split proper e =
    elim proper [
      | inl ends ↦ absurd (end_never_deep (state_at p).complete (state_at p) (subst (λ t. step 64 t (state_at p) ≡ Err faults.Nested) ends.0 e))
      | inr other ↦ elim other [
        | inl bad ↦ absurd (bad_flat (state_at p).complete (state_at p) (subst (λ t. step 64 t (state_at p) ≡ Err faults.Nested) bad.0 e))
        | inr good ↦ (before, l.0, stands text before p l more at split, too_deep p l.0 (tokens before) at.sound good.0 good.1 at.tokens_are at.read e)
      ]
    ]
fault_here text before p l more faults.Large at split proper e =
    let is = large_is (state_at p).complete l.0 (state_at p) e in
    let goes = step_sound 64 p (Number 0) _ at.sound zero_token number_is_token (number_taken (state_at p) is.1) in (
      before,
      subst (λ t. StandsAt text before t l.1) is.0 (stands text before p l more at split),
      subst (Begins 64) (goes.tokens ∙ ap (λ x. x ++ Number 0 ∷ []) at.tokens_are) (begins 64 goes.to goes.sound),
    )

tokens_more : (before : List Lexeme) (l : Lexeme) → tokens (before ++ l ∷ []) ≡ tokens before ++ l.0 ∷ []
tokens_more [] l = refl
tokens_more (b ∷ before) l = ap (λ x. b.0 ∷ x) (tokens_more before l)

tokens_end : (before : List Lexeme) (l : Lexeme) (more : List Lexeme) → l.0 ≡ End → more ≡ [] → tokens (before ++ l ∷ more) ≡ tokens before ++ End ∷ []
tokens_end before l more e none = ap (λ m. tokens (before ++ l ∷ m)) none ∙ tokens_more before l ∙ ap (λ t. tokens before ++ t ∷ []) e

-- one lexeme further
further : (text : List ℕ) (before : List Lexeme) (p : Position) (l : Lexeme) (s : State) (at : At text before p) (goes : Goes 64 p l.0 s) → step 64 l.0 (state_at p) ≡ Ok s → At text (before ++ l ∷ []) goes.to
further text before p l s at goes e =
    record {
      short = at.short;
      sound = goes.sound;
      tokens_are = goes.tokens ∙ ap (λ x. x ++ l.0 ∷ []) at.tokens_are ∙ sym (tokens_more before l);
      read = ap (steps 64 nothing_read) (tokens_more before l)
          ∙ steps_append 64 nothing_read (tokens before) (l.0 ∷ [])
          ∙ ap (λ r. step_then r (λ t. steps 64 t (l.0 ∷ []))) at.read
          ∙ ap (λ r. step_then r (λ t. steps 64 t [])) e
          ∙ ap Ok goes.state;
    }

run_end : (s : State) (more : List Lexeme) → more ≡ [] → (e : SyntaxError) → run s more ≡ Err e → ⊥
run_end s more is e h = let x : ◌≡◌ {A = Result State SyntaxError} (Ok s) (Err e) = subst (λ l. run s l ≡ Err e) is h in cc

err_is : (d e : SyntaxError) → ◌≡◌ {A = Result State SyntaxError} (Err d) (Err e) → d ≡ e
err_is d e h = cc

-- a fault of the reader is the text's first fault
pub run_fault : (text : List ℕ) (before rest : List Lexeme) (p : Position) (e : SyntaxError) → At text before p → lexemes text ≡ before ++ rest → Proper rest → run (state_at p) rest ≡ Err e → FirstFault text e
run_fault text before [] p e at split proper h = absurd proper
run_fault text before (l ∷ more) p e at split proper h =
    elim (step 64 l.0 (state_at p)) as (λ r. step 64 l.0 (state_at p) ≡ r → placed l.1 r (λ t. run t more) ≡ Err e → FirstFault text e) [
      | Ok s ↦ λ is go.
          elim proper [
            | inl ends ↦ absurd (run_end s more ends.1 e go)
            | inr other ↦ elim other [
              | inl bad ↦ absurd (bad_stops (state_at p).complete (state_at p) s (subst (λ t. step 64 t (state_at p) ≡ Ok s) bad.0 is))
              | inr good ↦
                  let goes = step_sound 64 p l.0 s at.sound good.0 good.1 is in
                  run_fault text (before ++ l ∷ []) more goes.to e (further text before p l s at goes is) (split ∙ sym (append_assoc before (l ∷ []) more)) good.2 (subst (λ t. run t more ≡ Err e) goes.state go)
            ]
          ]
      | Err f ↦ λ is go. subst (FirstFault text) (err_is (error_at f l.1) e go) (fault_here text before p l more f at split proper is)
    ] refl h

-- what was read whole
pub record Read (text : List ℕ) (s : State) : Type 0 where
  pub trees : List Tree
  pub grammar : Grammar text trees
  pub state : s ≡ awaiting (put_all trees []) []

run_nothing : (s t : State) (more : List Lexeme) → more ≡ [] → run s more ≡ Ok t → t ≡ s
run_nothing s t more is h = let x : ◌≡◌ {A = Result State SyntaxError} (Ok s) (Ok t) = subst (λ l. run s l ≡ Ok t) is h in cc

-- what is read without a fault is a program
pub run_program : (text : List ℕ) (before rest : List Lexeme) (p : Position) (t : State) → At text before p → lexemes text ≡ before ++ rest → Proper rest → run (state_at p) rest ≡ Ok t → Read text t
run_program text before [] p t at split proper h = absurd proper
run_program text before (l ∷ more) p t at split proper h =
    elim (step 64 l.0 (state_at p)) as (λ r. step 64 l.0 (state_at p) ≡ r → placed l.1 r (λ u. run u more) ≡ Ok t → Read text t) [
      | Ok s ↦ λ is go.
          elim proper [
            | inl ends ↦
                let whole = end_sound 64 p s at.sound (subst (λ u. step 64 u (state_at p) ≡ Ok s) ends.0 is) in
                record {
                  trees = whole.trees;
                  grammar = record {
                    short = at.short;
                    all = tokens_at p;
                    read = ap tokens split ∙ tokens_end before l more ends.0 ends.1 ∙ ap (λ x. x ++ End ∷ []) (sym at.tokens_are);
                    program = whole.program;
                  };
                  state = run_nothing s t more ends.1 go ∙ whole.state;
                }
            | inr other ↦ elim other [
              | inl bad ↦ absurd (bad_stops (state_at p).complete (state_at p) s (subst (λ u. step 64 u (state_at p) ≡ Ok s) bad.0 is))
              | inr good ↦
                  let goes = step_sound 64 p l.0 s at.sound good.0 good.1 is in
                  run_program text (before ++ l ∷ []) more goes.to t (further text before p l s at goes is) (split ∙ sym (append_assoc before (l ∷ []) more)) good.2 (subst (λ u. run u more ≡ Ok t) goes.state go)
            ]
          ]
      | Err f ↦ λ is go. absurd cc
    ] refl h

abbrev pub start : Position
start = record { parts = []; trees = []; frames = []; operand = None }

pub start_sound : Sound 64 start
start_sound = record { expressions = refl; each = tt; stacked = tt; operand = tt }

at_start : (text : List ℕ) → length text ≤ 65536 → At text [] start
at_start text short = record { short = short; sound = start_sound; tokens_are = refl; read = refl }

pub fault_first : (text : List ℕ) (e : SyntaxError) → length text ≤ 65536 → Proper (lexemes text) → run nothing_read (lexemes text) ≡ Err e → FirstFault text e
fault_first text e short proper h = run_fault text [] (lexemes text) start e (at_start text short) refl proper h

pub read_program : (text : List ℕ) (s : State) → length text ≤ 65536 → Proper (lexemes text) → run nothing_read (lexemes text) ≡ Ok s → Read text s
read_program text s short proper h = run_program text [] (lexemes text) start s (at_start text short) refl proper h

run_steps : (s t : State) (ls : List Lexeme) → steps 64 s (tokens ls) ≡ Ok t → run s ls ≡ Ok t
run_steps s t [] h = let x : s ≡ t = cc in ap Ok x
run_steps s t (l ∷ more) h =
    let p = after_ok (step 64 l.0 s) (λ u. steps 64 u (tokens more)) t h in
    ap (λ r. placed l.1 r (λ u. run u more)) p.1 ∙ run_steps p.0 t more p.2

-- the text of a program is read
pub program_run : (text : List ℕ) (trees : List Tree) → Grammar text trees → run nothing_read (lexemes text) ≡ Ok (awaiting (put_all trees []) [])
program_run text trees g =
    run_steps nothing_read (awaiting (put_all trees []) []) (lexemes text) (ap (steps 64 nothing_read) g.read ∙ program_read 64 g.all trees g.program)
