-- What is read is in the grammar: what was read so far is expressions that are over, and one that has begun.
use Rattle.std.proofs.Common.{◌≡◌, ℕ, ◌+◌, ◌^◌, ◌<◌, ◌≤◌, Bool, true, false, cond, List, [], ◌∷◌, ◌++◌, Option, Some, None, Ok, Err, refl, sym, ap, subst, ◌∙◌, append_assoc, arith}
use Rattle.std.specs.Prelude.{nat_le, nat_lt, map}
use Rattle.std.specs.List.{filter, AllByRecursion}
use Rattle.arith_syntax.specs.declared.operators.UnaryOperator.{UnaryOperator}
use Rattle.arith_syntax.specs.declared.operators.UnaryOperator.TheVariants.{Plus, Minus, Complement, Not}
use Rattle.arith_syntax.specs.declared.operators.BinaryOperator.{BinaryOperator}
use Rattle.arith_syntax.specs.declared.operators.BinaryOperator.TheVariants.{Add, Subtract}
use Rattle.arith_syntax.specs.declared.token.Token.{Token}
use Rattle.arith_syntax.specs.declared.token.Token.TheVariants.{Number, Name, Binary, Tilde, Exclamation, Assign, Question, Colon, LeftParenthesis, RightParenthesis, Separator, End}
use Rattle.arith_syntax.specs.declared.instruction.Instruction.{Instruction}
use Rattle.arith_syntax.specs.declared.instruction.Instruction.TheVariants.{Open, Sign, Infix, Then, Else, Target, Finish}
use Rattle.arith_syntax.specs.declared.pending.Pending.{Pending}
use Rattle.arith_syntax.specs.declared.pending.Pending.TheVariants.{Parenthesis, Prefixed, Operator, Condition, Alternative, Assigned}
use Rattle.arith_syntax.specs.declared.refusal.Fault.TheVariants.{Misplaced, Nested}
use Rattle.arith_syntax.specs.Tree.{Tree, Constant, Variable, Parenthesized, Unary, Operation, Conditional, Assignment, level, level_of, IsExpression, nesting, tokens_of, sign}
use Rattle.arith_syntax.specs.Grammar.{Fits, joined, is_some_part, IsProgram}
use Rattle.arith_syntax.specs.Reading.{State, tightness, depth_of, ending, close, Step, waiting, nested, empty_expression, first_step, second_choice, parenthesized, expression_end, may_assign, next_step, step, IsLooser}
use Rattle.std.specs.Prelude.{flat_map, ◌⊎◌}
use Rattle.std.proofs.Common.{inl, inr, ◌≢◌}
use Rattle.std.proofs.lemmas.List.{append-nil}
use Rattle.std.proofs.lemmas.Bool.{cases_lt}
use Rattle.arith_syntax.specs.Tree.{assigns, IsName}
use Rattle.arith_syntax.specs.Grammar.{Begins}
use Rattle.arith_syntax.proofs.Complete.{put, put_all, Admits, awaiting, behind, level_of_from, level_of_to}

-- what has begun, with what stands before its operator
pub data Frame : Type 0 where
  Opened : Frame
  Signed : UnaryOperator → Frame
  Left : BinaryOperator → Tree → Frame
  Asked : Tree → Frame
  Chosen : Tree → Tree → Frame
  Named : List ℕ → Option BinaryOperator → Frame

abbrev pub shape : Frame → Pending
shape Opened = Parenthesis
shape (Signed op) = Prefixed op
shape (Left op a) = Operator op
shape (Asked c) = Condition
shape (Chosen c a) = Alternative
shape (Named x op) = Assigned x op

abbrev pub shapes : List Frame → List Pending
shapes [] = []
shapes (f ∷ frames) = shape f ∷ shapes frames

abbrev pub frame_tokens : Frame → List Token
frame_tokens Opened = LeftParenthesis ∷ []
frame_tokens (Signed op) = sign op ∷ []
frame_tokens (Left op a) = tokens_of a ++ Binary op ∷ []
frame_tokens (Asked c) = tokens_of c ++ Question ∷ []
frame_tokens (Chosen c a) = tokens_of c ++ Question ∷ (tokens_of a ++ Colon ∷ [])
frame_tokens (Named x op) = Name x ∷ Assign op ∷ []

-- the tokens of what has begun, the newest first
abbrev pub spelled : List Frame → List Token
spelled [] = []
spelled (f ∷ frames) = spelled frames ++ frame_tokens f

abbrev pub frame_code : Frame → List Instruction → List Instruction
frame_code Opened code = Open ∷ code
frame_code (Signed op) code = Sign op ∷ code
frame_code (Left op a) code = Infix op ∷ put a code
frame_code (Asked c) code = Then ∷ put c code
frame_code (Chosen c a) code = Else ∷ put a (Then ∷ put c code)
frame_code (Named x op) code = Target x op ∷ code

abbrev pub codes : List Frame → List Instruction → List Instruction
codes [] code = code
codes (f ∷ frames) code = frame_code f (codes frames code)

-- the level of the tree that it becomes
abbrev pub gives : Frame → ℕ
gives Opened = 14
gives (Signed op) = 13
gives (Left op a) = level_of op
gives (Asked c) = 2
gives (Chosen c a) = 2
gives (Named x op) = 1

-- what has begun behind a number of open constructs
abbrev pub FrameFits : ℕ → ℕ → Frame → Type 0
FrameFits limit d Opened = d + 1 ≤ limit
FrameFits limit d (Signed op) = d + 1 ≤ limit
FrameFits limit d (Left op a) = IsExpression a × (level_of op ≤ level a) × (nesting a + d ≤ limit)
FrameFits limit d (Asked c) = IsExpression c × (3 ≤ level c) × (nesting c + d ≤ limit) × (d + 1 ≤ limit)
FrameFits limit d (Chosen c a) = IsExpression c × (3 ≤ level c) × (nesting c + d ≤ limit) × IsExpression a × (nesting a + 1 + d ≤ limit)
FrameFits limit d (Named x op) = IsName x × (assigns op ≡ true) × (d + 1 ≤ limit)

abbrev pub Stacked : ℕ → List Frame → Type 0
Stacked limit [] = Unit {0}
Stacked limit (f ∷ frames) = FrameFits limit (depth_of (shapes frames)) f × Admits (shapes frames) (gives f) × Stacked limit frames

-- an operand behind what has begun
pub record TopFits (limit : ℕ) (e : Tree) (frames : List Frame) : Type 0 where
  pub grammar : IsExpression e
  pub depth : nesting e + depth_of (shapes frames) ≤ limit
  pub admitted : Admits (shapes frames) (level e)

-- what takes an operand that it waits for
abbrev pub fill : Frame → Tree → Tree
fill Opened e = Parenthesized e
fill (Signed op) e = Unary op e
fill (Left op a) e = Operation op a e
fill (Asked c) e = Conditional c e (Constant 0)
fill (Chosen c a) e = Conditional c a e
fill (Named x op) e = Assignment x op e

-- what has to stand behind the operand
abbrev pub closer : Frame → List Token
closer Opened = RightParenthesis ∷ []
closer (Asked c) = Colon ∷ Number 0 ∷ []
closer _ = []

pub fill_tokens : (f : Frame) (e : Tree) → frame_tokens f ++ (tokens_of e ++ closer f) ≡ tokens_of (fill f e)
fill_tokens Opened e = refl
fill_tokens (Signed op) e = ap (λ l. sign op ∷ l) (append-nil (tokens_of e))
fill_tokens (Left op a) e = append_assoc (tokens_of a) (Binary op ∷ []) (tokens_of e ++ []) ∙ ap (λ l. tokens_of a ++ Binary op ∷ l) (append-nil (tokens_of e))
fill_tokens (Asked c) e = append_assoc (tokens_of c) (Question ∷ []) (tokens_of e ++ Colon ∷ Number 0 ∷ [])
fill_tokens (Chosen c a) e =
    append_assoc (tokens_of c) (Question ∷ (tokens_of a ++ Colon ∷ [])) (tokens_of e ++ [])
    ∙ ap (λ l. tokens_of c ++ Question ∷ l) (append_assoc (tokens_of a) (Colon ∷ []) (tokens_of e ++ []) ∙ ap (λ l. tokens_of a ++ Colon ∷ l) (append-nil (tokens_of e)))
fill_tokens (Named x op) e = ap (λ l. Name x ∷ Assign op ∷ l) (append-nil (tokens_of e))

zero_fits : 0 < 2 ^ 63
zero_fits = omega arith

pub fill_fits : (limit : ℕ) (f : Frame) (frames : List Frame) (e : Tree) → Stacked limit (f ∷ frames) → TopFits limit e (f ∷ frames) → TopFits limit (fill f e) frames
fill_fits limit Opened frames e s t = record { grammar = t.grammar; depth = omega (arith, t.depth); admitted = s.1 }
fill_fits limit (Signed op) frames e s t = record { grammar = (t.admitted, t.grammar); depth = omega (arith, t.depth); admitted = s.1 }
fill_fits limit (Left op a) frames e s t =
    record { grammar = (s.0.1, omega (arith, t.admitted), s.0.0, t.grammar); depth = omega (arith, t.depth, s.0.2); admitted = s.1 }
fill_fits limit (Asked c) frames e s t =
    record { grammar = (s.0.1, omega arith, s.0.0, t.grammar, zero_fits); depth = omega (arith, t.depth, s.0.2, s.0.3); admitted = s.1 }
fill_fits limit (Chosen c a) frames e s t =
    record { grammar = (s.0.1, t.admitted, s.0.0, s.0.3, t.grammar); depth = omega (arith, t.depth, s.0.2, s.0.4); admitted = s.1 }
fill_fits limit (Named x op) frames e s t = record { grammar = (s.0.0, s.0.1, t.grammar); depth = omega (arith, t.depth); admitted = s.1 }

-- the least operand that may stand for a missing one
abbrev pub zero_tree : Tree
zero_tree = Constant 0

-- what has begun becomes an expression with these tokens behind it
pub record Finished (limit : ℕ) (frames : List Frame) (e : Tree) : Type 0 where
  pub rest : List Token
  pub tree : Tree
  pub is : spelled frames ++ (tokens_of e ++ rest) ≡ tokens_of tree
  pub fits : Fits limit tree

regroup : (a b c d e : List Token) → (a ++ b) ++ (c ++ (d ++ e)) ≡ a ++ ((b ++ (c ++ d)) ++ e)
regroup a b c d e = simp append_assoc

pub finish : (limit : ℕ) (frames : List Frame) (e : Tree) → Stacked limit frames → TopFits limit e frames → Finished limit frames e
finish limit [] e s t = record { rest = []; tree = e; is = append-nil (tokens_of e); fits = record { grammar = t.grammar; depth = omega (arith, t.depth) } }
finish limit (f ∷ frames) e s t =
    let more = finish limit frames (fill f e) s.2 (fill_fits limit f frames e s t) in
    record {
      rest = closer f ++ more.rest;
      tree = more.tree;
      is = regroup (spelled frames) (frame_tokens f) (tokens_of e) (closer f) more.rest
          ∙ ap (λ l. spelled frames ++ (l ++ more.rest)) (fill_tokens f e)
          ∙ more.is;
      fits = more.fits;
    }

-- an operand is closed up to a level
pub record Closed (limit : ℕ) (k : ℕ) (frames : List Frame) (e : Tree) (code : List Instruction) : Type 0 where
  pub left : List Frame
  pub tree : Tree
  pub is : close k (put e (codes frames code)) (shapes frames) ≡ behind (put tree (codes left code)) (shapes left)
  pub tokens : spelled frames ++ tokens_of e ≡ spelled left ++ tokens_of tree
  pub stacked : Stacked limit left
  pub fits : TopFits limit tree left
  pub high : k ≤ level tree
  pub looser : IsLooser k (shapes left)

-- what closes puts the instructions of its tree
pub ends_code : (f : Frame) (e : Tree) (code : List Instruction) → 1 ≤ tightness (shape f) → ending (shape f) ∷ put e (frame_code f code) ≡ put (fill f e) code
ends_code Opened e code h = absurd (omega arith)
ends_code (Signed op) e code h = refl
ends_code (Left op a) e code h = refl
ends_code (Asked c) e code h = absurd (omega arith)
ends_code (Chosen c a) e code h = refl
ends_code (Named x op) e code h = refl

fill_level : (f : Frame) (e : Tree) → 1 ≤ tightness (shape f) → level (fill f e) ≡ tightness (shape f)
fill_level Opened e h = absurd (omega arith)
fill_level (Signed op) e h = refl
fill_level (Left op a) e h = refl
fill_level (Asked c) e h = absurd (omega arith)
fill_level (Chosen c a) e h = refl
fill_level (Named x op) e h = refl

none_behind : (f : Frame) → 1 ≤ tightness (shape f) → closer f ≡ []
none_behind Opened h = absurd (omega arith)
none_behind (Signed op) h = refl
none_behind (Left op a) h = refl
none_behind (Asked c) h = absurd (omega arith)
none_behind (Chosen c a) h = refl
none_behind (Named x op) h = refl

le_test : (m n : ℕ) → (m ≤ n) ⊎ (n < m)
le_test m n = elim (cases_lt n m) [ inl lt ↦ inr lt | inr le ↦ inl le ]

nat_le_true : (m n : ℕ) → m ≤ n → nat_le m n ≡ true
nat_le_true m n h = grind arith

nat_le_false : (m n : ℕ) → n < m → nat_le m n ≡ false
nat_le_false m n h = grind arith

pub close_all : (limit k : ℕ) (frames : List Frame) (e : Tree) (code : List Instruction) → 1 ≤ k → k ≤ level e → Stacked limit frames → TopFits limit e frames → Closed limit k frames e code
close_all limit k [] e code one high s t = record { left = []; tree = e; is = refl; tokens = refl; stacked = tt; fits = t; high = high; looser = tt }
close_all limit k (f ∷ frames) e code one high s t =
    elim (le_test k (tightness (shape f))) [
      | inl le ↦
          let tight : 1 ≤ tightness (shape f) = omega arith in
          let level_is = fill_level f e tight in
          let more = close_all limit k frames (fill f e) code one (omega (arith, level_is)) s.2 (fill_fits limit f frames e s t) in
          record {
            left = more.left;
            tree = more.tree;
            is = ap (λ b. cond b (close k (ending (shape f) ∷ put e (frame_code f (codes frames code))) (shapes frames)) (behind (put e (frame_code f (codes frames code))) (shape f ∷ shapes frames))) (nat_le_true k (tightness (shape f)) le)
                ∙ ap (λ l. close k l (shapes frames)) (ends_code f e (codes frames code) tight)
                ∙ more.is;
            tokens = append_assoc (spelled frames) (frame_tokens f) (tokens_of e)
                ∙ ap (λ l. spelled frames ++ (frame_tokens f ++ l)) (sym (append-nil (tokens_of e)) ∙ ap (λ l. tokens_of e ++ l) (sym (none_behind f tight)))
                ∙ ap (λ l. spelled frames ++ l) (fill_tokens f e)
                ∙ more.tokens;
            stacked = more.stacked;
            fits = more.fits;
            high = more.high;
            looser = more.looser;
          }
      | inr lt ↦
          record {
            left = f ∷ frames;
            tree = e;
            is = ap (λ b. cond b (close k (ending (shape f) ∷ put e (frame_code f (codes frames code))) (shapes frames)) (behind (put e (frame_code f (codes frames code))) (shape f ∷ shapes frames))) (nat_le_false k (tightness (shape f)) lt);
            tokens = refl;
            stacked = s;
            fits = t;
            high = high;
            looser = lt;
          }
    ]

-- where a text has come to: parts that are over, and an expression that has begun
pub record Position : Type 0 where
  pub parts : List (List Token)
  pub trees : List Tree
  pub frames : List Frame
  pub operand : Option Tree

abbrev pub top_tokens : Option Tree → List Token
top_tokens None = []
top_tokens (Some e) = tokens_of e

abbrev pub over : List (List Token) → List Token
over parts = flat_map (λ p. p ++ Separator ∷ []) parts

abbrev pub tokens_at : Position → List Token
tokens_at p = over p.parts ++ (spelled p.frames ++ top_tokens p.operand)

abbrev pub state_with : List Tree → List Frame → Option Tree → State
state_with trees frames None = awaiting (codes frames (put_all trees [])) (shapes frames)
state_with trees frames (Some e) = behind (put e (codes frames (put_all trees []))) (shapes frames)

abbrev pub state_at : Position → State
state_at p = state_with p.trees p.frames p.operand

abbrev pub OperandFits : ℕ → List Frame → Option Tree → Type 0
OperandFits limit frames None = Unit {0}
OperandFits limit frames (Some e) = TopFits limit e frames × (14 ≤ level e)

pub record Sound (limit : ℕ) (p : Position) : Type 0 where
  pub expressions : filter is_some_part p.parts ≡ map tokens_of p.trees
  pub each : AllByRecursion (Fits limit) p.trees
  pub stacked : Stacked limit p.frames
  pub operand : OperandFits limit p.frames p.operand

-- what a token was, if it came from a text
abbrev pub IsToken : Token → Type 0
IsToken (Number n) = n < 2 ^ 63
IsToken (Name x) = IsName x
IsToken (Assign op) = assigns op ≡ true
IsToken _ = Unit {0}

-- the next position
pub record Goes (limit : ℕ) (p : Position) (token : Token) (s : State) : Type 0 where
  pub to : Position
  pub sound : Sound limit to
  pub state : s ≡ state_at to
  pub tokens : tokens_at to ≡ tokens_at p ++ token ∷ []

pub record NestedSays (limit : ℕ) (i : Instruction) (p : Pending) (code : List Instruction) (waits : List Pending) (s : State) : Type 0 where
  pub below : depth_of waits < limit
  pub is : s ≡ waiting i p code waits

ltb_true : (m n : ℕ) → m < n → nat_lt m n ≡ true
ltb_true m n h = grind arith

ltb_false : (m n : ℕ) → n ≤ m → nat_lt m n ≡ false
ltb_false m n h = grind arith

ok_is : (a b : State) → ◌≡◌ {A = Step} (Ok a) (Ok b) → b ≡ a
ok_is a b e = cc

nested_says : (limit : ℕ) (i : Instruction) (p : Pending) (code : List Instruction) (waits : List Pending) (s : State) → nested limit i p code waits ≡ Ok s → NestedSays limit i p code waits s
nested_says limit i p code waits s e =
    elim (cases_lt (depth_of waits) limit) [
      | inl lt ↦
          let is : ◌≡◌ {A = Step} (Ok (waiting i p code waits)) (Ok s) = ap (λ b. cond b (Ok (waiting i p code waits)) (Err Nested)) (sym (ltb_true _ _ lt)) ∙ e in
          record { below = lt; is = ok_is (waiting i p code waits) s is }
      | inr le ↦
          let is : ◌≡◌ {A = Step} (Err Nested) (Ok s) = ap (λ b. cond b (Ok (waiting i p code waits)) (Err Nested)) (sym (ltb_false _ _ le)) ∙ e in
          absurd cc
    ]

at_end : (a b c d : List Token) → a ++ ((b ++ c) ++ d) ≡ (a ++ (b ++ [])) ++ (c ++ d)
at_end a b c d = simp (append_assoc, append-nil)

last_end : (a b c : List Token) → a ++ (b ++ c) ≡ (a ++ (b ++ [])) ++ c
last_end a b c = simp (append_assoc, append-nil)

regroup_last : (a b c d : List Token) → a ++ ((b ++ (c ++ d)) ++ []) ≡ (a ++ (b ++ c)) ++ d
regroup_last a b c d = simp (append_assoc, append-nil)

choice_tokens : (a c t : List Token) (q k : Token) → (a ++ (c ++ q ∷ (t ++ k ∷ []))) ++ [] ≡ ((a ++ (c ++ q ∷ [])) ++ t) ++ k ∷ []
choice_tokens a c t q k = simp (append_assoc, append-nil)

close_tokens : (a t l r : List Token) → a ++ (l ++ (t ++ r)) ≡ ((a ++ l) ++ t) ++ r
close_tokens a t l r = simp append_assoc

begun_tokens : (a b : List Token) (x : Token) (rest : List Token) → a ++ (b ++ x ∷ rest) ≡ (a ++ (b ++ [])) ++ x ∷ rest
begun_tokens a b x rest = simp (append_assoc, append-nil)

regroup_rest : (a b c rest : List Token) → a ++ (b ++ (c ++ rest)) ≡ (a ++ (b ++ c)) ++ rest
regroup_rest a b c rest = simp append_assoc

-- an operator in front of an operand
opens : (limit : ℕ) (p : Position) (f : Frame) (token : Token) (s : State) → Sound limit p → p.operand ≡ None → frame_tokens f ≡ token ∷ [] → FrameFits limit (depth_of (shapes p.frames)) f → Admits (shapes p.frames) (gives f) → s ≡ state_with p.trees (f ∷ p.frames) None → Goes limit p token s
opens limit p f token s g none single fits adm is =
    record {
      to = record { parts = p.parts; trees = p.trees; frames = f ∷ p.frames; operand = None };
      sound = record { expressions = g.expressions; each = g.each; stacked = (fits, adm, g.stacked); operand = tt };
      state = is;
      tokens = ap (λ l. over p.parts ++ ((spelled p.frames ++ l) ++ [])) single
          ∙ at_end (over p.parts) (spelled p.frames) (token ∷ []) []
          ∙ ap (λ o. (over p.parts ++ (spelled p.frames ++ top_tokens o)) ++ token ∷ []) (sym none);
    }

admits_operand : (frames : List Frame) (n : ℕ) → 13 ≤ n → Admits (shapes frames) n
admits_operand [] n h = tt
admits_operand (Opened ∷ frames) n h = omega arith
admits_operand (Signed op ∷ frames) n h = omega arith
admits_operand (Left op a ∷ frames) n h = omega (arith, level_of_to op)
admits_operand (Asked c ∷ frames) n h = omega arith
admits_operand (Chosen c a ∷ frames) n h = omega arith
admits_operand (Named x op ∷ frames) n h = omega arith

-- an operand where one is awaited
operand_read : (limit : ℕ) (p : Position) (e : Tree) (token : Token) (s : State) → Sound limit p → p.operand ≡ None → tokens_of e ≡ token ∷ [] → TopFits limit e p.frames → 14 ≤ level e → s ≡ state_with p.trees p.frames (Some e) → Goes limit p token s
operand_read limit p e token s g none single fits high is =
    record {
      to = record { parts = p.parts; trees = p.trees; frames = p.frames; operand = Some e };
      sound = record { expressions = g.expressions; each = g.each; stacked = g.stacked; operand = (fits, high) };
      state = is;
      tokens = ap (λ l. over p.parts ++ (spelled p.frames ++ l)) single
          ∙ last_end (over p.parts) (spelled p.frames) (token ∷ [])
          ∙ ap (λ o. (over p.parts ++ (spelled p.frames ++ top_tokens o)) ++ token ∷ []) (sym none);
    }

-- what begins fits by its depth alone
depth_fits : (limit : ℕ) (frames : List Frame) → Stacked limit frames → 0 < depth_of (shapes frames) → depth_of (shapes frames) ≤ limit
depth_fits limit [] s pos = absurd (omega arith)
depth_fits limit (Opened ∷ frames) s pos = omega (arith, s.0)
depth_fits limit (Signed op ∷ frames) s pos = omega (arith, s.0)
depth_fits limit (Left op a ∷ frames) s pos = omega (arith, s.0.2)
depth_fits limit (Asked c ∷ frames) s pos = omega (arith, s.0.3)
depth_fits limit (Chosen c a ∷ frames) s pos = omega (arith, s.0.4)
depth_fits limit (Named x op ∷ frames) s pos = omega (arith, s.0.2)

bound : (limit : ℕ) (frames : List Frame) → Stacked limit frames → depth_of (shapes frames) ≤ limit
bound limit frames s =
    elim (cases_lt 0 (depth_of (shapes frames))) [ inl lt ↦ depth_fits limit frames s lt | inr le ↦ omega arith ]

sign_opens : (limit : ℕ) (p : Position) (op : UnaryOperator) (s : State) → Sound limit p → p.operand ≡ None → nested limit (Sign op) (Prefixed op) (codes p.frames (put_all p.trees [])) (shapes p.frames) ≡ Ok s → Goes limit p (sign op) s
sign_opens limit p op s g none e =
    let says = nested_says limit (Sign op) (Prefixed op) (codes p.frames (put_all p.trees [])) (shapes p.frames) s e in
    opens limit p (Signed op) (sign op) s g none refl (omega (arith, says.below)) (admits_operand p.frames 13 (omega arith)) says.is

all_parts : (parts : List (List Token)) → over (parts ++ [] ∷ []) ≡ over parts ++ Separator ∷ []
all_parts [] = refl
all_parts (q ∷ parts) = ap (λ l. (q ++ Separator ∷ []) ++ l) (all_parts parts) ∙ sym (append_assoc (q ++ Separator ∷ []) (over parts) (Separator ∷ []))

filter_empty : (parts : List (List Token)) → filter is_some_part (parts ++ [] ∷ []) ≡ filter is_some_part parts
filter_empty [] = refl
filter_empty ([] ∷ parts) = filter_empty parts
filter_empty ((x ∷ xs) ∷ parts) = ap (λ l. (x ∷ xs) ∷ l) (filter_empty parts)

empty_read : (limit : ℕ) (parts : List (List Token)) (trees : List Tree) (frames : List Frame) (s : State) → Sound limit (record { parts = parts; trees = trees; frames = frames; operand = None }) → empty_expression (state_with trees frames None) (shapes frames) ≡ Ok s → Goes limit (record { parts = parts; trees = trees; frames = frames; operand = None }) Separator s
empty_read limit parts trees [] s g e =
    record {
      to = record { parts = parts ++ [] ∷ []; trees = trees; frames = []; operand = None };
      sound = record { expressions = filter_empty parts ∙ g.expressions; each = g.each; stacked = tt; operand = tt };
      state = ok_is _ s e;
      tokens = append-nil (over (parts ++ [] ∷ [])) ∙ all_parts parts ∙ ap (λ l. l ++ Separator ∷ []) (sym (append-nil (over parts)));
    }
empty_read limit parts trees (f ∷ frames) s g e = absurd cc

-- a token where an operand is awaited
first_sound : (limit : ℕ) (parts : List (List Token)) (trees : List Tree) (frames : List Frame) (token : Token) (s : State) → Sound limit (record { parts = parts; trees = trees; frames = frames; operand = None }) → IsToken token → token ≢ End → first_step limit token (state_with trees frames None) ≡ Ok s → Goes limit (record { parts = parts; trees = trees; frames = frames; operand = None }) token s
first_sound limit parts trees frames (Number n) s g t ne e =
    operand_read limit _ (Constant n) (Number n) s g refl refl (record { grammar = t; depth = omega (arith, bound limit frames g.stacked); admitted = admits_operand frames 14 (omega arith) }) (omega arith) (ok_is _ s e)
first_sound limit parts trees frames (Name x) s g t ne e =
    operand_read limit _ (Variable x) (Name x) s g refl refl (record { grammar = t; depth = omega (arith, bound limit frames g.stacked); admitted = admits_operand frames 14 (omega arith) }) (omega arith) (ok_is _ s e)
first_sound limit parts trees frames (Binary Add) s g t ne e = sign_opens limit _ Plus s g refl e
first_sound limit parts trees frames (Binary Subtract) s g t ne e = sign_opens limit _ Minus s g refl e
first_sound limit parts trees frames Tilde s g t ne e = sign_opens limit _ Complement s g refl e
first_sound limit parts trees frames Exclamation s g t ne e = sign_opens limit _ Not s g refl e
first_sound limit parts trees frames LeftParenthesis s g t ne e =
    let says = nested_says limit Open Parenthesis (codes frames (put_all trees [])) (shapes frames) s e in
    opens limit _ Opened LeftParenthesis s g refl refl (omega (arith, says.below)) (admits_operand frames 14 (omega arith)) says.is
first_sound limit parts trees frames Separator s g t ne e = empty_read limit parts trees frames s g e
first_sound limit parts trees frames End s g t ne e = absurd (ne refl)
first_sound limit parts trees frames (Binary _) s g t ne e = absurd cc
first_sound limit parts trees frames _ s g t ne e = absurd cc

-- the operand is closed up to a level, and what it stands behind
closed_at : (limit k : ℕ) (parts : List (List Token)) (trees : List Tree) (frames : List Frame) (e : Tree) → 1 ≤ k → k ≤ 14 → Sound limit (record { parts = parts; trees = trees; frames = frames; operand = Some e }) → Closed limit k frames e (put_all trees [])
closed_at limit k parts trees frames e one small g = close_all limit k frames e (put_all trees []) one (omega (arith, g.operand.1)) g.stacked g.operand.0

-- an operator behind an operand
operator_read : (limit : ℕ) (parts : List (List Token)) (trees : List Tree) (frames left : List Frame) (e tree : Tree) (f : Frame) (token : Token) (s : State) → filter is_some_part parts ≡ map tokens_of trees → AllByRecursion (Fits limit) trees → spelled frames ++ tokens_of e ≡ spelled left ++ tokens_of tree → Stacked limit (f ∷ left) → frame_tokens f ≡ tokens_of tree ++ token ∷ [] → s ≡ state_with trees (f ∷ left) None → Goes limit (record { parts = parts; trees = trees; frames = frames; operand = Some e }) token s
operator_read limit parts trees frames left e tree f token s ex each same stacked single is =
    record {
      to = record { parts = parts; trees = trees; frames = f ∷ left; operand = None };
      sound = record { expressions = ex; each = each; stacked = stacked; operand = tt };
      state = is;
      tokens = ap (λ l. over parts ++ ((spelled left ++ l) ++ [])) single
          ∙ regroup_last (over parts) (spelled left) (tokens_of tree) (token ∷ [])
          ∙ ap (λ l. (over parts ++ l) ++ token ∷ []) (sym same);
    }

admits_left : (limit : ℕ) (op : BinaryOperator) (left : List Frame) → Stacked limit left → IsLooser (level_of op) (shapes left) → Admits (shapes left) (level_of op)
admits_left limit op [] s h = tt
admits_left limit op (Opened ∷ left) s h = omega (arith, level_of_from op)
admits_left limit op (Signed o ∷ left) s h = absurd (omega (arith, level_of_to op))
admits_left limit op (Left o a ∷ left) s h = omega arith
admits_left limit op (Asked c ∷ left) s h = omega (arith, level_of_from op)
admits_left limit op (Chosen c a ∷ left) s h = omega (arith, level_of_from op)
admits_left limit op (Named x o ∷ left) s h = omega (arith, level_of_from op)

admits_choice : (left : List Frame) → IsLooser 3 (shapes left) → Admits (shapes left) 2
admits_choice [] h = tt
admits_choice (Opened ∷ left) h = omega arith
admits_choice (Signed o ∷ left) h = absurd (omega arith)
admits_choice (Left o a ∷ left) h = absurd (omega (arith, level_of_from o))
admits_choice (Asked c ∷ left) h = omega arith
admits_choice (Chosen c a ∷ left) h = omega arith
admits_choice (Named x o ∷ left) h = omega arith

admits_name : (frames : List Frame) → may_assign (shapes frames) ≡ true → Admits (shapes frames) 1
admits_name [] h = tt
admits_name (Opened ∷ left) h = omega arith
admits_name (Signed o ∷ left) h = absurd cc
admits_name (Left o a ∷ left) h = absurd cc
admits_name (Asked c ∷ left) h = omega arith
admits_name (Chosen c a ∷ left) h = absurd cc
admits_name (Named x o ∷ left) h = omega arith

binary_read : (limit : ℕ) (parts : List (List Token)) (trees : List Tree) (frames : List Frame) (e : Tree) (op : BinaryOperator) (s : State) → Sound limit (record { parts = parts; trees = trees; frames = frames; operand = Some e }) → next_step limit (Binary op) (state_with trees frames (Some e)) ≡ Ok s → Goes limit (record { parts = parts; trees = trees; frames = frames; operand = Some e }) (Binary op) s
binary_read limit parts trees frames e op s g h =
    let c = closed_at limit (level_of op) parts trees frames e (omega (arith, level_of_from op)) (omega (arith, level_of_to op)) g in
    operator_read limit parts trees frames c.left e c.tree (Left op c.tree) (Binary op) s g.expressions g.each c.tokens
    ((c.fits.grammar, c.high, c.fits.depth), admits_left limit op c.left c.stacked c.looser, c.stacked) refl
    (ok_is _ s (ap (λ (t : State). let r : Step = Ok (waiting (Infix op) (Operator op) t.code t.waits) in r) (sym c.is) ∙ h))

question_read : (limit : ℕ) (parts : List (List Token)) (trees : List Tree) (frames : List Frame) (e : Tree) (s : State) → Sound limit (record { parts = parts; trees = trees; frames = frames; operand = Some e }) → next_step limit Question (state_with trees frames (Some e)) ≡ Ok s → Goes limit (record { parts = parts; trees = trees; frames = frames; operand = Some e }) Question s
question_read limit parts trees frames e s g h =
    let c = closed_at limit 3 parts trees frames e (omega arith) (omega arith) g in
    let says = nested_says limit Then Condition (put c.tree (codes c.left (put_all trees []))) (shapes c.left) s (ap (λ (t : State). nested limit Then Condition t.code t.waits) (sym c.is) ∙ h) in
    operator_read limit parts trees frames c.left e c.tree (Asked c.tree) Question s g.expressions g.each c.tokens
    ((c.fits.grammar, c.high, c.fits.depth, omega (arith, says.below)), admits_choice c.left c.looser, c.stacked) refl says.is

choice_read : (limit : ℕ) (parts : List (List Token)) (trees : List Tree) (frames left : List Frame) (e tree : Tree) (s : State) → Sound limit (record { parts = parts; trees = trees; frames = frames; operand = Some e }) → spelled frames ++ tokens_of e ≡ spelled left ++ tokens_of tree → Stacked limit left → TopFits limit tree left → second_choice (put tree (codes left (put_all trees []))) (shapes left) ≡ Ok s → Goes limit (record { parts = parts; trees = trees; frames = frames; operand = Some e }) Colon s
choice_read limit parts trees frames [] e tree s g same st fits h = absurd cc
choice_read limit parts trees frames (Opened ∷ left) e tree s g same st fits h = absurd cc
choice_read limit parts trees frames (Signed o ∷ left) e tree s g same st fits h = absurd cc
choice_read limit parts trees frames (Left o a ∷ left) e tree s g same st fits h = absurd cc
choice_read limit parts trees frames (Chosen c a ∷ left) e tree s g same st fits h = absurd cc
choice_read limit parts trees frames (Named x o ∷ left) e tree s g same st fits h = absurd cc
choice_read limit parts trees frames (Asked c ∷ left) e tree s g same st fits h =
    record {
      to = record { parts = parts; trees = trees; frames = Chosen c tree ∷ left; operand = None };
      sound = record { expressions = g.expressions; each = g.each; stacked = ((st.0.0, st.0.1, st.0.2, fits.grammar, omega (arith, fits.depth)), st.1, st.2); operand = tt };
      state = ok_is _ s h;
      tokens = ap (λ l. over parts ++ l) (choice_tokens (spelled left) (tokens_of c) (tokens_of tree) Question Colon)
          ∙ sym (append_assoc (over parts) ((spelled left ++ (tokens_of c ++ Question ∷ [])) ++ tokens_of tree) (Colon ∷ []))
          ∙ ap (λ l. (over parts ++ l) ++ Colon ∷ []) (sym same);
    }

colon_read : (limit : ℕ) (parts : List (List Token)) (trees : List Tree) (frames : List Frame) (e : Tree) (s : State) → Sound limit (record { parts = parts; trees = trees; frames = frames; operand = Some e }) → next_step limit Colon (state_with trees frames (Some e)) ≡ Ok s → Goes limit (record { parts = parts; trees = trees; frames = frames; operand = Some e }) Colon s
colon_read limit parts trees frames e s g h =
    let c = closed_at limit 1 parts trees frames e (omega arith) (omega arith) g in
    choice_read limit parts trees frames c.left e c.tree s g c.tokens c.stacked c.fits (ap (λ (t : State). second_choice t.code t.waits) (sym c.is) ∙ h)

close_read : (limit : ℕ) (parts : List (List Token)) (trees : List Tree) (frames left : List Frame) (e tree : Tree) (s : State) → Sound limit (record { parts = parts; trees = trees; frames = frames; operand = Some e }) → spelled frames ++ tokens_of e ≡ spelled left ++ tokens_of tree → Stacked limit left → TopFits limit tree left → parenthesized (put tree (codes left (put_all trees []))) (shapes left) ≡ Ok s → Goes limit (record { parts = parts; trees = trees; frames = frames; operand = Some e }) RightParenthesis s
close_read limit parts trees frames [] e tree s g same st fits h = absurd cc
close_read limit parts trees frames (Asked c ∷ left) e tree s g same st fits h = absurd cc
close_read limit parts trees frames (Signed o ∷ left) e tree s g same st fits h = absurd cc
close_read limit parts trees frames (Left o a ∷ left) e tree s g same st fits h = absurd cc
close_read limit parts trees frames (Chosen c a ∷ left) e tree s g same st fits h = absurd cc
close_read limit parts trees frames (Named x o ∷ left) e tree s g same st fits h = absurd cc
close_read limit parts trees frames (Opened ∷ left) e tree s g same st fits h =
    record {
      to = record { parts = parts; trees = trees; frames = left; operand = Some (Parenthesized tree) };
      sound = record { expressions = g.expressions; each = g.each; stacked = st.2; operand = (fill_fits limit Opened left tree st fits, omega arith) };
      state = ok_is _ s h;
      tokens = ap (λ l. over parts ++ l) (close_tokens (spelled left) (tokens_of tree) (LeftParenthesis ∷ []) (RightParenthesis ∷ []))
          ∙ sym (append_assoc (over parts) ((spelled left ++ LeftParenthesis ∷ []) ++ tokens_of tree) (RightParenthesis ∷ []))
          ∙ ap (λ l. (over parts ++ l) ++ RightParenthesis ∷ []) (sym same);
    }

parenthesis_read : (limit : ℕ) (parts : List (List Token)) (trees : List Tree) (frames : List Frame) (e : Tree) (s : State) → Sound limit (record { parts = parts; trees = trees; frames = frames; operand = Some e }) → next_step limit RightParenthesis (state_with trees frames (Some e)) ≡ Ok s → Goes limit (record { parts = parts; trees = trees; frames = frames; operand = Some e }) RightParenthesis s
parenthesis_read limit parts trees frames e s g h =
    let c = closed_at limit 1 parts trees frames e (omega arith) (omega arith) g in
    close_read limit parts trees frames c.left e c.tree s g c.tokens c.stacked c.fits (ap (λ (t : State). parenthesized t.code t.waits) (sym c.is) ∙ h)

-- an assignment operator behind a name
name_read : (limit : ℕ) (parts : List (List Token)) (trees : List Tree) (frames : List Frame) (x : List ℕ) (op : Option BinaryOperator) (s : State) → Sound limit (record { parts = parts; trees = trees; frames = frames; operand = Some (Variable x) }) → assigns op ≡ true → may_assign (shapes frames) ≡ true → nested limit (Target x op) (Assigned x op) (codes frames (put_all trees [])) (shapes frames) ≡ Ok s → Goes limit (record { parts = parts; trees = trees; frames = frames; operand = Some (Variable x) }) (Assign op) s
name_read limit parts trees frames x op s g t may h =
    let says = nested_says limit (Target x op) (Assigned x op) (codes frames (put_all trees [])) (shapes frames) s h in
    record {
      to = record { parts = parts; trees = trees; frames = Named x op ∷ frames; operand = None };
      sound = record { expressions = g.expressions; each = g.each; stacked = ((g.operand.0.grammar, t, omega (arith, says.below)), admits_name frames may, g.stacked); operand = tt };
      state = says.is;
      tokens = regroup_last (over parts) (spelled frames) (Name x ∷ []) (Assign op ∷ []);
    }

may_or_not : (b : Bool) (x : Step) (s : State) → cond b x (Err Misplaced) ≡ Ok s → (b ≡ true) × (x ≡ Ok s)
may_or_not true x s e = (refl, e)
may_or_not false x s e = absurd cc

assign_read : (limit : ℕ) (parts : List (List Token)) (trees : List Tree) (frames : List Frame) (e : Tree) (op : Option BinaryOperator) (s : State) → Sound limit (record { parts = parts; trees = trees; frames = frames; operand = Some e }) → assigns op ≡ true → next_step limit (Assign op) (state_with trees frames (Some e)) ≡ Ok s → Goes limit (record { parts = parts; trees = trees; frames = frames; operand = Some e }) (Assign op) s
assign_read limit parts trees frames (Variable x) op s g t h =
    let says = may_or_not (may_assign (shapes frames)) (nested limit (Target x op) (Assigned x op) (codes frames (put_all trees [])) (shapes frames)) s h in
    name_read limit parts trees frames x op s g t says.0 says.1
assign_read limit parts trees frames (Constant n) op s g t h = absurd cc
assign_read limit parts trees frames (Parenthesized e) op s g t h = absurd cc
assign_read limit parts trees frames (Unary o e) op s g t h = absurd cc
assign_read limit parts trees frames (Operation o a b) op s g t h = absurd cc
assign_read limit parts trees frames (Conditional c a b) op s g t h = absurd cc
assign_read limit parts trees frames (Assignment x o e) op s g t h = absurd cc

-- the end of an expression: it is one more tree
pub record Ended (limit : ℕ) (trees : List Tree) (frames : List Frame) (e : Tree) (s : State) : Type 0 where
  pub tree : Tree
  pub fits : Fits limit tree
  pub tokens : spelled frames ++ tokens_of e ≡ tokens_of tree
  pub state : s ≡ awaiting (Finish ∷ put tree (put_all trees [])) []

ended_with : (limit : ℕ) (trees : List Tree) (frames left : List Frame) (e tree : Tree) (s : State) → spelled frames ++ tokens_of e ≡ spelled left ++ tokens_of tree → TopFits limit tree left → expression_end (put tree (codes left (put_all trees []))) (shapes left) ≡ Ok s → Ended limit trees frames e s
ended_with limit trees frames [] e tree s same fits h =
    record { tree = tree; fits = record { grammar = fits.grammar; depth = omega (arith, fits.depth) }; tokens = same; state = ok_is _ s h }
ended_with limit trees frames (f ∷ left) e tree s same fits h = absurd cc

ended : (limit : ℕ) (parts : List (List Token)) (trees : List Tree) (frames : List Frame) (e : Tree) (s : State) → Sound limit (record { parts = parts; trees = trees; frames = frames; operand = Some e }) → next_step limit Separator (state_with trees frames (Some e)) ≡ Ok s → Ended limit trees frames e s
ended limit parts trees frames e s g h =
    let c = closed_at limit 1 parts trees frames e (omega arith) (omega arith) g in
    ended_with limit trees frames c.left e c.tree s c.tokens c.fits (ap (λ (t : State). expression_end t.code t.waits) (sym c.is) ∙ h)

put_all_more : (trees : List Tree) (e : Tree) (code : List Instruction) → put_all (trees ++ e ∷ []) code ≡ Finish ∷ put e (put_all trees code)
put_all_more [] e code = refl
put_all_more (t ∷ trees) e code = put_all_more trees e (Finish ∷ put t code)

filter_more : (parts : List (List Token)) (part : List Token) → is_some_part part ≡ true → filter is_some_part (parts ++ part ∷ []) ≡ filter is_some_part parts ++ part ∷ []
filter_more [] part h = ap (λ b. cond b (part ∷ []) []) h
filter_more ([] ∷ parts) part h = filter_more parts part h
filter_more ((x ∷ xs) ∷ parts) part h = ap (λ l. (x ∷ xs) ∷ l) (filter_more parts part h)

map_more : (trees : List Tree) (e : Tree) → map tokens_of (trees ++ e ∷ []) ≡ map tokens_of trees ++ tokens_of e ∷ []
map_more [] e = refl
map_more (t ∷ trees) e = ap (λ l. tokens_of t ∷ l) (map_more trees e)

all_more : (limit : ℕ) (trees : List Tree) (e : Tree) → AllByRecursion (Fits limit) trees → Fits limit e → AllByRecursion (Fits limit) (trees ++ e ∷ [])
all_more limit [] e h f = (f, tt)
all_more limit (t ∷ trees) e h f = (h.0, all_more limit trees e h.1 f)

some_front : (a : List Token) (x : Token) (b : List Token) → is_some_part (a ++ x ∷ b) ≡ true
some_front [] x b = refl
some_front (y ∷ a) x b = refl

pub some_tokens : (e : Tree) → is_some_part (tokens_of e) ≡ true
some_tokens (Constant n) = refl
some_tokens (Variable x) = refl
some_tokens (Parenthesized e) = refl
some_tokens (Unary op e) = refl
some_tokens (Operation op a b) = some_front (tokens_of a) (Binary op) (tokens_of b)
some_tokens (Conditional c a b) = some_front (tokens_of c) Question (tokens_of a ++ Colon ∷ tokens_of b)
some_tokens (Assignment x op e) = refl

expressions_more : (parts : List (List Token)) (trees : List Tree) (e : Tree) → filter is_some_part parts ≡ map tokens_of trees → filter is_some_part (parts ++ tokens_of e ∷ []) ≡ map tokens_of (trees ++ e ∷ [])
expressions_more parts trees e h = filter_more parts (tokens_of e) (some_tokens e) ∙ ap (λ l. l ++ tokens_of e ∷ []) h ∙ sym (map_more trees e)

over_more : (parts : List (List Token)) (part : List Token) → over (parts ++ part ∷ []) ≡ over parts ++ (part ++ Separator ∷ [])
over_more [] part = append-nil (part ++ Separator ∷ [])
over_more (q ∷ parts) part = ap (λ l. (q ++ Separator ∷ []) ++ l) (over_more parts part) ∙ sym (append_assoc (q ++ Separator ∷ []) (over parts) (part ++ Separator ∷ []))

separator_read : (limit : ℕ) (parts : List (List Token)) (trees : List Tree) (frames : List Frame) (e : Tree) (s : State) → Sound limit (record { parts = parts; trees = trees; frames = frames; operand = Some e }) → next_step limit Separator (state_with trees frames (Some e)) ≡ Ok s → Goes limit (record { parts = parts; trees = trees; frames = frames; operand = Some e }) Separator s
separator_read limit parts trees frames e s g h =
    let d = ended limit parts trees frames e s g h in
    record {
      to = record { parts = parts ++ tokens_of d.tree ∷ []; trees = trees ++ d.tree ∷ []; frames = []; operand = None };
      sound = record { expressions = expressions_more parts trees d.tree g.expressions; each = all_more limit trees d.tree g.each d.fits; stacked = tt; operand = tt };
      state = d.state ∙ ap (λ l. awaiting l []) (sym (put_all_more trees d.tree []));
      tokens = append-nil (over (parts ++ tokens_of d.tree ∷ [])) ∙ over_more parts (tokens_of d.tree)
          ∙ sym (append_assoc (over parts) (tokens_of d.tree) (Separator ∷ []))
          ∙ ap (λ l. (over parts ++ l) ++ Separator ∷ []) (sym d.tokens);
    }

-- a token behind an operand
next_sound : (limit : ℕ) (parts : List (List Token)) (trees : List Tree) (frames : List Frame) (o : Tree) (token : Token) (s : State) → Sound limit (record { parts = parts; trees = trees; frames = frames; operand = Some o }) → IsToken token → token ≢ End → next_step limit token (state_with trees frames (Some o)) ≡ Ok s → Goes limit (record { parts = parts; trees = trees; frames = frames; operand = Some o }) token s
next_sound limit parts trees frames o (Binary op) s g t ne e = binary_read limit parts trees frames o op s g e
next_sound limit parts trees frames o (Assign op) s g t ne e = assign_read limit parts trees frames o op s g t e
next_sound limit parts trees frames o Question s g t ne e = question_read limit parts trees frames o s g e
next_sound limit parts trees frames o Colon s g t ne e = colon_read limit parts trees frames o s g e
next_sound limit parts trees frames o RightParenthesis s g t ne e = parenthesis_read limit parts trees frames o s g e
next_sound limit parts trees frames o Separator s g t ne e = separator_read limit parts trees frames o s g e
next_sound limit parts trees frames o End s g t ne e = absurd (ne refl)
next_sound limit parts trees frames o _ s g t ne e = absurd cc

step_from : (limit : ℕ) (parts : List (List Token)) (trees : List Tree) (frames : List Frame) (operand : Option Tree) (token : Token) (s : State) → Sound limit (record { parts = parts; trees = trees; frames = frames; operand = operand }) → IsToken token → token ≢ End → step limit token (state_with trees frames operand) ≡ Ok s → Goes limit (record { parts = parts; trees = trees; frames = frames; operand = operand }) token s
step_from limit parts trees frames None token s g t ne e = first_sound limit parts trees frames token s g t ne e
step_from limit parts trees frames (Some o) token s g t ne e = next_sound limit parts trees frames o token s g t ne e

pub step_sound : (limit : ℕ) (p : Position) (token : Token) (s : State) → Sound limit p → IsToken token → token ≢ End → step limit token (state_at p) ≡ Ok s → Goes limit p token s
step_sound limit p token s g t ne e = step_from limit p.parts p.trees p.frames p.operand token s g t ne e

-- the tokens of parts that are over and of one more are parts with separators between them
pub record Parts (parts : List (List Token)) (last : List Token) : Type 0 where
  pub first : List Token
  pub more : List (List Token)
  pub all : first ∷ more ≡ parts ++ last ∷ []
  pub tokens : over parts ++ last ≡ joined first more

joined_parts : (part : List Token) (parts : List (List Token)) (last : List Token) → joined part (parts ++ last ∷ []) ≡ part ++ Separator ∷ (over parts ++ last)
joined_parts part [] last = refl
joined_parts part (q ∷ parts) last =
    ap (λ l. part ++ Separator ∷ l) (joined_parts q parts last ∙ sym (append_assoc q (Separator ∷ []) (over parts ++ last)) ∙ sym (append_assoc (q ++ Separator ∷ []) (over parts) last))

pub parts_of : (parts : List (List Token)) (last : List Token) → Parts parts last
parts_of [] last = record { first = last; more = []; all = refl; tokens = refl }
parts_of (q ∷ parts) last =
    record {
      first = q;
      more = parts ++ last ∷ [];
      all = refl;
      tokens = append_assoc (q ++ Separator ∷ []) (over parts) last ∙ append_assoc q (Separator ∷ []) (over parts ++ last) ∙ sym (joined_parts q parts last);
    }

pub program_with : (limit : ℕ) (parts : List (List Token)) (trees : List Tree) (e : Tree) → filter is_some_part parts ≡ map tokens_of trees → AllByRecursion (Fits limit) trees → Fits limit e → IsProgram limit (over parts ++ tokens_of e) (trees ++ e ∷ [])
program_with limit parts trees e ex each fits =
    let p = parts_of parts (tokens_of e) in
    record {
      first = p.first;
      more = p.more;
      parts = p.tokens;
      expressions = ap (filter is_some_part) p.all ∙ expressions_more parts trees e ex;
      each = all_more limit trees e each fits;
    }

pub program_without : (limit : ℕ) (parts : List (List Token)) (trees : List Tree) → filter is_some_part parts ≡ map tokens_of trees → AllByRecursion (Fits limit) trees → IsProgram limit (over parts ++ []) trees
program_without limit parts trees ex each =
    let p = parts_of parts [] in
    record { first = p.first; more = p.more; parts = p.tokens; expressions = ap (filter is_some_part) p.all ∙ filter_empty parts ∙ ex; each = each }

-- what was read begins a program
pub begins_from : (limit : ℕ) (parts : List (List Token)) (trees : List Tree) (frames : List Frame) (operand : Option Tree) → Sound limit (record { parts = parts; trees = trees; frames = frames; operand = operand }) → Begins limit (over parts ++ (spelled frames ++ top_tokens operand))
begins_from limit parts trees frames None g =
    let d = finish limit frames zero_tree g.stacked (record { grammar = zero_fits; depth = omega (arith, bound limit frames g.stacked); admitted = admits_operand frames 14 (omega arith) }) in
    record {
      rest = Number 0 ∷ d.rest;
      trees = trees ++ d.tree ∷ [];
      program = subst (λ l. IsProgram limit l (trees ++ d.tree ∷ []))
          (ap (λ l. over parts ++ l) (sym d.is) ∙ begun_tokens (over parts) (spelled frames) (Number 0) d.rest)
          (program_with limit parts trees d.tree g.expressions g.each d.fits);
    }
begins_from limit parts trees frames (Some e) g =
    let d = finish limit frames e g.stacked g.operand.0 in
    record {
      rest = d.rest;
      trees = trees ++ d.tree ∷ [];
      program = subst (λ l. IsProgram limit l (trees ++ d.tree ∷ []))
          (ap (λ l. over parts ++ l) (sym d.is) ∙ regroup_rest (over parts) (spelled frames) (tokens_of e) d.rest)
          (program_with limit parts trees d.tree g.expressions g.each d.fits);
    }

pub begins : (limit : ℕ) (p : Position) → Sound limit p → Begins limit (tokens_at p)
begins limit p g = begins_from limit p.parts p.trees p.frames p.operand g

-- what is read to its end is a program
pub record Whole (limit : ℕ) (all : List Token) (s : State) : Type 0 where
  pub trees : List Tree
  pub program : IsProgram limit all trees
  pub state : s ≡ awaiting (put_all trees []) []

end_from : (limit : ℕ) (parts : List (List Token)) (trees : List Tree) (frames : List Frame) (operand : Option Tree) (s : State) → Sound limit (record { parts = parts; trees = trees; frames = frames; operand = operand }) → step limit End (state_with trees frames operand) ≡ Ok s → Whole limit (over parts ++ (spelled frames ++ top_tokens operand)) s
end_from limit parts trees [] None s g e = record { trees = trees; program = program_without limit parts trees g.expressions g.each; state = ok_is _ s e }
end_from limit parts trees (f ∷ frames) None s g e = absurd cc
end_from limit parts trees frames (Some o) s g e =
    let d = ended limit parts trees frames o s g e in
    record {
      trees = trees ++ d.tree ∷ [];
      program = subst (λ l. IsProgram limit l (trees ++ d.tree ∷ [])) (ap (λ l. over parts ++ l) (sym d.tokens)) (program_with limit parts trees d.tree g.expressions g.each d.fits);
      state = d.state ∙ ap (λ l. awaiting l []) (sym (put_all_more trees d.tree []));
    }

pub end_sound : (limit : ℕ) (p : Position) (s : State) → Sound limit p → step limit End (state_at p) ≡ Ok s → Whole limit (tokens_at p) s
end_sound limit p s g e = end_from limit p.parts p.trees p.frames p.operand s g e
