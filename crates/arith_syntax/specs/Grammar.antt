-- Which text is which program, and where a text that is none has its first fault (POSIX XCU 2.6.4).
use Rattle.std.specs.Prelude.{◌≡◌, ℕ, ◌<◌, ◌≤◌, Result, Ok, Err, List, [], ◌∷◌, ◌++◌, length, map, Bool, true, false}
use Rattle.std.specs.List.{filter, AllByRecursion}
use Rattle.arith_syntax.specs.declared.token.Token.{Token}
use Rattle.arith_syntax.specs.declared.token.Token.TheVariants.{Number, TooLarge, Separator, End, Bad}
use Rattle.arith_syntax.specs.declared.error.SyntaxError.{SyntaxError}
use Rattle.arith_syntax.specs.declared.error.SyntaxError.TheVariants.{BadToken, BadSyntax, TooDeep, ConstantTooLarge, TooLong, OutOfMemory}
use Rattle.arith_syntax.specs.Tree.{Tree, IsExpression, nesting, tokens_of}
use Rattle.arith_syntax.specs.Lexical.{Lexeme, lexemes}

-- an expression that nests no deeper than a limit
pub record Fits (limit : ℕ) (e : Tree) : Type 0 where
  pub grammar : IsExpression e
  pub depth : nesting e ≤ limit

-- parts with a separator between each two
abbrev pub joined : List Token → List (List Token) → List Token
joined part [] = part
joined part (next ∷ more) = part ++ Separator ∷ joined next more

abbrev pub is_some_part : List Token → Bool
is_some_part [] = false
is_some_part (_ ∷ _) = true

-- the tokens are parts with separators between them, and the parts that aren't empty are the expressions
pub record IsProgram (limit : ℕ) (tokens : List Token) (trees : List Tree) : Type 0 where
  pub first : List Token
  pub more : List (List Token)
  pub parts : tokens ≡ joined first more
  pub expressions : filter is_some_part (first ∷ more) ≡ map tokens_of trees
  pub each : AllByRecursion (Fits limit) trees

-- some program begins with these tokens
pub record Begins (limit : ℕ) (tokens : List Token) : Type 0 where
  pub rest : List Token
  pub trees : List Tree
  pub program : IsProgram limit (tokens ++ rest) trees

abbrev pub tokens : List Lexeme → List Token
tokens = map (λ l. l.0)

-- the program of a text: at most 65,536 octets, whose tokens are the program's
pub record Grammar (text : List ℕ) (trees : List Tree) : Type 0 where
  pub short : length text ≤ 65536
  pub all : List Token
  pub read : tokens (lexemes text) ≡ all ++ End ∷ []
  pub program : IsProgram 64 all trees

-- for where it may stand, a constant is like any other
abbrev pub like : Token → Token
like TooLarge = Number 0
like token = token

-- no program goes on with the token, however deep it nests; at the end of the text: no program ends there
abbrev pub Misplaced : List Token → Token → Type 0
Misplaced before End = (limit : ℕ) (trees : List Tree) → IsProgram limit before trees → ⊥
Misplaced before Bad = ⊥
Misplaced before token = (limit : ℕ) → Begins limit (before ++ like token ∷ []) → ⊥

-- programs go on with the token, but all nest too deep
pub record NestsTooDeep (before : List Token) (token : Token) : Type 0 where
  pub limit : ℕ
  pub deeper : Begins limit (before ++ token ∷ [])
  pub none : Begins 64 (before ++ token ∷ []) → ⊥

-- up to a lexeme the text can go on as a program
pub record StandsAt (text : List ℕ) (before : List Lexeme) (token : Token) (at : ℕ) : Type 0 where
  pub short : length text ≤ 65536
  pub after : List Lexeme
  pub split : lexemes text ≡ before ++ (token, at) ∷ after
  pub begins : Begins 64 (tokens before)

-- the first fault of a text, with its place
abbrev pub FirstFault : List ℕ → SyntaxError → Type 0
FirstFault text (BadToken at) = (before : List Lexeme) × StandsAt text before Bad at
FirstFault text (BadSyntax at) = (before : List Lexeme) × (token : Token) × StandsAt text before token at × Misplaced (tokens before) token
FirstFault text (TooDeep at) = (before : List Lexeme) × (token : Token) × StandsAt text before token at × NestsTooDeep (tokens before) token
FirstFault text (ConstantTooLarge at) = (before : List Lexeme) × StandsAt text before TooLarge at × Begins 64 (tokens before ++ Number 0 ∷ [])
FirstFault text TooLong = 65536 < length text
FirstFault text OutOfMemory = Unit {0}

-- what was returned is this fault, unless memory ran out
abbrev pub IsFault : {X : Type 0} → SyntaxError → Result X SyntaxError → Type 0
IsFault e (Ok x) = ⊥
IsFault e (Err OutOfMemory) = Unit {0}
IsFault e (Err f) = f ≡ e
