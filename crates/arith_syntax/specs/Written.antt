-- Trees written out as instructions.
use Rattle.std.specs.List.{AllByRecursion}
use Rattle.std.specs.Prelude.{◌≡◌, List, [], ◌∷◌, ◌++◌, flat_map, reverse}
use Rattle.arith_syntax.specs.declared.instruction.Instruction.{Instruction}
use Rattle.arith_syntax.specs.declared.instruction.Instruction.TheVariants.{Push, Load, Open, Close, Sign, Apply, Infix, Combine, Then, Else, Choose, Target, Store, Finish}
use Rattle.arith_syntax.specs.Tree.{Tree, Constant, Variable, Parenthesized, Unary, Operation, Conditional, Assignment}
use Rattle.arith_syntax.specs.Grammar.{Fits}

-- an expression in the order of reading, each operator a second time behind its last operand
abbrev pub instructions_of : Tree → List Instruction
instructions_of (Constant n) = Push n ∷ []
instructions_of (Variable x) = Load x ∷ []
instructions_of (Parenthesized e) = Open ∷ (instructions_of e ++ Close ∷ [])
instructions_of (Unary op e) = Sign op ∷ (instructions_of e ++ Apply op ∷ [])
instructions_of (Operation op a b) = instructions_of a ++ Infix op ∷ (instructions_of b ++ Combine op ∷ [])
instructions_of (Conditional c a b) = instructions_of c ++ Then ∷ (instructions_of a ++ Else ∷ (instructions_of b ++ Choose ∷ []))
instructions_of (Assignment x op e) = Target x op ∷ (instructions_of e ++ Store x op ∷ [])

-- expressions one after another
abbrev pub all_written : List Tree → List Instruction
all_written = flat_map (λ e. instructions_of e ++ Finish ∷ [])

-- the trees that instructions build, the last one first; each takes its operands off those that are there
abbrev pub built : List Tree → List Instruction → List Tree
built trees [] = trees
built trees (Push n ∷ more) = built (Constant n ∷ trees) more
built trees (Load x ∷ more) = built (Variable x ∷ trees) more
built (e ∷ trees) (Close ∷ more) = built (Parenthesized e ∷ trees) more
built (e ∷ trees) (Apply op ∷ more) = built (Unary op e ∷ trees) more
built (b ∷ a ∷ trees) (Combine op ∷ more) = built (Operation op a b ∷ trees) more
built (b ∷ a ∷ c ∷ trees) (Choose ∷ more) = built (Conditional c a b ∷ trees) more
built (e ∷ trees) (Store x op ∷ more) = built (Assignment x op e ∷ trees) more
built trees (_ ∷ more) = built trees more

-- the trees that a program's instructions are written from
unfoldable pub trees_of : List Instruction → List Tree
trees_of code = reverse (built [] code)

-- the instructions are those of expressions that nest no deeper than 64
pub record IsWhole (code : List Instruction) : Type 0 where
  pub each : AllByRecursion (Fits 64) (trees_of code)
  pub is : code ≡ all_written (trees_of code)
