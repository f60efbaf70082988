-- What texts give: the values of their programs, or why they have none, and the names that they leave.
use Rattle.std.specs.Prelude.{◌≡◌, ◌≢◌, ℕ, ℤ, List, [], ◌∷◌, Result, Ok, Err}
use Rattle.arith_syntax.specs.declared.error.SyntaxError.TheVariants.{OutOfMemory}
use Rattle.arith_syntax.specs.Tree.{Tree}
use Rattle.arith_syntax.specs.Grammar.{Grammar, FirstFault}
use Rattle.arith_eval.specs.Names.{Environment}
use Rattle.arith_eval.specs.Value.{Number, value_of_program}
use Rattle.engine_core.specs.declared.fault.Fault.{Fault}
use Rattle.engine_core.specs.declared.fault.Fault.TheVariants.{Syntax, Arithmetic}
use Rattle.engine_core.specs.declared.evaluation.Shown.{Shown}
use Rattle.engine_core.specs.declared.request.Expression.{Expression}

-- the text is a program that has this value or fault, and leaves these names
pub record IsRun (text : List ℕ) (names : Environment) (value : Number) (after : Environment) : Type 0 where
  pub trees : List Tree
  pub grammar : Grammar text trees
  pub gives : (value_of_program trees names).value ≡ value
  pub leaves : after ≡ (value_of_program trees names).names

-- what a text gives over names, and the names that it leaves: all that it assigned before a fault stays
abbrev pub Gives : List ℕ → Environment → Result ℤ Fault → Environment → Type 0
Gives text names (Ok value) after = IsRun text names (Ok value) after
Gives text names (Err (Arithmetic e)) after = IsRun text names (Err e) after
Gives text names (Err (Syntax e)) after = FirstFault text e × (e ≢ OutOfMemory) × (after ≡ names)

-- what expressions give one after another, each over the names that the one before it left
abbrev pub GiveAll : List Expression → Environment → List Shown → Environment → Type 0
GiveAll [] names [] after = after ≡ names
GiveAll (e ∷ more) names (s ∷ rest) after =
    (between : Environment) × (s.name ≡ e.name) × Gives e.code names s.value between × GiveAll more between rest after
GiveAll [] names (s ∷ rest) after = ⊥
GiveAll (e ∷ more) names [] after = ⊥
