-- Steps one after another.
use Rattle.std.specs.Prelude.{ℕ, List, [], ◌∷◌, Ok, Err}
use Rattle.arith_syntax.specs.declared.token.Token.{Token}
use Rattle.arith_syntax.specs.Reading.{State, Step, step}

-- one step behind another
abbrev pub step_then : Step → (State → Step) → Step
step_then (Ok s) more = more s
step_then (Err f) more = Err f

-- tokens one after another
abbrev pub steps : ℕ → State → List Token → Step
steps limit s [] = Ok s
steps limit s (token ∷ more) = step_then (step limit token s) (λ t. steps limit t more)
