-- Expressions one after another.
use Rattle.std.proofs.Common.{◌≡◌, List, [], ◌∷◌, ◌++◌, refl, subst}
use Rattle.arith_eval.specs.Names.{Environment}
use Rattle.engine_core.specs.declared.evaluation.Shown.{Shown}
use Rattle.engine_core.specs.declared.request.Expression.{Expression}
use Rattle.engine_core.specs.Evaluation.{Gives, GiveAll}

-- one more expression behind those that were evaluated
pub gives_more : (es : List Expression) (e : Expression) (names between after : Environment) (s : List Shown) (x : Shown) → GiveAll es names s between → x.name ≡ e.name → Gives e.code between x.value after → GiveAll (es ++ e ∷ []) names (s ++ x ∷ []) after
gives_more [] e names between after [] x g name gives = (after, name, subst (λ n. Gives e.code n x.value after) g gives, refl)
gives_more [] e names between after (y ∷ s) x g name gives = absurd g
gives_more (d ∷ es) e names between after [] x g name gives = absurd g
gives_more (d ∷ es) e names between after (y ∷ s) x g name gives = (g.0, g.1, g.2, gives_more es e g.0 between after s x g.3 name gives)
