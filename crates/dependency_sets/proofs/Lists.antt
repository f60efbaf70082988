-- Lists that are empty.
use Rattle.std.proofs.Common.{◌≡◌, suc, length, arith, List, [], ◌∷◌, refl}
use Rattle.std.proofs.lemmas.Bool.{ne_eqb}
use Rattle.std.specs.Prelude.{◌==◌}
use Rattle.cluster_defs.specs.Words.{is_empty}

pub none_listed : {X : Type 0} (xs : List X) → (length xs == 0) ≡ is_empty xs
none_listed [] = refl
none_listed (x ∷ xs) = ne_eqb (suc (length xs)) 0 (λ e. omega arith)
