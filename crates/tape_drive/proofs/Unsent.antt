-- Nothing is sent where no entry comes.
use Rattle.std.proofs.Common.{◌≡◌, [], ◌∷◌, length, true, refl, arith}
use Rattle.std.specs.Prelude.{nat_lt}
use Rattle.std.proofs.lemmas.Bool.{lt-ltb}
use Rattle.cluster_defs.specs.Histories.{History}
use Rattle.cluster_defs.specs.Outs.{outs_from}

pub none_sent : (history : History) → outs_from (length history) history ≡ []
none_sent [] = refl
none_sent (e ∷ older) = let below : nat_lt (length older) (length (e ∷ older)) ≡ true = lt-ltb (length older) (length (e ∷ older)) (omega arith) in rw below refl
