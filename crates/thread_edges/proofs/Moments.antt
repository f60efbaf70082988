-- Moments within a limit stay within it.
use Rattle.std.proofs.Common.{◌≤◌, ◌∷◌, [], List, ℕ, suc, All, arith}
use Rattle.thread_edges.specs.Series.{after_next}

pub after_within : (limit : ℕ) (list : List ℕ) → All (λ m. m ≤ limit) list → All (λ m. m ≤ limit) (after_next list)
after_within limit [] h = h
after_within limit (n ∷ []) h = h
after_within limit (n ∷ m ∷ rest) h = λ k d lt. h (suc k) d (omega (arith, lt))
