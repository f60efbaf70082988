-- What was added to a list that an object tells.
use Rattle.std.proofs.Common.{ℕ, List, [], Option, Some, None, refl, sym, ap, ◌+◌, ◌++◌, append_assoc}
use Rattle.edges.specs.Streams.{Added}
use Rattle.std.proofs.lemmas.List.{append-nil}

pub added_both : (a b : List ℕ) (u v w : Option (List ℕ)) → Added a u v → Added b v w → Added (a ++ b) u w
added_both a b None v w p q = rw (q, p) refl
added_both a b (Some xs) v w p q = rw (q, p) (ap Some (append_assoc xs a b))

pub added_none : (w : Option (List ℕ)) → Added [] w w
added_none None = refl
added_none (Some xs) = ap Some (sym (append-nil xs))
