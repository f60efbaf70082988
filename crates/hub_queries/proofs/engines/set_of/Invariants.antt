use Rattle.std.proofs.Common.{◌≡◌, ℕ, nat_cmp, take, nat_eq}
use Rattle.std.specs.List.{list_any}
use Rattle.std.specs.BTreeSet as sorted
use Rattle.hub_queries.proofs.engines.set_of.Given as goal

abbrev pub invariant-loop-target : goal.invariant-loop-target
invariant-loop-target l = (q : ℕ) → sorted.contains nat_cmp l.set q ≡ list_any (λ m. nat_eq q m) (take l.target-index l.targets)
