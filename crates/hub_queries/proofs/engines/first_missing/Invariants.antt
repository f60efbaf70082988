use Rattle.std.proofs.Common.{◌≡◌, not, drop, find, nat_eq}
use Rattle.std.specs.List.{list_any}
use Rattle.hub_queries.proofs.engines.first_missing.Given as goal

abbrev pub invariant-loop-target : goal.invariant-loop-target
invariant-loop-target l =
    find (λ n. not (list_any (λ m. nat_eq m n) l.numbers)) (drop l.target-index l.targets) ≡ find (λ n. not (list_any (λ m. nat_eq m n) l.numbers)) l.targets
