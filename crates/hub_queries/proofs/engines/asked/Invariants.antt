use Rattle.std.proofs.Common.{◌≡◌, ◌||◌, take, filter, nat_eq}
use Rattle.std.specs.List.{list_any}
use Rattle.cluster_defs.specs.Words.{is_empty}
use Rattle.hub_queries.proofs.engines.asked.Given as goal

abbrev pub invariant-loop-number : goal.invariant-loop-number
invariant-loop-number l = l.asked.items ≡ filter (λ n. is_empty l.targets || list_any (λ m. nat_eq n m) l.targets) (take l.number-index l.numbers)
