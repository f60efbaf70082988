use Rattle.std.proofs.Common.{◌≡◌, ◌++◌, take}
use Rattle.hub_queries.proofs.results.append.Given as goal

abbrev pub invariant-loop-buffer : goal.invariant-loop-buffer
invariant-loop-buffer l = l.into ≡ l.fn.into ++ take l.buffer-index l.from
