use Rattle.std.proofs.Common.{◌≡◌, ◌-◌, ◌^◌, min, sum, map, length, take}
use Rattle.hub_queries.proofs.limits.octets_of.Given as goal

abbrev pub invariant-loop-buffer : goal.invariant-loop-buffer
invariant-loop-buffer l = l.total ≡ min (sum (map length (take l.buffer-index l.buffers))) (2 ^ 64 - 1)
