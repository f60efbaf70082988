use Rattle.std.proofs.Common.{◌≡◌, ◌++◌, map, take, string_bytes}
use Rattle.cluster_defs.specs.Texts.{parted, engine_member}
use Rattle.hub_queries.proofs.queues.push_engines.Given as goal

abbrev pub invariant-loop-place : goal.invariant-loop-place
invariant-loop-place l = string_bytes l.text ≡ string_bytes l.fn.text ++ parted (map engine_member (take l.place l.live))
