use Rattle.std.proofs.Common.{◌≡◌, drop}
use Rattle.cluster_defs.specs.Words.{same_lists}
use Rattle.cluster_state.proofs.acceptance.same_buffers.Given as goal

-- the rest tells
abbrev pub invariant-loop-place : goal.invariant-loop-place
invariant-loop-place l = same_lists (drop l.place l.a) (drop l.place l.b) ≡ same_lists l.a l.b
