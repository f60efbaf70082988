use Rattle.std.proofs.Common.{◌≡◌, take}
use Rattle.journal_standby.proofs.comparing.divergence.Given as goal

abbrev pub invariant-loop-place : goal.invariant-loop-place
invariant-loop-place l = take l.place l.list ≡ take l.place l.primary
