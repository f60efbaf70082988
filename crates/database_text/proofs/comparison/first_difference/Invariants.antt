use Rattle.std.proofs.Common.{◌≡◌, drop}
use Rattle.database_text.specs.Comparison.{first_difference}
use Rattle.database_text.proofs.comparison.first_difference.Given as goal

abbrev pub invariant-loop-place : goal.invariant-loop-place
invariant-loop-place l = first_difference l.place (drop l.place l.xs) (drop l.place l.ys) ≡ first_difference 0 l.xs l.ys
