use Rattle.run_lines.proofs.Fronts.{IsAhead}
use Rattle.run_lines.proofs.printing.due_lines.Given as goal

abbrev pub invariant-loop-place : goal.invariant-loop-place
invariant-loop-place l = IsAhead l.labels l.gathered.answers l.from l.place l.text.items
