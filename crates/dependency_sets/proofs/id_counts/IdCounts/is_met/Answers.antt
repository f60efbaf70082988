use Rattle.std.proofs.Common.{◌≡◌, ap, sym, ◌∙◌, Bool, true, false, not, ◌&&◌}
use Rattle.std.specs.Prelude.{◌==◌}
use Rattle.dependency_sets.specs.declared.id_counts.IdCounts.{IdCounts}
use Rattle.dependency_sets.proofs.Counting.{met_by}
use Rattle.dependency_sets.proofs.id_counts.IdCounts.is_met.Goals as goal

pub returns-then-dep : goal.returns-then-dep
returns-then-dep c = λ settled is.
    c.all_asked.ensures ∙ ap (λ (k : IdCounts). (k.pending == 0) && (k.other == 0)) is ∙ met_by c.args.dep.now settled false true (sym c.is_empty.ensures ∙ c.if-is_empty.false) c.if-dep.true

pub returns-else-dep : goal.returns-else-dep
returns-else-dep c = λ settled is. ap (λ (k : IdCounts). not (k.asked == 0)) is ∙ met_by c.args.dep.now settled false false (sym c.is_empty.ensures ∙ c.if-is_empty.false) c.if-dep.false
