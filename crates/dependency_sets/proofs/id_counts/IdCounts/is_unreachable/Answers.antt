use Rattle.std.proofs.Common.{◌≡◌, ap, sym, ◌∙◌, Bool, true, false, not, ◌&&◌}
use Rattle.std.specs.Prelude.{◌==◌}
use Rattle.dependency_sets.specs.declared.id_counts.IdCounts.{IdCounts}
use Rattle.dependency_sets.proofs.Counting.{unreachable_by}
use Rattle.dependency_sets.proofs.id_counts.IdCounts.is_unreachable.Goals as goal

pub returns-then-dep : goal.returns-then-dep
returns-then-dep c = λ settled is. ap (λ (k : IdCounts). not (k.other == 0)) is ∙ unreachable_by c.args.dep.now settled false true (sym c.is_empty.ensures ∙ c.if-is_empty.false) c.if-dep.true

pub returns-else-dep : goal.returns-else-dep
returns-else-dep c = λ settled is.
    c.all_other.ensures ∙ ap (λ (k : IdCounts). (k.pending == 0) && (k.asked == 0)) is ∙ unreachable_by c.args.dep.now settled false false (sym c.is_empty.ensures ∙ c.if-is_empty.false) c.if-dep.false
