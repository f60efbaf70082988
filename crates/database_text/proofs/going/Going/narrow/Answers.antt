use Rattle.std.proofs.Common.{◌≡◌, ◌∙◌, ◌&&◌, ◌||◌, not, bytes_eq, refl, ap}
use Rattle.std.specs.List.{list_any}
use Rattle.cluster_defs.specs.Words.{Id}
use Rattle.cluster_defs.specs.Thin.{narrowed}
use Rattle.database_text.specs.Going.{holds, purged_by, gone_by}
use Rattle.database_text.proofs.Holding.{narrowed_at}
use Rattle.database_text.proofs.going.Going.narrow.Goals as goal

pub returns-clause-gone : goal.returns-clause-gone
returns-clause-gone c =
    let g = c.args.self.now in
    let copies = c.args.copies.now in
    let at : (q : Id) → (purged_by g q && not (holds c.hold_each.new.held q)) ≡ narrowed (gone_by g) copies q = λ q.
    ap (λ b. purged_by g q && not b) (c.in_ok-hold_each.ensures q)
    ∙ ap (λ b. purged_by g q && not (holds g.held q || b)) (ap (list_any (λ d. bytes_eq d.now q)) c.as_slice.ensures.value ∙ c.in_ok-olds.ensures q)
    ∙ narrowed_at (gone_by g) copies q (purged_by g q) (holds g.held q) refl in
    λ i. λ q. at q i
