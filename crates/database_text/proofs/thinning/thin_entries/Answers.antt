use Rattle.std.proofs.Common.{◌∙◌, ◌<◌, ◌≤◌, ℕ, length, take, reverse, sym, ap, subst}
use Rattle.std.proofs.lemmas.List.{take_all}
use Rattle.database_text.specs.Going.{purged_by, gone_by}
use Rattle.database_text.specs.Thinning.{thin_noted}
use Rattle.database_text.proofs.Histories.{thin_next}
use Rattle.database_text.proofs.thinning.thin_entries.Goals as goal

pub loop-place-preserved : goal.loop-place-preserved
loop-place-preserved c =
    let g = c.args.going.now in
    let notes = c.args.notes.now in
    let i = c.loop-place.place in
    let inside : i < length notes = subst (λ (n : ℕ). i < n) (sym c.requires) c.loop-place-test.true in
    ap reverse c.in_ok-push.ensures.items
    ∙ thin_next (gone_by g) (purged_by g) notes c.args.entries.now c.loop-place.thin.items i c.index-notes-place.result c.index-entries-place.result c.in_ok-thin_entry.field-0
    inside c.loop-place-test.true c.index-notes-place.is c.index-entries-place.is c.in_ok-thin_entry.ensures c.loop-place.invariant

pub returns : goal.returns
returns c =
    let gone = gone_by c.args.going.now in
    let purged = purged_by c.args.going.now in
    let notes = c.args.notes.now in
    let entries = c.args.entries.now in
    let i = c.loop-place.place in
    let ends : length notes ≤ i = subst (λ (n : ℕ). n ≤ i) (sym c.requires) c.loop-place-test.false in
    c.loop-place.invariant
    ∙ ap (λ ns. thin_noted gone purged (reverse ns) (reverse (take i entries))) (take_all i notes ends)
    ∙ ap (λ es. thin_noted gone purged (reverse notes) (reverse es)) (take_all i entries c.loop-place-test.false)
