use Rattle.std.proofs.Common.{◌∙◌, List, [], sym, ap, subst}
use Rattle.std.specs.Prelude.{slice_get}
use Rattle.cluster_types.specs.declared.entry.Entry.{Entry}
use Rattle.cluster_store.specs.Openings.{IsCut}
use Rattle.cluster_store.specs.Remaking.{Remakes}
use Rattle.cluster_store.proofs.Remade.{refused_cut}
use Rattle.cluster_store.proofs.remaking.core_of.Goals as goal

pub returns-in-Cut-clause-refused : goal.returns-in-Cut-clause-refused
returns-in-Cut-clause-refused g c =
    refused_cut c.args.entries.now c.args.places.now c.place_at-in-Cut.result c.requires.places
    (subst (λ (es : List Entry). IsCut [] es) c.as_slice.ensures (subst (Remakes c.remake.new.core.history c.as_slice.result.now) c.in-Cut.is c.in_ok-remake.ensures.remade))
    (ap (slice_get c.args.places.now) (sym c.len.ensures) ∙ c.place_at-in-Cut.ensures)
