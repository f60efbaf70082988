-- What is kept beside the tasks once one was added, and where that failed.
use Rattle.std.proofs.Common.{◌≡◌, List, [], ◌∷◌, ◌++◌, length, None, sym, subst}
use Rattle.task_graph.specs.Listing.{Waits, lists, Noted, SameWaits}
use Rattle.task_table.specs.declared.marks.Marks.{Marks}
use Rattle.task_table.specs.declared.tallies.Tallies.{Tallies}
use Rattle.task_table.specs.Seen.{Seen}
use Rattle.task_table.specs.Marking.{Marked}
use Rattle.task_table.specs.Tallying.{AllTold, no_tallies}
use Rattle.task_table.specs.Waiting.{Indexed, ids_of}
use Rattle.task_table.specs.Places.{Beside}
use Rattle.task_table.proofs.Waiting.{indexed_kept, indexed_noted}
use Rattle.task_table.proofs.Tallying.{none_told}

module _ (ts us : List Seen) (m n : Marks) (old new : Waits) (o p : Tallies) (is : Beside ts m old o) (marked : Marked us n) where
  -- where it failed, and each id has the places that it had
  pub beside_unpushed : us ≡ ts → SameWaits old new → p ≡ no_tallies → Beside us n new p
  beside_unpushed same kept out = record {
    marked = marked;
    indexed = subst (λ xs. Indexed xs new) (sym same) (indexed_kept ts old new is.indexed kept);
    counted = subst (λ q. AllTold us q) (sym out) (none_told us);
  }

  -- where it is noted with the ids that it lists
  pub beside_pushed : (t : Seen) → us ≡ ts ++ t ∷ [] → t.settled ≡ None → Noted (lists (ids_of t.request)) (length ts) old new → AllTold us p → Beside us n new p
  beside_pushed t more none added counted = record {
    marked = marked;
    indexed = subst (λ xs. Indexed xs new) (sym more) (indexed_noted ts t old new none is.indexed added);
    counted = counted;
  }
