-- The tasks by place, and what is kept beside them.
use Rattle.std.specs.Prelude.{◌≡◌, ℕ, List, map, Option}
use Rattle.cluster_defs.specs.Words.{Id}
use Rattle.cluster_defs.specs.Requests.{Request}
use Rattle.cluster_defs.specs.declared.settled.Settled.{Settled}
use Rattle.task_table.specs.declared.marks.Marks.{Marks}
use Rattle.task_table.specs.Seen.{Seen, place_in}
use Rattle.task_table.specs.Marking.{Marked}
use Rattle.task_table.specs.Waiting.{Indexed}
use Rattle.task_table.specs.Tallying.{AllTold}
use Rattle.task_table.specs.declared.tallies.Tallies.{Tallies}
use Rattle.task_graph.specs.Listing.{Waits}

abbrev pub name : Seen → Id
name t = t.row.id

abbrev pub settling : Seen → Option Settled
settling t = t.settled

abbrev pub asking : Seen → Option Request
asking t = t.request

-- the same id and request, and settled as before
pub record IsSame (old new : Seen) : Type 0 where
  pub name : name new ≡ name old
  pub request : asking new ≡ asking old
  pub settled : settling new ≡ settling old

-- the same ids are known, their requests are the same, and they are settled as before
pub record Alike (old new : List Seen) : Type 0 where
  pub names : map name new ≡ map name old
  pub requests : map asking new ≡ map asking old
  pub settled : map settling new ≡ map settling old

-- each id has its place
abbrev pub Placed : List Seen → (Id → Option ℕ) → Type 0
Placed ts place_of = (id : Id) → place_of id ≡ place_in id ts

-- what is kept beside the tasks: sets of places, for each id the places of those that wait on it, and how many there are of
-- some classes
pub record Beside (ts : List Seen) (marks : Marks) (waits : Waits) (tallies : Tallies) : Type 0 where
  pub marked : Marked ts marks
  pub indexed : Indexed ts waits
  pub counted : AllTold ts tallies
