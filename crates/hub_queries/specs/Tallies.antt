-- What is kept of some ids for a reply: how many they are and, where that is asked, their texts.
use Rattle.std.specs.Prelude.{ℕ, List, [], length, map, Bool, true, false}
use Rattle.json.specs.Print.{quoted}
use Rattle.cluster_defs.specs.Texts.{parted}
use Rattle.cluster_defs.specs.Words.{Id}

pub record Tallied : Type 0 where
  pub verbose : Bool
  pub count : ℕ
  pub listed : List ℕ

-- the ids as JSON writes them, parted by commas
abbrev pub listed_as : Bool → List Id → List ℕ
listed_as true ids = parted (map quoted ids)
listed_as false ids = []

abbrev pub tallied : Bool → List Id → Tallied
tallied verbose ids = record { verbose = verbose; count = length ids; listed = listed_as verbose ids }
