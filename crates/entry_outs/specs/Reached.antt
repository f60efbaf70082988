-- Data that stand for a legal history.
use Rattle.std.specs.Prelude.{◌≡◌, ◌∷◌}
use Rattle.cluster_types.specs.declared.entry.Entry.{Entry}
use Rattle.cluster_defs.specs.Histories.{History, facts, Legal}
use Rattle.cluster_state.specs.Plain.{Plain, plain_of}

-- a legal history comes to these data
pub record Reached (p : Plain) : Type 0 where
  pub history : History
  pub legal : Legal history
  pub is : p ≡ plain_of (facts history)

-- a legal history comes to these data, and an entry may stand next
pub record IsNext (p : Plain) (e : Entry) : Type 0 where
  pub history : History
  pub legal : Legal (e ∷ history)
  pub is : p ≡ plain_of (facts history)
