-- What a pass adds over many turns.
use Rattle.std.specs.Prelude.{◌≡◌, ◌≤◌, ⊤, ℕ, List, [], ◌∷◌, ◌++◌, length}
use Rattle.cluster_types.specs.declared.entry.Input.{Input as InputType}
use Rattle.cluster_types.specs.declared.entry.Entry.{Entry}
use Rattle.cluster_types.specs.declared.entry.Entry.TheVariants.{Input}
use Rattle.history_lock.specs.declared.known.View.{View}
use Rattle.history_lock.specs.History.{Extends}

-- each has its place from this one on
abbrev pub StandFrom : ℕ → List (ℕ × Entry) → Type 0
StandFrom place [] = ⊤
StandFrom place (x ∷ older) = (place ≤ x.0) × StandFrom place older

-- a pass added these entries, each with its place, behind all that it had seen
pub record AddsBehind (entries : List (ℕ × Entry)) (old new : View) : Type 0 where
  pub added : new.added ≡ entries ++ old.added
  pub behind : StandFrom (length old.seen.list) entries
  pub later : Extends old.seen new.seen
  pub share : new.share ≡ old.share

-- the inputs among entries, the newest first
abbrev pub inputs_among : List (ℕ × Entry) → List InputType
inputs_among [] = []
inputs_among ((place, Input input) ∷ older) = input ∷ inputs_among older
inputs_among (x ∷ older) = inputs_among older
