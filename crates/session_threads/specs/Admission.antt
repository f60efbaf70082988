-- What an admission leaves.
use Rattle.std.specs.Prelude.{◌≡◌, ◌⊎◌, ℕ, List, Result, Option, Some, slice_get}
use Rattle.cluster_types.specs.declared.config.Channel.{Channel}
use Rattle.cluster_store.specs.Stores.{StoreView}
use Rattle.controller_desk.specs.declared.fault.ActError.{ActError}
use Rattle.controller_desk.specs.Calls.{HasOpened}
use Rattle.controller_desk.specs.Turns.{InTurn}
use Rattle.history_lock.specs.declared.known.Content.{Content}
use Rattle.history_lock.specs.declared.known.View.{View}
use Rattle.history_lock.specs.declared.lock.Pass.{Pass}
use Rattle.history_lock.specs.Names.{known}

-- a pass is one of those that were kept, or has seen this
abbrev pub IsFrom : {T : Type 0} → (kept : List (Pass T)) → Content → Pass T → Type 0
IsFrom kept seen pass = ((place : ℕ) × (slice_get kept place ≡ Some pass)) ⊎ ((known pass).seen ≡ seen)

module _ {D : Type 0} (faults : D → ℕ) where
  -- a pass, of whose share some was given to others, brought up a connection in one turn, or was refused
  pub record OpensInTurn (old : View) (channel : Channel) (identity : List ℕ) (result : Result ℕ ActError) (new : View) : Type 0 where
    pub left : View
    pub seen : left.seen ≡ old.seen
    pub added : left.added ≡ old.added
    pub before : StoreView D
    pub after : StoreView D
    pub turn : InTurn faults left before after new
    pub moment : ℕ
    pub word : ℕ
    pub opened : HasOpened before moment word channel identity result after
