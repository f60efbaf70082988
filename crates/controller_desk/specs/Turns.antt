-- One turn of a store at its lock.
use Rattle.std.specs.Prelude.{◌≡◌, ℕ, ◌-◌, List, [], ◌∷◌, ◌++◌, length, take}
use Rattle.cluster_types.specs.declared.entry.Entry.{Entry}
use Rattle.cluster_defs.specs.Histories.{History}
use Rattle.cluster_store.specs.Stores.{StoreView}
use Rattle.history_lock.specs.declared.known.View.{View}
use Rattle.history_lock.specs.declared.lock.Pass.{Pass}
use Rattle.history_lock.specs.Log.{IsEnd, StartsAt, Chain, Logged}
use Rattle.history_lock.specs.Names.{LockId, known, log_of, room_of, IsIdle}
use Rattle.history_lock.specs.History.{Extends}
use Rattle.history_lock.specs.Turn.{Adds}
use Rattle.controller_desk.specs.Contents.{content_of, Rests}

-- the entries that a history has beyond an older one
abbrev pub beyond : History → History → List Entry
beyond old new = take (length new - length old) new

module _ {D : Type 0} (faults : D → ℕ) where
  -- a store goes on from what it stood for
  pub record GoesOn (old new : StoreView D) : Type 0 where
    pub list : new.history ≡ beyond old.history new.history ++ old.history
    pub extends : Extends (content_of faults old) (content_of faults new)

  -- in one turn of a pass the store went from `before` to `after`
  pub record InTurn (old : View) (before after : StoreView D) (new : View) : Type 0 where
    pub adds : Adds (beyond before.history after.history) old (content_of faults before) new
    pub seen : new.seen ≡ content_of faults after

  -- `store` is the store of a value behind the lock
  module _ {T : Type 0} (store : T → StoreView D) where
    -- what one turn may make of a value
    abbrev pub Goes : T → T → Type 0
    Goes old new = GoesOn (store old) (store new)

    -- in a log two values stand next to one another whose stores are `before` and `after`
    pub record InLog (old : List T) (before after : StoreView D) (new : List T) : Type 0 where
      pub entered : T
      pub left : T
      pub entered_is : store entered ≡ before
      pub left_is : store left ≡ after
      pub logged : Logged Goes old entered left new

    -- a log of one value, whose store is this
    pub record IsFirst (opened : StoreView D) (log : List T) : Type 0 where
      pub first : T
      pub is : log ≡ first ∷ []
      pub store_is : store first ≡ opened

    -- what a pass has seen goes on to a store, turn by turn
    pub record LeadsTo (closed : StoreView D) (seen : List T) : Type 0 where
      pub last : T
      pub store_is : store last ≡ closed
      pub log : List T
      pub newest : StartsAt last log
      pub later : IsEnd seen log
      pub chain : Chain Goes log

    -- in one turn of a pass the store went so, and the log of the pass goes on with that turn
    abbrev pub TakesTurn : (StoreView D → StoreView D → Type 0) → (old new : Pass T) → Type 0
    TakesTurn Went old new = (before : StoreView D) × (after : StoreView D) × InTurn (known old) before after (known new) × Went before after × InLog (log_of old) before after (log_of new)

-- a pass of this lock is back from a turn: its room is as it was, and what it has seen rests
abbrev pub IsBack : {T : Type 0} → LockId → (old new : Pass T) → Type 0
IsBack lock old new = IsIdle lock new × (room_of new ≡ room_of old) × Rests (known new).seen
