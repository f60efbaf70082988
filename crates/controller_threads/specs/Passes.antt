-- The passes of a controller's threads.
use Rattle.std.specs.Prelude.{◌≡◌, [], ◌++◌, false}
use Rattle.std.specs.List.{list_any}
use Rattle.controller_desk.specs.Turns.{beyond}
use Rattle.history_lock.specs.declared.known.Content.{Content}
use Rattle.history_lock.specs.declared.lock.Pass.{Pass}
use Rattle.history_lock.specs.History.{is_open_entry, Rises, Extends}
use Rattle.history_lock.specs.Names.{LockId, known, IsIdle}
use Rattle.controller_desk.specs.Contents.{Rests}

-- The list goes on from the old one, no Open stands in what it has beyond that, and no count is lower. This is what `Extends`
-- says, in a form that has no more than one proof, so that threads can keep it.
abbrev pub IsLater : Content → Content → Type 0
IsLater old new =
    (new.list ≡ beyond old.list new.list ++ old.list) × (list_any is_open_entry (beyond old.list new.list) ≡ false) × Rises old.counts new.counts

module _ {T : Type 0} where
  -- a pass has seen at least this
  abbrev pub HasSeen : Content → Pass T → Type 0
  HasSeen c pass = IsLater c (known pass).seen

  module _ (lock : LockId) (start : Content) where
    -- a pass of a lock without the turn, which has seen at least what was seen at the start
    abbrev pub IsSince : Pass T → Type 0
    IsSince pass = IsIdle lock pass × HasSeen start pass

    -- the same, with a history that is legal and after which no decision is due
    abbrev pub IsRested : Pass T → Type 0
    IsRested pass = IsIdle lock pass × Extends start (known pass).seen × Rests (known pass).seen

-- a name that no lock has
abbrev pub no_lock : LockId
no_lock = record { words = 0; slots = 0; views_name = 0; atom = 0; block = 0; offset = 0; slot_names = [] }
