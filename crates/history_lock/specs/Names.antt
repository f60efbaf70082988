-- What clauses name of a lock and of its passes.
use Rattle.std.specs.Prelude.{◌≡◌, ℕ, List, None, false}
use Rattle.atomic_table.specs.Seated.{TableId}
use Rattle.history_lock.specs.declared.known.View.{View}
use Rattle.history_lock.specs.declared.lock.Pass.{Pass}
use Rattle.history_lock.specs.declared.lock.HistoryLock.{HistoryLock}
use Rattle.history_lock.specs.Loans.{Loan}

-- which lock it is
abbrev pub LockId : Type 0
LockId = TableId

module _ {T : Type 0} where
  -- the lock's own
  abbrev pub lock_id : HistoryLock T → LockId
  lock_id lock = lock.table.shared.table_id

  -- what the pass knows
  abbrev pub known : Pass T → View
  known pass = pass.seat.me.0.view

  -- the values left at home that it has seen, the newest first
  abbrev pub log_of : Pass T → List T
  log_of pass = pass.seat.me.0.log

  -- what it holds of the value
  abbrev pub hold_of : Pass T → Loan
  hold_of pass = pass.seat.me.0.hold

  -- the lock that the pass is of
  abbrev pub lock_of : Pass T → LockId
  lock_of pass = pass.seat.table_id

  -- how many passes may still come from it
  abbrev pub room_of : Pass T → ℕ
  room_of pass = pass.room

  -- the pass is of the lock, doesn't have the turn, and holds nothing of the value
  abbrev pub IsIdle : LockId → Pass T → Type 0
  IsIdle lock pass = (lock_of pass ≡ lock) × ((known pass).has_turn ≡ false) × (hold_of pass ≡ None)
