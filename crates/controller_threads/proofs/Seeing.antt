-- What passes have seen.
use Rattle.std.proofs.Common.{◌≡◌, ℕ, ◌-◌, List, [], ◌∷◌, ◌++◌, length, take, false, refl, sym, ap, ◌∙◌, subst, arith, length-append}
use Rattle.std.specs.List.{list_any}
use Rattle.cluster_types.specs.declared.entry.Entry.{Entry}
use Rattle.controller_desk.specs.declared.desk.Desk.{Desk}
use Rattle.disk_model.specs.declared.disk.Disk.{Ghosts as OfDisk}
use Rattle.thread_edges.specs.declared.clock.Clock.{Ghosts as OfClock}
use Rattle.thread_edges.specs.declared.words.Words.{Ghosts as OfWords}
use Rattle.controller_desk.specs.Turns.{beyond}
use Rattle.history_lock.specs.declared.known.Content.{Content}
use Rattle.history_lock.specs.declared.lock.Pass.{Pass}
use Rattle.history_lock.specs.History.{is_open_entry, Extends}
use Rattle.history_lock.specs.Names.{LockId, known, lock_id, IsIdle}
use Rattle.history_lock.proofs.Growing.{extends_self, extends_on}
use Rattle.controller_desk.specs.Contents.{Rests}
use Rattle.controller_threads.specs.Passes.{IsLater, IsSince, IsRested}

-- TWO FORMS OF THE SAME

cut : (es old : List Entry) → take (length (es ++ old) - length old) (es ++ old) ≡ es
cut es old =
    let n : length (es ++ old) - length old ≡ length es = omega (arith, length-append es old) in
    ap (λ (k : ℕ). take k (es ++ old)) n ∙ front es
  where
    front : (xs : List Entry) → take (length xs) (xs ++ old) ≡ xs
    front [] = none old
      where
        none : (ys : List Entry) → take 0 ys ≡ []
        none [] = refl
        none (y ∷ ys) = refl
    front (x ∷ xs) = ap (λ (ys : List Entry). x ∷ ys) (front xs)

pub later_of : (a b : Content) → Extends a b → IsLater a b
later_of a b on =
    let same : on.beyond ≡ beyond a.list b.list = sym (ap (λ (h : List Entry). take (length h - length a.list) h) on.list ∙ cut on.beyond a.list) in
    (on.list ∙ ap (λ (xs : List Entry). xs ++ a.list) same, subst (λ (xs : List Entry). list_any is_open_entry xs ≡ false) same on.no_open, on.counts)

pub extends_of : (a b : Content) → IsLater a b → Extends a b
extends_of a b on = record { beyond = beyond a.list b.list; list = on.0; no_open = on.1; counts = on.2 }

-- PASSES

-- the lock of a desk that is lent
pub named : {D C W : Type 0} {disk : OfDisk D} {clock : OfClock C} {words : OfWords W} {lent desk : Desk D C W disk clock words} {lock : LockId} → lent ≡ desk → lock_id desk.lock ≡ lock → lock_id lent.lock ≡ lock
named same is = ap (λ d. lock_id d.lock) same ∙ is

module _ {T : Type 0} (desk lock : LockId) (start : Content) (old new : Pass T) where
  -- a pass that has gone on
  pub since_later : desk ≡ lock → IsSince lock start old → IsIdle desk new → Extends (known old).seen (known new).seen → IsSince lock start new
  since_later same since idle on =
      ((idle.0 ∙ same, idle.1, idle.2), later_of start (known new).seen (extends_on start (known old).seen (known new).seen (extends_of start (known old).seen since.1) on))

  -- a pass that has gone on to a history that rests
  pub rested_later : desk ≡ lock → IsSince lock start old → IsIdle desk new → Extends (known old).seen (known new).seen → Rests (known new).seen → IsRested lock start new
  rested_later same since idle on rests =
      ((idle.0 ∙ same, idle.1, idle.2), extends_on start (known old).seen (known new).seen (extends_of start (known old).seen since.1) on, rests)
