-- What a store keeps to.
use Rattle.std.specs.Prelude.{◌≡◌, ◌≤◌, ℕ, ◌-◌, nat_le, List, [], ◌∷◌, length, drop, map, None, Bool, true}
use Rattle.std.specs.List.{list_all}
use Rattle.cluster_types.specs.declared.out.Out.{Out}
use Rattle.cluster_types.specs.declared.entry.Entry.{Entry}
use Rattle.cluster_defs.specs.Scheduling.{due}
use Rattle.cluster_defs.specs.Histories.{History, facts, Legal}
use Rattle.cluster_defs.specs.Lives.{Sending, kept_end, sendings_to}
use Rattle.cluster_core.specs.Steps.{kept_from}
use Rattle.cluster_store.specs.declared.waiting.Waiting.{Waiting}
use Rattle.cluster_store.specs.Stores.{up_to}

-- an out with whether it may be handed out: as it waits, and by the history
abbrev pub judged : ℕ → Waiting → Out × Bool
judged mark w = (w.out, nat_le w.need mark)

abbrev pub judged_by : ℕ → Sending → Out × Bool
judged_by mark s = (s.1, nat_le (kept_end s.0) mark)

-- how many entries are to be safe for what a step sends: all up to its end where it keeps some, and else as many as before
abbrev pub need_after : ℕ → List Entry → ℕ → ℕ
need_after need [] size = need
need_after need (e ∷ es) size = size

-- how many outs to a connection were taken, where these are left
abbrev pub told_of : (ℕ → List Waiting) → History → ℕ → ℕ
told_of left history conn = length (sendings_to history conn) - length (left conn)

-- the outs that wait are the last ones that were sent to each connection, with what they need; `need` is what the
-- newest entry needs
pub record IsWaiting (history : History) (mark need : ℕ) (left : ℕ → List Waiting) : Type 0 where
  pub fits : (conn : ℕ) → length (left conn) ≤ length (sendings_to history conn)
  pub same : (conn : ℕ) → map (judged mark) (left conn) ≡ map (judged_by mark) (drop (told_of left history conn) (sendings_to history conn))
  pub needs : (conn : ℕ) → list_all (λ w. nat_le w.need (length history)) (left conn) ≡ true
  pub need_is : nat_le need mark ≡ nat_le (kept_end history) mark
  pub need_fits : need ≤ length history

-- a legal history that rests, of which so much is safe and the rest of what is kept stands in a batch
pub record IsHeld (history : History) (mark need : ℕ) (left : ℕ → List Waiting) (batch : List Entry) : Type 0 where
  pub legal : Legal history
  pub rests : due (facts history) ≡ None
  pub mark_fits : mark ≤ length history
  pub mark_rests : due (facts (up_to mark history)) ≡ None
  pub waiting : IsWaiting history mark need left
  pub batch_is : batch ≡ kept_from mark history
