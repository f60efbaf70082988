-- The calls of a store as moves of a life.
use Rattle.std.specs.Prelude.{◌≡◌, ◌≤◌, ℕ, List, [], ◌∷◌, length, slice_get, Some, None, false}
use Rattle.cluster_types.specs.declared.entry.Input.{Input as InputType}
use Rattle.cluster_types.specs.declared.entry.Entry.TheVariants.{Input}
use Rattle.cluster_defs.specs.Scheduling.{due, Allowed}
use Rattle.cluster_defs.specs.Histories.{facts, decide_all}
use Rattle.cluster_defs.specs.Lives.{World, Move, Flush, Send, Crash, May, Sending, kept_end, sendings_to, is_open, moved_by}
use Rattle.cluster_store.specs.declared.taken.Taken.TheVariants.{Out as Hands}
use Rattle.cluster_store.specs.Stores.{up_to, told_by}

-- a world after further moves, the newest first
abbrev pub world_after : World → List Move → World
world_after w [] = w
world_after w (m ∷ moves) = moved_by (world_after w moves) m

-- each of them may be made in the world that those before it lead to
abbrev pub MayGo : World → List Move → Type 0
MayGo w [] = Unit {0}
MayGo w (m ∷ moves) = May (world_after w moves) m × MayGo w moves

-- a step is Grow moves alone: its input and each decision that is then due
abbrev pub StepGrows : Type 0
StepGrows =
    (w : World) (input : InputType) → w.down ≡ false → Allowed (facts w.history) (Input input) → is_open (Input input) ≡ false →
    (moves : List Move) × MayGo w moves × (world_after w moves ≡ record w { history = decide_all (Input input ∷ w.history) })

-- a flush is a Flush to the whole history
abbrev pub FlushIsMove : Type 0
FlushIsMove =
    (w : World) → w.down ≡ false → w.mark ≤ length w.history → due (facts w.history) ≡ None →
    May w (Flush w.history) × (moved_by w (Flush w.history) ≡ record w { mark = length w.history })

-- a take that hands out an out is a Send of it
abbrev pub TakeIsMove : Type 0
TakeIsMove =
    (w : World) (conn : ℕ) (s : Sending) → w.down ≡ false → slice_get (sendings_to w.history conn) (w.told conn) ≡ Some s → kept_end s.0 ≤ w.mark →
    May w (Send conn s) × (moved_by w (Send conn s) ≡ record w { sent = s ∷ w.sent; told = told_by (Hands s.1) conn w.told })

-- a crash that leaves what is kept of the safe front, or of the whole history, is a Crash
abbrev pub CrashIsMove : Type 0
CrashIsMove =
    (w : World) → w.down ≡ false → w.mark ≤ length w.history → due (facts w.history) ≡ None → due (facts (up_to w.mark w.history)) ≡ None →
    May w (Crash (up_to w.mark w.history)) × May w (Crash w.history)
