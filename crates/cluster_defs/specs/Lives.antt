-- A cluster over crashes: its history, what is safe on the disk, and all that was ever sent.
use Rattle.std.specs.Prelude.{◌≡◌, ◌≤◌, ℕ, suc, ◌==◌, List, [], ◌∷◌, ◌++◌, length, map, slice_get, Some, None, Bool, true, false, if◌then◌else◌}
use Rattle.cluster_types.specs.declared.out.Out.{Out}
use Rattle.cluster_types.specs.declared.entry.Input.TheVariants.{Open}
use Rattle.cluster_types.specs.declared.entry.Entry.{Entry}
use Rattle.cluster_types.specs.declared.entry.Entry.TheVariants.{Input}
use Rattle.cluster_defs.specs.Scheduling.{due, Allowed, is_kept}
use Rattle.cluster_defs.specs.Histories.{History, facts, Legal, kept}
use Rattle.cluster_defs.specs.Outs.{outs, outs_on}

-- an out, with the history up to and with its entry
abbrev pub Sending : Type 0
Sending = History × Out

-- a history; how many of its entries are safe on the disk; all that was sent, the newest first; how many outs to each
-- connection were sent since the last Open; whether a crash came, after which an Open comes next
pub record World : Type 0 where
  pub history : History
  pub mark : ℕ
  pub sent : List Sending
  pub told : ℕ → ℕ
  pub down : Bool

abbrev pub new_world : World
new_world = record { history = []; mark = 0; sent = []; told = λ conn. 0; down = false }

-- a history that another one begins with
abbrev pub IsFront : History → History → Type 0
IsFront front history = (later : List Entry) × (history ≡ later ++ front)

-- how many entries there are up to the newest one that is kept
abbrev pub kept_end : History → ℕ
kept_end [] = 0
kept_end (e ∷ older) = if is_kept (facts older) e then suc (length older) else kept_end older

abbrev pub sendings : History → List Out → List Sending
sendings history = map (λ o. (history, o))

-- the outs to a connection since the last Open, in order, each with the history up to and with its entry
abbrev pub sendings_to : History → ℕ → List Sending
sendings_to [] conn = []
sendings_to (Input (Open moment scheme hwm misses) ∷ older) conn = []
sendings_to (e ∷ older) conn = sendings_to older conn ++ sendings (e ∷ older) (outs_on conn (outs (e ∷ older)))

pub data Move : Type 0 where
  Grow : Entry → Move
  Flush : History → Move
  Send : ℕ → Sending → Move
  Crash : History → Move

abbrev pub is_open : Entry → Bool
is_open (Input (Open moment scheme hwm misses)) = true
is_open _ = false

-- the move after a crash is the Grow by an Open
abbrev pub OpensIf : Bool → Entry → Type 0
OpensIf true e = is_open e ≡ true
OpensIf false e = Unit {0}

-- a front of the history with all that is safe, after which no decision is due
abbrev pub IsWholeFront : World → History → Type 0
IsWholeFront w front = IsFront front w.history × (w.mark ≤ length front) × (due (facts front) ≡ None)

-- Grow: an entry is appended, and the history stays legal.
-- Flush: the mark rises to the end of a front after which no decision is due.
-- Send: the first out to its connection since the last Open that isn't sent; every kept entry up to its is below the mark.
-- Crash: what stays is the kept entries of a front with all that is safe, after which no decision is due.
abbrev pub May : World → Move → Type 0
May w (Grow e) = Allowed (facts w.history) e × OpensIf w.down e
May w (Flush front) = IsWholeFront w front × (w.down ≡ false)
May w (Send conn s) = (slice_get (sendings_to w.history conn) (w.told conn) ≡ Some s) × (kept_end s.0 ≤ w.mark) × (w.down ≡ false)
May w (Crash front) = IsWholeFront w front × (w.down ≡ false)

-- an Open begins the count of what was sent anew
abbrev pub told_after : Entry → (ℕ → ℕ) → ℕ → ℕ
told_after (Input (Open moment scheme hwm misses)) told conn = 0
told_after _ told conn = told conn

abbrev pub moved_by : World → Move → World
moved_by w (Grow e) = record w { history = e ∷ w.history; told = told_after e w.told; down = false }
moved_by w (Flush front) = record w { mark = length front }
moved_by w (Send conn s) = record w { sent = s ∷ w.sent; told = λ c. if c == conn then suc (w.told c) else w.told c }
moved_by w (Crash front) = record w { history = kept front; mark = length (kept front); down = true }

-- the world after some moves, the newest first
abbrev pub world : List Move → World
world [] = new_world
world (m ∷ moves) = moved_by (world moves) m

-- each move may be made in the world that those before it lead to
abbrev pub Life : List Move → Type 0
Life [] = Unit {0}
Life (m ∷ moves) = May (world moves) m × Life moves

-- an out of the newest entry
abbrev pub Sends : History → Out → Type 0
Sends history out = (before : List Out) × (after : List Out) × (outs history ≡ before ++ out ∷ after)

-- what was sent belongs to a history: a legal one sent it, whose kept entries this one's begin with
abbrev pub Belongs : History → List Sending → Type 0
Belongs history [] = Unit {0}
Belongs history (s ∷ sent) = Legal s.0 × Sends s.0 s.1 × IsFront (kept s.0) (kept history) × Belongs history sent
