-- Outs that wait until what they tell of is safe on the disk.
use Rattle.std.specs.Prelude.{ℕ, nat_le, nat_eq, List, [], ◌∷◌, map, Option, Some, None, Bool, true, false, ◌||◌, not, if◌then◌else◌}
use Rattle.std.specs.Map.{lookup}
use Rattle.cluster_types.specs.declared.out.Out.{Out}
use Rattle.cluster_store.specs.declared.waiting.Waiting.{Waiting}
use Rattle.cluster_store.specs.declared.taken.Taken.{Taken}
use Rattle.cluster_store.specs.declared.taken.Taken.TheVariants.{Out as Hands, NothingYet, Closed}

-- the outs that wait for one connection, and for how many more there is room
pub record LineView : Type 0 where
  pub outs : List Waiting
  pub room : ℕ

-- the outs that wait, by connection
abbrev pub Lines : Type 0
Lines = List (ℕ × LineView)

abbrev pub outs_in : Option LineView → List Waiting
outs_in None = []
outs_in (Some line) = line.outs

abbrev pub room_in : Option LineView → ℕ
room_in None = 0
room_in (Some line) = line.room

-- the outs that wait for a connection, and for how many more there is room
abbrev pub left_at : Lines → ℕ → List Waiting
left_at lines conn = outs_in (lookup (nat_eq conn) lines)

abbrev pub room_at : Lines → ℕ → ℕ
room_at lines conn = room_in (lookup (nat_eq conn) lines)

abbrev pub is_none_left : List Waiting → Bool
is_none_left [] = true
is_none_left (w ∷ ws) = false

-- the first out, where so many entries are safe that it may be handed out
abbrev pub released : ℕ → List Waiting → Option Out
released mark [] = None
released mark (w ∷ ws) = if nat_le w.need mark then Some w.out else None

-- those that wait after it was taken
abbrev pub after : ℕ → List Waiting → List Waiting
after mark [] = []
after mark (w ∷ ws) = if nat_le w.need mark then ws else w ∷ ws

-- what a take from a connection that is live or not answers with this out, or with none, where none is left or some are
abbrev pub handed : Bool → Bool → Option Out → Taken
handed live none (Some out) = Hands out
handed live none None = if live || not none then NothingYet else Closed

-- a take answers anything but that there is none yet
abbrev pub is_news : Taken → Bool
is_news (Hands out) = true
is_news NothingYet = false
is_news Closed = true

-- outs that need so many entries to be safe
abbrev pub waiting_of : ℕ → Out → Waiting
waiting_of need out = record { out = out; need = need }

abbrev pub waits : ℕ → List Out → List Waiting
waits need outs = map (waiting_of need) outs
