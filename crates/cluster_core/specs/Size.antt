-- How much came since the last Open, and when it is too much.
use Rattle.std.specs.Prelude.{◌≡◌, true, ℕ, min, ◌-◌, ◌^◌, nat_lt, Bool, ◌||◌, List, [], ◌∷◌, length, sum_by}
use Rattle.cluster_types.specs.declared.entry.Input.TheVariants.{Open}
use Rattle.cluster_types.specs.declared.entry.Entry.{Entry}
use Rattle.cluster_types.specs.declared.entry.Entry.TheVariants.{Input}
use Rattle.record_codec.specs.Sizes.{record_size}
use Rattle.cluster_defs.specs.Histories.{History}
use Rattle.cluster_core.specs.declared.size.HistorySize.{HistorySize}
use Rattle.cluster_core.specs.declared.plan.PlanError.{PlanError}
use Rattle.cluster_core.specs.declared.plan.PlanError.TheVariants.{HistoryFull, OutOfMemory}

-- an Open begins anew; the decisions before the first input after it are its own
abbrev pub next_since : Entry → List Entry → List Entry
next_since (Input (Open moment scheme hwm misses)) since = []
next_since (Input input) since = Input input ∷ since
next_since decision [] = []
next_since decision (e ∷ since) = decision ∷ e ∷ since

-- the entries after the last Open and its decisions, the newest first
abbrev pub since_open : History → List Entry
since_open [] = []
since_open (e ∷ older) = next_since e (since_open older)

-- a number, or the greatest one of 64 bits where that is less
abbrev pub capped : ℕ → ℕ
capped n = min n (2 ^ 64 - 1)

-- how many they are, and how many octets their records have
abbrev pub size_since : History → HistorySize
size_since history = record { entries = capped (length (since_open history)); bytes = capped (sum_by record_size (since_open history)) }

-- entries or octets are more than a limit has
abbrev pub is_past : HistorySize → HistorySize → Bool
is_past limit size = nat_lt limit.entries size.entries || nat_lt limit.bytes size.bytes

-- what no history passes
abbrev pub no_limit : HistorySize
no_limit = record { entries = 2 ^ 64 - 1; bytes = 2 ^ 64 - 1 }

-- a history of this size is refused for it: it passes the limit
abbrev pub FullAt : HistorySize → HistorySize → PlanError → Type 0
FullAt limit size (HistoryFull entries bytes) = (record { entries = entries; bytes = bytes } ≡ size) × (is_past limit size ≡ true)
FullAt limit size OutOfMemory = Unit {0}
