-- What a store stands for behind a lock: its history, and counts that never fall.
use Rattle.std.specs.Prelude.{◌≡◌, ℕ, zero, suc, ◌+◌, ◌^◌, List, [], ◌∷◌, slice_index, Bool, true, false, None}
use Rattle.cluster_core.specs.declared.size.HistorySize.{HistorySize}
use Rattle.cluster_defs.specs.Scheduling.{due}
use Rattle.cluster_defs.specs.Histories.{facts, Legal}
use Rattle.history_lock.specs.declared.known.Content.{Content}
use Rattle.cluster_store.specs.Stores.{StoreView, told}

abbrev pub flag : Bool → ℕ
flag true = 1
flag false = 0

-- the first values of a function
abbrev pub first_values : ℕ → (ℕ → ℕ) → List ℕ
first_values zero f = []
first_values (suc n) f = f 0 ∷ first_values n (λ k. f (suc k))

-- how many numbers a connection may have
unfoldable pub conn_numbers : ℕ
conn_numbers = 2 ^ 32

-- the counts: the disk's faults, the mark, how many steps the limits refused, whether a call of the disk failed, the two
-- limits, and how many outs were taken of each connection
abbrev pub content_of : {D : Type 0} → (D → ℕ) → StoreView D → Content
content_of faults v = record {
  list = v.history;
  counts = faults v.disk ∷ v.mark ∷ v.fulls ∷ flag v.failed ∷ v.limits.entries ∷ v.limits.bytes ∷ first_values conn_numbers (told v);
}

-- the place of the count of a connection
abbrev pub taken_place : ℕ → ℕ
taken_place conn = conn + 6

-- WHAT A PASS SEES OF IT

-- how many calls of the disk failed
abbrev pub faults_seen : Content → ℕ
faults_seen c = slice_index c.counts 0

-- how many steps the limits refused
abbrev pub fulls_seen : Content → ℕ
fulls_seen c = slice_index c.counts 2

-- whether a call of the disk failed: 1, else 0
abbrev pub failed_seen : Content → ℕ
failed_seen c = slice_index c.counts 3

-- the limits of entries and of octets
abbrev pub limits_seen : Content → HistorySize
limits_seen c = record { entries = slice_index c.counts 4; bytes = slice_index c.counts 5 }

-- how many outs were taken of a connection
abbrev pub taken_seen : Content → ℕ → ℕ
taken_seen c conn = slice_index c.counts (taken_place conn)

-- the history is legal, and no decision is due after it
abbrev pub Rests : Content → Type 0
Rests c = Legal c.list × (due (facts c.list) ≡ None)
