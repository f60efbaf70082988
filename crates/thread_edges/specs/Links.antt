-- What an accept or a dial does to the links that still come. None: it isn't told.
use Rattle.std.specs.Prelude.{◌≡◌, ◌∷◌, ℕ, ◌≤◌, List, [], Bool, Option, Some, None, option_map}
use Rattle.cluster_types.specs.Causes.{Rose}
use Rattle.edges.specs.Memory.{Reading, Writing, counted, is_listed}
use Rattle.thread_edges.specs.declared.links.Accepted.{Accepted}
use Rattle.thread_edges.specs.declared.links.Accepted.TheVariants.{Pair, End, Failed}

-- a pair is the next link, and the end is where none is left
abbrev pub Accepts : {I O : Type 0} → Accepted I O → Option (List (I × O)) → Option (List (I × O)) → Type 0
Accepts (Pair i o) old new = old ≡ option_map (λ rest. (i, o) ∷ rest) new
Accepts End old new = (old ≡ Some []) × (new ≡ old)
Accepts Failed old new = new ≡ old

-- nothing was written, where it is told
abbrev pub IsUnwritten : Option (List ℕ) → Type 0
IsUnwritten (Some written) = written ≡ []
IsUnwritten None = Unit {0}

-- a pair has no faults, and nothing was written to it
abbrev pub IsFresh : {I O : Type 0} → (I → ℕ) → (O → ℕ) → (O → Option (List ℕ)) → Accepted I O → Type 0
IsFresh reads writes written (Pair i o) = (reads i ≡ 0) × (writes o ≡ 0) × IsUnwritten (written o)
IsFresh reads writes written End = Unit {0}
IsFresh reads writes written Failed = Unit {0}

-- a fault is answered only where the count rose, and the count doesn't fall
abbrev pub LinkCause : {I O : Type 0} → Accepted I O → ℕ → ℕ → Type 0
LinkCause (Pair i o) before now = before ≤ now
LinkCause End before now = before ≤ now
LinkCause Failed before now = (before ≤ now) × Rose before now

-- what a dialer was asked for: how often, and which channel last
pub record Dialling : Type 0 where
  pub times : ℕ
  pub last : Option ℕ

-- this channel was dialled, once more
abbrev pub dialled_once : ℕ → Dialling → Dialling
dialled_once channel before = record { times = counted before.times; last = Some channel }

-- a link in memory that has neither given nor taken
abbrev pub IsUnused : Reading × Writing → Type 0
IsUnused (source, sink) = (source.calls ≡ 0) × (source.faults ≡ 0) × (sink.written ≡ []) × (sink.calls ≡ 0) × (sink.faults ≡ 0)

-- a listener or a dialer in memory: the links that still come, the calls so far, the numbers of the calls that fail, and
-- how many have failed
pub record Linking : Type 0 where
  pub links : List (Reading × Writing)
  pub calls : ℕ
  pub failing : List ℕ
  pub faults : ℕ

-- a dialer in memory: its line, and the channel that was dialled last
pub record MemDialling : Type 0 where
  pub line : Linking
  pub last : Option ℕ

-- whether the next call is one that fails
abbrev pub fails_next : Linking → Bool
fails_next l = is_listed l.calls l.failing

-- the count of faults after a call with this answer
abbrev pub faults_by : {I O : Type 0} → Accepted I O → ℕ → ℕ
faults_by (Pair i o) before = before
faults_by End before = before
faults_by Failed before = counted before
