-- Links that are dialled.
use Rattle.std.specs.Prelude.{◌≡◌, ℕ, ◌⊎◌, ◌<◌, List, Option}
use Rattle.cluster_types.specs.Causes.{Rose}
use Rattle.edges.specs.declared.sink.Sink.{Ghosts as OfSink}
use Rattle.edges.specs.declared.source.Source.{Ghosts as OfSource}
use Rattle.thread_edges.specs.declared.links.Dialer.{Ghosts as OfDialer}
use Rattle.thread_edges.specs.declared.links.Accepted.TheVariants.{Pair}
use Rattle.thread_edges.specs.Links.{Accepts, Dialling, IsFresh, dialled_once}

-- what readers and writers tell: what is left, what was written, and how often each failed
pub record Tells (I O : Type 0) : Type 0 where
  pub left : I → Option (List ℕ)
  pub reads : I → ℕ
  pub written : O → Option (List ℕ)
  pub writes : O → ℕ

-- what dials: what its links tell, those that still came before a call and those that still come, that a dial failed, and which
-- dials it had been told before the call and after it
pub record Dials (I O : Type 0) : Type 1 where
  pub tells : Tells I O
  pub before : Option (List (I × O))
  pub now : Option (List (I × O))
  pub failed : Type 0
  pub told_before : Dialling
  pub told : Dialling

-- a dialler before a call, and after it
abbrev pub dials : {N I O : Type 0} → OfDialer N I O → OfSource I → OfSink O → (old new : N) → Dials I O
dials dialer reader writer old new = record {
  tells = record { left = reader.left; reads = reader.faults; written = writer.written; writes = writer.faults };
  before = dialer.links old;
  now = dialer.links new;
  failed = Rose (dialer.faults old) (dialer.faults new);
  told_before = dialer.dialled old;
  told = dialer.dialled new;
}

-- an output: what was written to it before a call, and after it, where that is told, and that a write failed
pub record Prints : Type 1 where
  pub before : Option (List ℕ)
  pub now : Option (List ℕ)
  pub failed : Type 0

-- an output before a call, and after it
abbrev pub prints : {K : Type 0} → OfSink K → (old new : K) → Prints
prints sink old new = record { before = sink.written old; now = sink.written new; failed = Rose (sink.faults old) (sink.faults new) }

-- a channel was dialled, once, and no other
abbrev pub Dialled : {I O : Type 0} → ℕ → Dials I O → Type 0
Dialled channel links = links.told ≡ dialled_once channel links.told_before

-- nothing was dialled
abbrev pub IsUndialled : {I O : Type 0} → Dials I O → Type 0
IsUndialled links = (links.now ≡ links.before) × (links.told ≡ links.told_before)

-- a channel was dialled, once, or nothing
abbrev pub DialledAtMost : {I O : Type 0} → ℕ → Dials I O → Type 0
DialledAtMost channel links = Dialled channel links ⊎ IsUndialled links

-- this link was dialled: it is the next one, where links are told, it has no faults, and nothing was written to it
abbrev pub IsDialled : {I O : Type 0} → Dials I O → I → O → Type 0
IsDialled links reader writer = Accepts (Pair reader writer) links.before links.now × IsFresh links.tells.reads links.tells.writes links.tells.written (Pair reader writer)

-- its reader or its writer failed
abbrev pub HasFailed : {I O : Type 0} → Tells I O → I → O → Type 0
HasFailed tells reader writer = (0 < tells.reads reader) ⊎ (0 < tells.writes writer)
