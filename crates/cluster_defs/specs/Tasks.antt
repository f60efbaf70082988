-- Tasks: what became of their attempts, by small steps, and how they were settled.
use Rattle.std.specs.Prelude.{ℕ, ◌+◌, ◌==◌, List, [], ◌∷◌, Option, Some, None, Bool, true, false, not, ◌&&◌, if◌then◌else◌, bytes_eq}
use Rattle.std.specs.List.{list_any}
use Rattle.cluster_types.specs.declared.event.Event.{Event}
use Rattle.cluster_types.specs.declared.event.Event.TheVariants.{Reply}
use Rattle.cluster_types.specs.declared.verdict.Verdict.{Verdict}
use Rattle.cluster_types.specs.declared.verdict.Cause.{Cause}
use Rattle.cluster_defs.specs.declared.attempt.Attempt.{Attempt}
use Rattle.cluster_defs.specs.declared.attempt.Attempt.TheVariants.{Never, Running, EndedOk, EndedBadly, Lost, Declined, Withdrawn}
use Rattle.cluster_defs.specs.declared.attempt.Ending.{Ending}
use Rattle.cluster_defs.specs.declared.attempt.Ending.TheVariants.{Well, Badly, Declines}
use Rattle.cluster_defs.specs.declared.engine.Engine.{Engine}
use Rattle.cluster_defs.specs.declared.settled.Settled.{Settled}
use Rattle.cluster_defs.specs.Words.{Id, is_listed, is_number}
use Rattle.cluster_defs.specs.Engines.{conn_in}

-- the last attempt; how many attempts ended by an error reply, an engine's end or an Open; the engines that declined;
-- the engine and the header id of each valid reply
pub record Task : Type 0 where
  pub last : Attempt
  pub spent : ℕ
  pub excluded : List ℕ
  pub heard : List (ℕ × List ℕ)

abbrev pub new_task : Task
new_task = record { last = Never; spent = 0; excluded = []; heard = [] }

-- whether an attempt is current, and on which engine
abbrev pub runs : Attempt → Bool
runs (Running n) = true
runs _ = false

abbrev pub runs_at : ℕ → Attempt → Bool
runs_at n (Running m) = m == n
runs_at n _ = false

abbrev pub is_never : Attempt → Bool
is_never Never = true
is_never _ = false

-- the engine of an attempt
abbrev pub engine_of : Attempt → Option ℕ
engine_of Never = None
engine_of (Running n) = Some n
engine_of (EndedOk n) = Some n
engine_of (EndedBadly n) = Some n
engine_of (Lost n) = Some n
engine_of (Declined n) = Some n
engine_of (Withdrawn engine) = engine

-- a Hand begins an attempt
abbrev pub handed : ℕ → Task → Task
handed n t = record t { last = Running n }

-- a current attempt ends with its engine or by an Open, and is spent
abbrev pub lost : Attempt → Task → Task
lost (Running n) t = record t { last = Lost n; spent = t.spent + 1 }
lost _ t = t

-- REPLIES

-- a decline of a direct request counts as an error reply
abbrev pub ending : Bool → Bool → Bool → Ending
ending direct ok true = if direct then Badly else Declines
ending direct ok false = if ok then Well else Badly

-- the connection of the engine of the current attempt
abbrev pub home : List Engine → Attempt → Option ℕ
home live (Running n) = conn_in n live
home live _ = None

-- whether the engine of the current attempt has given a valid reply with this header id before
abbrev pub has_heard : List ℕ → List (ℕ × List ℕ) → Attempt → Bool
has_heard header heard (Running n) = list_any (λ h. h.0 == n && bytes_eq h.1 header) heard
has_heard header heard _ = false

-- whether a reply on a connection is valid: the current attempt's engine has the connection, and the header id is new
abbrev pub counts : List Engine → ℕ → List ℕ → Task → Bool
counts live conn header t = is_number conn (home live t.last) && not (has_heard header t.heard t.last)

abbrev pub replied : List ℕ → Ending → ℕ → Task → Task
replied header Well n t = record t { last = EndedOk n; heard = (n, header) ∷ t.heard }
replied header Badly n t = record t { last = EndedBadly n; spent = t.spent + 1; heard = (n, header) ∷ t.heard }
replied header Declines n t = record t { last = Declined n; excluded = n ∷ t.excluded; heard = (n, header) ∷ t.heard }

abbrev pub took : List ℕ → Ending → Attempt → Task → Task
took header how (Running n) t = replied header how n t
took header how _ t = t

-- what a reply on a connection makes of a task, which is direct or not
abbrev pub after_reply : List Engine → ℕ → Id → Bool → Option Event → Task → Task
after_reply live conn id direct (Some (Reply name header ok declined)) t =
    if bytes_eq name id && counts live conn header t then took header (ending direct ok declined) t.last t else t
after_reply live conn id direct _ t = t

-- an engine's end, where there is one, ends what runs on it
abbrev pub after_end : Option ℕ → Task → Task
after_end None t = t
after_end (Some n) t = if runs_at n t.last then lost t.last t else t

-- an accepted abort that lists a task is its end: a current attempt isn't spent
abbrev pub withdrawn : Task → Task
withdrawn t = record t { last = Withdrawn (engine_of t.last) }

-- of the ids that an abort takes back
abbrev pub after_abort : List Id → Id → Task → Task
after_abort ids id t = if is_listed id ids then withdrawn t else t

-- SETTLED

-- on the engine of its last attempt or on none, and at which moment
abbrev pub settled_as : Verdict → Cause → ℕ → Task → Settled
settled_as verdict cause moment t = record { verdict = verdict; cause = cause; engine = engine_of t.last; moment = moment }
