-- What a settle frees: tasks whose `after` it makes met, and tasks whose `after` it makes unreachable.
use Rattle.std.specs.Prelude.{◌≡◌, ◌⊎◌, List, Option, Some, None, Bool, true, false, not, ◌&&◌, if◌then◌else◌, bytes_eq}
use Rattle.std.specs.Option.{is_some, is_none}
use Rattle.cluster_types.specs.declared.event.Dep.{Dep}
use Rattle.cluster_defs.specs.Words.{Id}
use Rattle.cluster_defs.specs.declared.settled.Settled.{Settled}
use Rattle.cluster_defs.specs.Dependencies.{met, unreachable}
use Rattle.cluster_defs.specs.Requests.{Request}
use Rattle.cluster_types.specs.declared.message.Message.{Message}
use Rattle.task_table.specs.Seen.{Seen, seen_in, changed, settled_with}
use Rattle.task_table.specs.Waiting.{settled_in, waits_on}

-- how each id is settled, once one of them is settled so
abbrev pub settled_so : Id → Settled → (Id → Option Settled) → Id → Option Settled
settled_so id s before j = if bytes_eq j id then Some s else before j

-- whether a test of `after` fails before a settle, and holds once it is made
abbrev pub turns : (Dep → (Id → Option Settled) → Bool) → Id → Settled → List Seen → Option Request → Bool
turns test id s ts None = false
turns test id s ts (Some r) = not (test r.after (settled_in ts)) && test r.after (settled_so id s (settled_in ts))

-- whether a settle newly makes met what a task waits for
abbrev pub newly_met : Id → Settled → List Seen → Seen → Bool
newly_met id s ts t = is_none t.settled && turns met id s ts t.request

-- whether it newly makes it unreachable
abbrev pub newly_dead : Id → Settled → List Seen → Seen → Bool
newly_dead id s ts t = is_none t.settled && turns unreachable id s ts t.request

-- a settle changes how its id is settled, where that is known, and how no other is
abbrev pub SettlesOne : Type 0
SettlesOne = (ts : List Seen) (id j : Id) (s : Settled) (outcome : Option Message) → is_some (seen_in ts id) ≡ true → settled_in (changed id (settled_with s outcome) ts) j ≡ settled_so id s (settled_in ts) j

-- what it frees lists the id, and isn't settled
abbrev pub FreesListed : Type 0
FreesListed = (id : Id) (s : Settled) (ts : List Seen) (t : Seen) → (newly_met id s ts t ≡ true) ⊎ (newly_dead id s ts t ≡ true) → waits_on id t ≡ true
