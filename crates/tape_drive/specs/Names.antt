-- What is sent about ids is about known ones: those that were accepted, and those that a Resubmit made.
use Rattle.std.specs.Prelude.{◌≡◌, ◌⊎◌, ℕ, List, [], ◌∷◌, Some, true, not, filter}
use Rattle.std.specs.List.{AllByRecursion}
use Rattle.cluster_types.specs.declared.message.Message.{Message}
use Rattle.cluster_types.specs.declared.out.Out.TheVariants.{Pass}
use Rattle.cluster_types.specs.declared.entry.Entry.{Entry}
use Rattle.cluster_types.specs.declared.entry.Entry.TheVariants.{Input}
use Rattle.cluster_types.specs.declared.entry.Input.TheVariants.{In}
use Rattle.cluster_defs.specs.Words.{Id, is_listed}
use Rattle.cluster_defs.specs.Facts.{event_in}
use Rattle.cluster_defs.specs.Purges.{Copy, gone_or_unknown, copied_by}
use Rattle.cluster_defs.specs.Histories.{History, facts, Legal}
use Rattle.cluster_defs.specs.Outcomes.{hand_out, outcome}
use Rattle.cluster_defs.specs.Lives.{Sends}

abbrev pub IsKnown : History → Id → Type 0
IsKnown history id = is_listed id (facts history).known ≡ true

-- a message is the request of an id, or its outcome, before an entry or behind it
abbrev pub IsAbout : History → Entry → Id → Message → Type 0
IsAbout older e id message =
    (hand_out (facts older) id ≡ Some message) ⊎ (outcome (facts older) id ≡ Some message) ⊎ (outcome (facts (e ∷ older)) id ≡ Some message)

-- a message is about an id that is known
abbrev pub IsAboutKnown : History → Entry → Message → Type 0
IsAboutKnown older e message = (id : Id) × IsKnown (e ∷ older) id × IsAbout older e id message

-- each message that is passed on is the request or the outcome of a known id
abbrev pub PassesAreKnown : Type 0
PassesAreKnown =
    (older : History) (e : Entry) (conn : ℕ) (message : Message) → Legal (e ∷ older) → Sends (e ∷ older) (Pass conn message) → IsAboutKnown older e message

-- the ids of the reply to a question for all
abbrev pub HistoryIsKnown : Type 0
HistoryIsKnown = (history : History) → AllByRecursion (IsKnown history) (filter (λ id. not ((facts history).purged id)) (facts history).known)

-- the ids of a question for results that isn't refused
abbrev pub ResultsAreKnown : Type 0
ResultsAreKnown = (history : History) (ids : List Id) → gone_or_unknown (facts history) ids ≡ [] → AllByRecursion (IsKnown history) ids

-- the ids of the reply to a Resubmit, the old ones before it and the new ones behind it
abbrev pub CopiesAreKnown : Type 0
CopiesAreKnown =
    (older : History) (conn moment word : ℕ) (message : Message) (copies : List Copy) →
    copied_by (facts older) (event_in (facts older) (Input (In conn moment word message))) ≡ Some copies →
    AllByRecursion (λ c. IsKnown older c.old × IsKnown (Input (In conn moment word message) ∷ older) c.new) copies
