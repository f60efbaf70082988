-- One step of a cluster: an input with all decisions that are then due, and what it sends; and many steps.
use Rattle.std.specs.Prelude.{◌≡◌, true, List, [], ◌∷◌, ◌++◌, length, Some, None}
use Rattle.cluster_types.specs.declared.out.Out.{Out}
use Rattle.cluster_types.specs.declared.entry.Input.{Input as InputType}
use Rattle.cluster_types.specs.declared.entry.Entry.{Entry}
use Rattle.cluster_types.specs.declared.entry.Entry.TheVariants.{Input}
use Rattle.cluster_defs.specs.Facts.{event_in}
use Rattle.cluster_defs.specs.Scheduling.{due, may_take}
use Rattle.cluster_defs.specs.Histories.{History, facts}
use Rattle.cluster_defs.specs.Outs.{outs_from}

-- decisions, the newest first, each the due one of what lies below it
abbrev pub Decided : History → List Entry → Type 0
Decided history [] = Unit {0}
Decided history (d ∷ decisions) = (due (facts (decisions ++ history)) ≡ Some d) × Decided history decisions

-- whether an input may come, with the event that its message has
abbrev pub MayCome : History → InputType → Type 0
MayCome history input = may_take (facts history) input (event_in (facts history) (Input input)) ≡ true

-- a history goes on by an input and the decisions that are then due, until none is, and sends what these entries send
pub record IsStep (old : History) (input : InputType) (new : History) (sent : List Out) : Type 0 where
  pub decisions : List Entry
  pub appended : new ≡ decisions ++ Input input ∷ old
  pub each_due : Decided (Input input ∷ old) decisions
  pub none_left : due (facts new) ≡ None
  pub sends : sent ≡ outs_from (length old) new

-- inputs that were taken one after another, and all that they sent
abbrev pub Run : History → List InputType → History → List Out → Type 0
Run old [] new sent = (new ≡ old) × (sent ≡ [])
Run old (input ∷ inputs) new sent =
    (mid : History) × (first : List Out) × (rest : List Out) × MayCome old input × IsStep old input mid first × Run mid inputs new rest
    × (sent ≡ first ++ rest)
