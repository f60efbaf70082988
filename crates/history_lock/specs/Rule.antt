-- The rule of the table. Word 0 is the turn, and slot 0 holds the value.
use Rattle.std.specs.Prelude.{◌≡◌, ◌≢◌, ◌⊎◌, ℕ, ◌+◌, ◌-◌, ◌/◌, ◌^◌, ◌<◌, List, [], ◌∷◌, ◌++◌, true, false, length, slice_index, Option, Some, None, is_some}
use mathlib.Core.Option.{some, none}
use lib.ListN.{get_elem?}
use Rattle.atomic_table.specs.Table.{State, Me, Step}
use Rattle.cluster_types.specs.declared.entry.Entry.{Entry}
use Rattle.history_lock.specs.declared.known.Content.{Content}
use Rattle.history_lock.specs.declared.known.View.{View}
use Rattle.history_lock.specs.declared.known.Knows.{Knows}
use Rattle.history_lock.specs.History.{Extends, Stand, ascend, merged, from_place}
use Rattle.history_lock.specs.Log.{IsEnd, StartsAt, Chain, longer_log}
use Rattle.history_lock.specs.Loans.{Loan, loan_in, HoldsIn, hold_after}

-- a pass with this share of the lock that has seen c, and has added these entries
abbrev pub without_turn : ℕ → Content → List (ℕ × Entry) → View
without_turn share c added = record { spent = false; share = share; has_turn = false; seen = c; told = c; added = added }

-- the same with the turn
abbrev pub with_turn : ℕ → Content → List (ℕ × Entry) → View
with_turn share c added = record { spent = false; share = share; has_turn = true; seen = c; told = c; added = added }

-- no entries and no counts
abbrev pub nothing : Content
nothing = record { list = []; counts = [] }

-- a pass that another took in
abbrev pub spent_view : View
spent_view = record { spent = true; share = 0; has_turn = false; seen = nothing; told = nothing; added = [] }

-- of a pass that is split one keeps half of its share, and the other is given the other half
abbrev pub half_kept : ℕ → ℕ
half_kept share = share - share / 2

abbrev pub half_given : ℕ → ℕ
half_given share = share / 2

-- what a pass knows after it was split: all that it knew
abbrev pub split_kept : View → View
split_kept v = record v { share = half_kept v.share }

-- and what the new pass knows: it has seen the same, and has added nothing
abbrev pub split_given : View → View
split_given v = without_turn (half_given v.share) v.seen []

-- a pass that has taken another in, whose list and counts it doesn't have yet
abbrev pub told_of : View → View → View
told_of v w = record v { told = w.seen; share = v.share + w.share }

-- what a pass has added once the list is `list`
abbrev pub added_by : View → List Entry → List (ℕ × Entry)
added_by v list = from_place (length v.seen.list) list ++ v.added

-- the whole of a lock's shares: enough to be halved once for each of 4,096 passes
unfoldable pub whole : ℕ
whole = 2 ^ 4096

module _ {T : Type 0} where
  -- a pass that knows this, has seen these values, and holds this
  abbrev pub knows : View → List T → Loan → Knows T
  knows view log hold = record { view = view; log = log; told = log; hold = hold }

  -- what a seat knows after it was split, and what the new seat knows
  abbrev pub kept_of_split : Knows T → Knows T
  kept_of_split k = record k { view = split_kept k.view }

  abbrev pub given_of_split : Knows T → Knows T
  given_of_split k = knows (split_given k.view) k.log None

  -- a seat that was told of another, and the other
  abbrev pub told_seat : Knows T → Knows T → Knows T
  told_seat k other = record k { view = told_of k.view other.view; told = other.log }

  abbrev pub spent_seat : Knows T
  spent_seat = knows spent_view [] None

  -- c extends all that a view has seen and was told, and the log all its logs
  pub record Covered (c : Content) (log : List T) (k : Knows T) : Type 0 where
    pub seen : Extends k.view.seen c
    pub told : Extends k.view.told c
    pub seen_log : IsEnd k.log log
    pub told_log : IsEnd k.told log

  -- the same of an unspent one
  abbrev pub Covers : Content → List T → Knows T → Type 0
  Covers c log k = k.view.spent ≡ false → Covered c log k

  -- the places of what a pass added ascend, and lie in the list that it has seen
  abbrev pub Placed : Knows T → Type 0
  Placed k = Stand k.view.seen.list k.view.added × (ascend k.view.added ≡ true)

  -- the shares of these passes together
  abbrev pub shares_of : List (Knows T) → ℕ
  shares_of [] = 0
  shares_of (k ∷ views) = k.view.share + shares_of views

  -- the passes have the whole together, and each that isn't spent has some of it
  pub record Shared (views : List (Knows T)) : Type 0 where
    pub all : shares_of views ≡ whole
    pub each : (j : ℕ) (k : Knows T) → get_elem? views j ≡ some k → k.view.spent ≡ false → 0 < k.view.share

  -- this is out of the value, and the one pass that took it out holds it
  pub record Lent (out : Loan) (views : List (Knows T)) : Type 0 where
    pub holds : (j : ℕ) (k : Knows T) → get_elem? views j ≡ some k → HoldsIn out k.hold
    pub one : (i j : ℕ) (k l : Knows T) → get_elem? views i ≡ some k → get_elem? views j ≡ some l → is_some k.hold ≡ true → is_some l.hold ≡ true → i ≡ j
    pub held : is_some out ≡ true → (j : ℕ) × (k : Knows T) × (get_elem? views j ≡ some k) × (k.view.spent ≡ false) × (k.hold ≡ out)

module _ {T : Type 0} (content : T → Content) (follows : T → T → Type 0) (loan : T → Loan) (first : T) where
  -- nobody has the turn, and the value is at home, the newest of all that were left there
  pub record TurnFree (s : State (Option T) (Knows T)) : Type 0 where
    pub word : slice_index s.words 0 ≡ 0
    pub value : T
    pub older : List T
    pub home : get_elem? s.homes 0 ≡ some (some (Some value))
    pub from : IsEnd (first ∷ []) (value ∷ older)
    pub chain : Chain follows (value ∷ older)
    pub covers : (j : ℕ) (k : Knows T) → get_elem? s.views j ≡ some k → Covers (content value) (value ∷ older) k
    pub no_turn : (j : ℕ) (k : Knows T) → get_elem? s.views j ≡ some k → k.view.has_turn ≡ false
    pub lent : Lent (loan value) s.views

  -- one seat has the turn, and the value is out
  pub record TurnTaken (s : State (Option T) (Knows T)) : Type 0 where
    pub word : slice_index s.words 0 ≡ 1
    pub seat : ℕ
    pub holder : Knows T
    pub at : get_elem? s.views seat ≡ some holder
    pub turn : (holder.view.has_turn ≡ true) × (holder.view.spent ≡ false)
    pub away : get_elem? s.homes 0 ≡ some none
    pub from : IsEnd (first ∷ []) holder.log
    pub chain : Chain follows holder.log
    pub covers : (j : ℕ) (k : Knows T) → get_elem? s.views j ≡ some k → Covers holder.view.seen holder.log k
    pub no_turn : (j : ℕ) (k : Knows T) → get_elem? s.views j ≡ some k → j ≢ seat → k.view.has_turn ≡ false
    pub lent : Lent (loan_in loan holder.log) s.views

  -- who has the turn, and what the passes know
  pub record TurnRuled (s : State (Option T) (Knows T)) : Type 0 where
    pub one_word : length s.words ≡ 1
    pub one_slot : length s.homes ≡ 1
    pub state : TurnFree s ⊎ TurnTaken s
    pub places : (j : ℕ) (k : Knows T) → get_elem? s.views j ≡ some k → Placed k

  -- all the values that were left at home: a log from the first one, of which each pass has seen an end, and whose newest is the value at home where the turn is free
  pub record IsWholeLog (s : State (Option T) (Knows T)) (log : List T) : Type 0 where
    pub from : IsEnd (first ∷ []) log
    pub chain : Chain follows log
    pub ends : (j : ℕ) (k : Knows T) → get_elem? s.views j ≡ some k → k.view.spent ≡ false → IsEnd k.log log
    pub home : slice_index s.words 0 ≡ 0 → (value : T) × (get_elem? s.homes 0 ≡ some (some (Some value))) × StartsAt value log

  -- the rule: that, and that the shares add up
  pub record Ruled (s : State (Option T) (Knows T)) : Type 0 where
    pub turns : TurnRuled s
    pub shares : Shared s.views

module _ {T : Type 0} (content : T → Content) (follows : T → T → Type 0) (loan : T → Loan) where
  -- what a pass knows, and the slots that it has in hand with their values
  abbrev SeatState : Type 0
  SeatState = Me (Option T) (Knows T)

  -- the seat has the turn and the value, the newest of a log that goes on from what it had seen, each value of it one step from the one before
  pub record IsTaken (m : SeatState) (slots : List (ℕ × Option T)) (value : T) (n : SeatState) : Type 0 where
    pub older : List T
    pub is : n ≡ (knows (with_turn m.0.view.share (content value) m.0.view.added) (value ∷ older) m.0.hold, slots)
    pub later : Extends m.0.view.seen (content value)
    pub log : IsEnd m.0.log (value ∷ older)
    pub chain : Chain follows (value ∷ older)
    pub holds : HoldsIn (loan value) m.0.hold

  -- the seat has the value in hand
  abbrev pub Took : SeatState → SeatState → Type 0
  Took m n = (value : T) × IsTaken m ((0, Some value) ∷ []) value n

  -- at a compare-exchange of 0 with 1: the turn is taken where it was free, and else nothing changes
  abbrev pub turn_taken : Step (Option T) → SeatState → ℕ → SeatState → Type 0
  turn_taken st m found n = (found ≡ 0 → Took m n) × (found ≢ 0 → n ≡ m)

  -- a pass that gives up the turn, with the value at home
  abbrev pub given_up : Knows T → List (ℕ × Option T) → SeatState
  given_up k ((i, Some value) ∷ more) = (knows (without_turn k.view.share (content value) (added_by k.view (content value).list)) (value ∷ k.log) (hold_after k.hold (loan_in loan k.log) (loan value)), more)
  given_up k held = (k, held)

  -- at a swap with 0
  abbrev pub turn_given_up : Step (Option T) → SeatState → ℕ → SeatState → Type 0
  turn_given_up st m found n = n ≡ given_up m.0 m.1

  -- at a load: what the pass has seen and what it was told become one, which extends both
  pub record IsMerged (m n : SeatState) : Type 0 where
    pub is : n ≡ (knows (without_turn m.0.view.share (merged m.0.view.seen m.0.view.told) m.0.view.added) (longer_log m.0.log m.0.told) m.0.hold, m.1)
    pub seen : Extends m.0.view.seen n.0.view.seen
    pub told : Extends m.0.view.told n.0.view.seen
    pub seen_log : IsEnd m.0.log n.0.log
    pub told_log : IsEnd m.0.told n.0.log

  abbrev pub told_merged : Step (Option T) → SeatState → ℕ → SeatState → Type 0
  told_merged st m found n = IsMerged m n
