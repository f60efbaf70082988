-- What a writing session takes and writes.
use Rattle.std.specs.Prelude.{◌≡◌, ◌≤◌, ⊤, ℕ, suc, List, [], ◌∷◌, length, map, take, slice_get, Option, Some, None, false}
use Rattle.std.specs.List.{flat_map}
use Rattle.cluster_types.specs.declared.out.Out.{Out}
use Rattle.cluster_defs.specs.Outs.{outs_to}
use Rattle.cluster_store.specs.Stores.{is_live}
use Rattle.edges.specs.Streams.{Added, AddedFront}
use Rattle.history_lock.specs.declared.known.Content.{Content}
use Rattle.history_lock.specs.declared.known.View.{View}
use Rattle.history_lock.specs.History.{Extends}
use Rattle.link_messages.specs.Outs.{octets_of}
use Rattle.controller_desk.specs.Contents.{taken_seen}

-- TAKES

-- an out with its place among the outs to its connection
abbrev pub Placed : Type 0
Placed = ℕ × Out

-- in one turn the first out to a connection was taken that wasn't handed out before, and was counted
pub record Takes (conn : ℕ) (old : Content) (out : Placed) (new : Content) : Type 0 where
  pub before : Content
  pub later : Extends old before
  pub first : taken_seen before conn ≡ out.0
  pub stands : slice_get (outs_to before.list conn) out.0 ≡ Some out.1
  pub extends : Extends before new
  pub counted : suc out.0 ≤ taken_seen new conn

-- one after another
abbrev pub TakeAll : ℕ → Content → List Placed → Content → Type 0
TakeAll conn old [] new = Extends old new
TakeAll conn old (out ∷ more) new = (mid : Content) × Takes conn old out mid × TakeAll conn mid more new

-- their places rise, from one on
abbrev pub RiseFrom : ℕ → List Placed → Type 0
RiseFrom place [] = ⊤
RiseFrom place (out ∷ more) = (place ≤ out.0) × RiseFrom (suc out.0) more

-- each stands in the outs to the connection, at its place
abbrev pub StandIn : List Out → List Placed → Type 0
StandIn outs [] = ⊤
StandIn outs (out ∷ more) = (slice_get outs out.0 ≡ Some out.1) × StandIn outs more

abbrev pub outs_among : List Placed → List Out
outs_among placed = map (λ p. p.1) placed

-- none is left, and the connection isn't live
abbrev pub HasNoMore : ℕ → Content → Type 0
HasNoMore conn c = (is_live c.list conn ≡ false) × (slice_get (outs_to c.list conn) (taken_seen c conn) ≡ None)

-- A pass took these outs and added nothing. They stand in the outs of the list that it has then seen at rising places, so
-- none is taken twice. Where the connection has no more counted, they are the first ones, and none is left out.
pub record TookOuts (conn : ℕ) (outs : List Placed) (old new : View) : Type 0 where
  pub takes : TakeAll conn old.seen outs new.seen
  pub rise : RiseFrom (taken_seen old.seen conn) outs
  pub stand : StandIn (outs_to new.seen.list conn) outs
  pub firsts : taken_seen new.seen conn ≡ length outs → outs_among outs ≡ take (length outs) (outs_to new.seen.list conn)
  pub added : new.added ≡ old.added
  pub share : new.share ≡ old.share

-- outs were taken, and a front was written of their octets
pub record WritesFront (key : List ℕ) (conn : ℕ) (old new : View) (was is : Option (List ℕ)) : Type 0 where
  pub outs : List Placed
  pub took : TookOuts conn outs old new
  pub written : AddedFront (flat_map (octets_of key) (outs_among outs)) was is

-- outs were taken, and all their octets were written, in order
pub record WritesWhole (key : List ℕ) (conn : ℕ) (old new : View) (was is : Option (List ℕ)) : Type 0 where
  pub outs : List Placed
  pub took : TookOuts conn outs old new
  pub written : Added (flat_map (octets_of key) (outs_among outs)) was is

-- THE PARTS OF A SESSION, for the code's own contracts

-- a pass took these outs and added nothing
pub record TookAll (conn : ℕ) (outs : List Placed) (old new : View) : Type 0 where
  pub takes : TakeAll conn old.seen outs new.seen
  pub added : new.added ≡ old.added
  pub share : new.share ≡ old.share

-- outs were taken that have these octets
abbrev pub Took : List ℕ → ℕ → List ℕ → (old new : View) → Type 0
Took key conn octets old new = (outs : List Placed) × TookAll conn outs old new × (octets ≡ flat_map (octets_of key) (outs_among outs))

-- outs were taken that have some octets
abbrev pub TookSome : List ℕ → ℕ → (old new : View) → Type 0
TookSome key conn old new = (octets : List ℕ) × Took key conn octets old new
