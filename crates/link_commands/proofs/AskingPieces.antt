-- What is written for a piece.
use Rattle.std.proofs.Common.{◌≡◌, ℕ, List, ◌++◌, Option, Result, Ok, Err, ap, subst}
use Rattle.std.specs.Prelude.{OnErr}
use Rattle.link_commands.specs.Asking.{opened, due_for}
use Rattle.cluster_types.specs.declared.message.Message.{Message}
use Rattle.edges.specs.Streams.{Added, AddedFront}
use Rattle.link_commands.specs.declared.end.DialledEnd.{DialledEnd}
use Rattle.link_commands.specs.declared.end.DialledEnd.TheVariants.{LinkFault}
use Rattle.link_messages.proofs.Fronts.{front_behind}
use Rattle.zmtp_peer.specs.PeerStream.{Talk, sent, identity}
use Rattle.edges.proofs.Additions.{added_both}

-- what a peer's stream calls for and the request, where it is due, are what is due for the piece
due_is : (key : List ℕ) (request : Message) (t : Talk) (piece : List ℕ) (ready : Option (List ℕ)) → ready ≡ identity t piece → sent t piece ++ opened key request ready ≡ due_for key request t piece
due_is key request t piece ready is = ap (λ (r : Option (List ℕ)). sent t piece ++ opened key request r) is

pub due_added : (key : List ℕ) (request : Message) (t : Talk) (piece : List ℕ) (ready x y z : Option (List ℕ)) → ready ≡ identity t piece → Added (sent t piece) x y → Added (opened key request ready) y z → Added (due_for key request t piece) x z
due_added key request t piece ready x y z is first more = subst (λ (xs : List ℕ). Added xs x z) (due_is key request t piece ready is) (added_both (sent t piece) (opened key request ready) x y z first more)

pub due_front : (key : List ℕ) (request : Message) (t : Talk) (piece : List ℕ) (ready x y z : Option (List ℕ)) → ready ≡ identity t piece → Added (sent t piece) x y → AddedFront (opened key request ready) y z → AddedFront (due_for key request t piece) x z
due_front key request t piece ready x y z is first more = subst (λ (xs : List ℕ). AddedFront xs x z) (due_is key request t piece ready is) (front_behind (sent t piece) (opened key request ready) x y z first more)

-- a front of octets was written, by a call that has no other fault
pub written_front : {T : Type 0} (r : Result T DialledEnd) (a b : List ℕ) (x y : Option (List ℕ)) → a ≡ b → OnErr r ((r ≡ Err LinkFault) × AddedFront a x y) → OnErr r (AddedFront b x y)
written_front (Ok t) a b x y is both = tt
written_front (Err e) a b x y is both = subst (λ (xs : List ℕ). AddedFront xs x y) is both.1
