-- Where a session has come to.
use Rattle.std.proofs.Common.{◌≡◌, ℕ, List, [], ◌∷◌, ◌++◌, Option, Some, None, refl, sym, ap, subst, ◌∙◌, append_assoc}
use Rattle.std.proofs.lemmas.List.{append-nil}
use Rattle.link_commands.specs.Asking.{id_in, answer_of, or_next, answer_in, answer_to, answer_by, request_octets, opened, due, due_for, IsAnswered, IsUnanswered, AskedFront}
use Rattle.cluster_types.specs.declared.message.Message.{Message}
use Rattle.edges.specs.Streams.{Added, Took, AddedFront}
use Rattle.edges.proofs.Pieces.{took_more}
use Rattle.link_commands.proofs.WorkingGoing.{took_none}
use Rattle.link_messages.proofs.Fronts.{front_behind, front_whole, front_none}
use Rattle.zmtp_peer.proofs.Order.{quiet_gives, with_identity}
use Rattle.zmtp_frames.specs.Greeting.{own_greeting}
use Rattle.zmtp_peer.specs.declared.fault.PeerFault.{PeerFault}
use Rattle.zmtp_peer.specs.PeerStream.{Talk, begins, talked, sent, identity, or_later, messages, fault_of}
use Rattle.zmtp_peer.proofs.Pieces.{talked_append, sent_append, identity_append, messages_append}
use Rattle.edges.proofs.Additions.{added_both}

-- THE ANSWER WITH ONE PIECE MORE

next_assoc : (a b c : Option Message) → or_next a (or_next b c) ≡ or_next (or_next a b) c
next_assoc (Some m) b c = refl
next_assoc None b c = refl

answer_append : (key : List ℕ) (id : Option (List ℕ)) (xs ys : List (List (List ℕ))) → answer_in key id (xs ++ ys) ≡ or_next (answer_in key id xs) (answer_in key id ys)
unfolding answer_in
answer_append key id [] ys = refl
answer_append key id (x ∷ xs) ys =
    ap (λ (a : Option Message). or_next (answer_of key id x) a) (answer_append key id xs ys) ∙ next_assoc (answer_of key id x) (answer_in key id xs) (answer_in key id ys)

answer_more : (key : List ℕ) (request : Message) (octets piece : List ℕ) → answer_to key request octets ≡ None →
    answer_to key request (octets ++ piece) ≡ answer_by key (id_in request.header) (talked begins octets) piece
answer_more key request octets piece none =
    ap (λ (ms : List (List (List ℕ))). answer_in key (id_in request.header) ms) (messages_append begins octets piece)
    ∙ answer_append key (id_in request.header) (messages begins octets) (messages (talked begins octets) piece)
    ∙ ap (λ (a : Option Message). or_next a (answer_by key (id_in request.header) (talked begins octets) piece)) none

-- WHAT IS DUE WITH ONE PIECE MORE

-- once there is an identity, a piece gives none, and calls for nothing
abbrev IsSettled : Option (List ℕ) → List ℕ → Option (List ℕ) → Type 0
IsSettled (Some i) more later = (more ≡ []) × (later ≡ None)
IsSettled None more later = Unit {0}

settles : (octets piece : List ℕ) (o : Option (List ℕ)) → identity begins octets ≡ o → IsSettled o (sent (talked begins octets) piece) (identity (talked begins octets) piece)
settles octets piece (Some i) is = quiet_gives (talked begins octets) piece (with_identity octets i is)
settles octets piece None is = tt

regroup_quiet : (greeting send request : List ℕ) → (greeting ++ (send ++ [])) ++ request ≡ ((greeting ++ send) ++ request) ++ []
regroup_quiet greeting send request = rw (append-nil send, append-nil ((greeting ++ send) ++ request)) refl

regroup_early : (greeting send more last : List ℕ) → (greeting ++ (send ++ more)) ++ last ≡ ((greeting ++ send) ++ []) ++ (more ++ last)
regroup_early greeting send more last =
    rw (append-nil (greeting ++ send)) (ap (λ (z : List ℕ). z ++ last) (sym (append_assoc greeting send more)) ∙ append_assoc (greeting ++ send) more last)

grows : (key : List ℕ) (request : Message) (greeting send more : List ℕ) (i later : Option (List ℕ)) → IsSettled i more later →
    (greeting ++ (send ++ more)) ++ opened key request (or_later i later) ≡ ((greeting ++ send) ++ opened key request i) ++ (more ++ opened key request later)
grows key request greeting send more (Some i) later settled = rw (settled.0, settled.1) (regroup_quiet greeting send (request_octets key request))
grows key request greeting send more None later settled = regroup_early greeting send more (opened key request later)

due_more : (key : List ℕ) (request : Message) (octets piece : List ℕ) → due key request (octets ++ piece) ≡ due key request octets ++ due_for key request (talked begins octets) piece
due_more key request octets piece =
    rw (sent_append begins octets piece, identity_append begins octets piece)
    (grows key request own_greeting (sent begins octets) (sent (talked begins octets) piece) (identity begins octets) (identity (talked begins octets) piece) (settles octets piece (identity begins octets) refl))

-- A SESSION ON ITS WAY

-- octets were read with no answer, and all that is due for them was written
pub record Going (key : List ℕ) (request : Message) (left rest old new : Option (List ℕ)) (t : Talk) : Type 0 where
  pub octets : List ℕ
  pub took : Took octets left rest
  pub talk_is : t ≡ talked begins octets
  pub added : Added (due key request octets) old new
  pub no_answer : answer_to key request octets ≡ None

greeted : (greeting : List ℕ) → greeting ≡ (greeting ++ []) ++ []
greeted greeting = rw (append-nil greeting, append-nil greeting) refl

pub begun : (key : List ℕ) (request : Message) (left old new : Option (List ℕ)) → Added own_greeting old new → Going key request left left old new begins
unfolding answer_in
begun key request left old new added = record {
  octets = [];
  took = took_none left;
  talk_is = refl;
  added = subst (λ (xs : List ℕ). Added xs old new) (greeted own_greeting) added;
  no_answer = refl;
}

-- what was written with one piece more
added_piece : (key : List ℕ) (request : Message) (octets piece : List ℕ) (t : Talk) (old new next : Option (List ℕ)) → t ≡ talked begins octets →
    Added (due key request octets) old new → Added (due_for key request t piece) new next → Added (due key request (octets ++ piece)) old next
added_piece key request octets piece t old new next is added more =
    subst (λ (xs : List ℕ). Added xs old next) (sym (due_more key request octets piece))
    (added_both (due key request octets) (due_for key request (talked begins octets) piece) old new next added
    (subst (λ (u : Talk). Added (due_for key request u piece) new next) is more))

-- the answer with one piece more
answer_piece : (key : List ℕ) (request : Message) (id : Option (List ℕ)) (octets piece : List ℕ) (t : Talk) (answer : Option Message) → id ≡ id_in request.header → t ≡ talked begins octets →
    answer_to key request octets ≡ None → answer_by key id t piece ≡ answer → answer_to key request (octets ++ piece) ≡ answer
answer_piece key request id octets piece t answer id_is is none later =
    answer_more key request octets piece none
    ∙ subst (λ (u : Talk). answer_by key (id_in request.header) u piece ≡ answer) is (subst (λ (i : Option (List ℕ)). answer_by key i t piece ≡ answer) id_is later)

pub goes_on : (key : List ℕ) (request : Message) (id left rest later old new next : Option (List ℕ)) (t : Talk) (piece : List ℕ) → id ≡ id_in request.header →
    Going key request left rest old new t → Took piece rest later → Added (due_for key request t piece) new next → answer_by key id t piece ≡ None →
    Going key request left later old next (talked t piece)
goes_on key request id left rest later old new next t piece id_is g took added none = record {
  octets = g.octets ++ piece;
  took = took_more g.octets piece left rest later g.took took;
  talk_is = ap (λ (u : Talk). talked u piece) g.talk_is ∙ sym (talked_append begins g.octets piece);
  added = added_piece key request g.octets piece t old new next g.talk_is g.added added;
  no_answer = answer_piece key request id g.octets piece t None id_is g.talk_is g.no_answer none;
}

pub answers_here : (key : List ℕ) (request : Message) (id left rest later old new next : Option (List ℕ)) (t : Talk) (piece : List ℕ) (answer : Message) → id ≡ id_in request.header →
    Going key request left rest old new t → Took piece rest later → Added (due_for key request t piece) new next → answer_by key id t piece ≡ Some answer →
    IsAnswered key request left later old next answer
answers_here key request id left rest later old new next t piece answer id_is g took added is = record {
  octets = g.octets ++ piece;
  took = took_more g.octets piece left rest later g.took took;
  added = added_piece key request g.octets piece t old new next g.talk_is g.added added;
  answer_is = answer_piece key request id g.octets piece t (Some answer) id_is g.talk_is g.no_answer is;
}

pub unanswered : (key : List ℕ) (request : Message) (left rest old new : Option (List ℕ)) (t : Talk) (fault : Option PeerFault) →
    Going key request left rest old new t → fault_of t.phase ≡ fault → IsUnanswered key request left rest old new fault
unanswered key request left rest old new t fault g is = record {
  octets = g.octets;
  took = g.took;
  added = g.added;
  no_answer = g.no_answer;
  fault_is = ap (λ (u : Talk). fault_of u.phase) (sym g.talk_is) ∙ is;
}

-- FRONTS

pub front_nothing : (key : List ℕ) (request : Message) (left old : Option (List ℕ)) → AskedFront key request left left old old
front_nothing key request left old = record {
  octets = [];
  took = took_none left;
  added = front_none (due key request []) old;
}

pub front_greeting : (key : List ℕ) (request : Message) (left old new : Option (List ℕ)) → AddedFront own_greeting old new → AskedFront key request left left old new
front_greeting key request left old new f = record {
  octets = [];
  took = took_none left;
  added = subst (λ (xs : List ℕ). AddedFront xs old new) (greeted own_greeting) f;
}

pub front_here : (key : List ℕ) (request : Message) (left rest old new : Option (List ℕ)) (t : Talk) → Going key request left rest old new t → AskedFront key request left rest old new
front_here key request left rest old new t g = record {
  octets = g.octets;
  took = g.took;
  added = front_whole (due key request g.octets) old new g.added;
}

pub front_in_piece : (key : List ℕ) (request : Message) (left rest later old new next : Option (List ℕ)) (t : Talk) (piece : List ℕ) →
    Going key request left rest old new t → Took piece rest later → AddedFront (due_for key request t piece) new next → AskedFront key request left later old next
front_in_piece key request left rest later old new next t piece g took f = record {
  octets = g.octets ++ piece;
  took = took_more g.octets piece left rest later g.took took;
  added = subst (λ (xs : List ℕ). AddedFront xs old next) (sym (due_more key request g.octets piece))
      (front_behind (due key request g.octets) (due_for key request (talked begins g.octets) piece) old new next g.added
      (subst (λ (u : Talk). AddedFront (due_for key request u piece) new next) g.talk_is f));
}
