-- Where a handshake has come to.
use Rattle.std.proofs.Common.{◌≡◌, ℕ, List, [], ◌++◌, Option, Some, None, refl, sym, ap, subst, ◌∙◌, append_assoc}
use Rattle.std.proofs.lemmas.List.{append-nil}
use Rattle.edges.specs.Streams.{Added, Took, AddedFront}
use Rattle.edges.proofs.Pieces.{took_more}
use Rattle.zmtp_frames.specs.Greeting.{own_greeting}
use Rattle.zmtp_peer.specs.declared.fault.PeerFault.{PeerFault}
use Rattle.zmtp_peer.specs.PeerStream.{Talk, begins, talked, sent, identity, or_later, messages, fault_of}
use Rattle.zmtp_peer.proofs.Pieces.{talked_append, sent_append, identity_append, messages_append}
use Rattle.link_messages.specs.Greeting.{IsGreeted, IsRefused, IsGreetedInPart, IsHandshake}
use Rattle.edges.proofs.Additions.{added_both, added_none}
use Rattle.zmtp_peer.proofs.Order.{without_identity}
use Rattle.link_messages.proofs.Fronts.{front_behind, front_whole}

took_none : (x : Option (List ℕ)) → Took [] x x
took_none None = refl
took_none (Some octets) = refl

-- OCTETS THAT ARE WRITTEN

-- octets were read whose stream gives no identity and has no fault, and all was written that it calls for
pub record Shaking (left rest old new : Option (List ℕ)) (now : Talk) : Type 0 where
  pub octets : List ℕ
  pub took : Took octets left rest
  pub talk_is : now ≡ talked begins octets
  pub nobody : identity begins octets ≡ None
  pub added : Added (own_greeting ++ sent begins octets) old new

pub shaking_begins : (left old new : Option (List ℕ)) → Added own_greeting old new → Shaking left left old new begins
shaking_begins left old new added = record { octets = []; took = took_none left; talk_is = refl; nobody = refl; added = subst (λ (xs : List ℕ). Added xs old new) (sym (append-nil own_greeting)) added }

sent_both : (octets piece : List ℕ) (now : Talk) → now ≡ talked begins octets → (own_greeting ++ sent begins octets) ++ sent now piece ≡ own_greeting ++ sent begins (octets ++ piece)
sent_both octets piece now is =
    append_assoc own_greeting (sent begins octets) (sent now piece)
    ∙ ap (λ (xs : List ℕ). own_greeting ++ xs) (ap (λ (t : Talk). sent begins octets ++ sent t piece) is ∙ sym (sent_append begins octets piece))

name_both : (octets piece : List ℕ) (now : Talk) → now ≡ talked begins octets → identity begins octets ≡ None → identity begins (octets ++ piece) ≡ identity now piece
name_both octets piece now is none =
    identity_append begins octets piece ∙ ap (λ (o : Option (List ℕ)). or_later o (identity (talked begins octets) piece)) none ∙ ap (λ (t : Talk). identity t piece) (sym is)

talk_both : (octets piece : List ℕ) (now : Talk) → now ≡ talked begins octets → talked now piece ≡ talked begins (octets ++ piece)
talk_both octets piece now is = ap (λ (t : Talk). talked t piece) is ∙ sym (talked_append begins octets piece)

pub shaking_on : (left rest later old mid new : Option (List ℕ)) (now : Talk) (piece : List ℕ) → Shaking left rest old mid now → Took piece rest later → Added (sent now piece) mid new → identity now piece ≡ None → Shaking left later old new (talked now piece)
shaking_on left rest later old mid new now piece s took added none = record {
  octets = s.octets ++ piece;
  took = took_more s.octets piece left rest later s.took took;
  talk_is = talk_both s.octets piece now s.talk_is;
  nobody = name_both s.octets piece now s.talk_is s.nobody ∙ none;
  added = subst (λ (xs : List ℕ). Added xs old new) (sent_both s.octets piece now s.talk_is) (added_both (own_greeting ++ sent begins s.octets) (sent now piece) old mid new s.added added);
}

pub shaking_refused : (left rest old new : Option (List ℕ)) (now : Talk) (fault : Option PeerFault) → Shaking left rest old new now → fault_of now.phase ≡ fault → IsRefused fault left rest old new
shaking_refused left rest old new now fault s is = record { octets = s.octets; took = s.took; nobody = s.nobody; fault_is = ap (λ (t : Talk). fault_of t.phase) (sym s.talk_is) ∙ is; added = s.added }

pub shaking_part : (left rest old new : Option (List ℕ)) (now : Talk) → Shaking left rest old new now → IsGreetedInPart left rest old new
shaking_part left rest old new now s = record { octets = s.octets; took = s.took; added = front_whole (own_greeting ++ sent begins s.octets) old new s.added }

pub shaking_front : (left rest later old mid new : Option (List ℕ)) (now : Talk) (piece : List ℕ) → Shaking left rest old mid now → Took piece rest later → AddedFront (sent now piece) mid new → IsGreetedInPart left later old new
shaking_front left rest later old mid new now piece s took f = record {
  octets = s.octets ++ piece;
  took = took_more s.octets piece left rest later s.took took;
  added = subst (λ (xs : List ℕ). AddedFront xs old new) (sent_both s.octets piece now s.talk_is) (front_behind (own_greeting ++ sent begins s.octets) (sent now piece) old mid new s.added f);
}

pub greeting_front : (left old new : Option (List ℕ)) → AddedFront own_greeting old new → IsGreetedInPart left left old new
greeting_front left old new f = record { octets = []; took = took_none left; added = subst (λ (xs : List ℕ). AddedFront xs old new) (sym (append-nil own_greeting)) f }

pub shaking_done : (left rest later old mid new : Option (List ℕ)) (now after : Talk) (piece name : List ℕ) (early : List (List (List ℕ))) → Shaking left rest old mid now → Took piece rest later → Added (sent now piece) mid new → after ≡ talked now piece → IsHandshake now piece name early →
    IsGreeted after name early left later old new
shaking_done left rest later old mid new now after piece name early s took added is h = record {
  octets = s.octets ++ piece;
  took = took_more s.octets piece left rest later s.took took;
  talk_is = is ∙ talk_both s.octets piece now s.talk_is;
  identity_is = name_both s.octets piece now s.talk_is s.nobody ∙ h.identity_is;
  messages = messages_append begins s.octets piece ∙ ap (λ (ms : List (List (List ℕ))). ms ++ messages (talked begins s.octets) piece) (without_identity s.octets s.nobody) ∙ ap (λ (t : Talk). messages t piece) (sym s.talk_is) ∙ h.messages_are;
  added = subst (λ (xs : List ℕ). Added xs old new) (sent_both s.octets piece now s.talk_is) (added_both (own_greeting ++ sent begins s.octets) (sent now piece) old mid new s.added added);
}
