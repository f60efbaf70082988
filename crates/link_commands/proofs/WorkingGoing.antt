-- Where a session has come to.
use Rattle.std.proofs.Common.{◌≡◌, ℕ, List, [], ◌++◌, Option, Some, None, refl, sym, ap, subst, ◌∙◌, append_assoc}
use Rattle.std.proofs.lemmas.List.{append-nil}
use Rattle.edges.specs.Streams.{Added, Took, AddedFront}
use Rattle.edges.proofs.Pieces.{took_more}
use Rattle.engine_core.specs.State.{Standing}
use Rattle.zmtp_frames.specs.Greeting.{own_greeting}
use Rattle.zmtp_peer.specs.declared.fault.PeerFault.{PeerFault}
use Rattle.zmtp_peer.specs.PeerStream.{Talk, begins, talked, sent, messages, fault_of}
use Rattle.zmtp_peer.proofs.Pieces.{talked_append, messages_append}
use Rattle.link_commands.specs.Working.{Writes, WrotePiece, WroteOfPiece, IsWhole, IsFront}
use Rattle.link_messages.proofs.Fronts.{front_behind, front_whole}
use Rattle.link_commands.proofs.WorkingPieces.{with_piece}
use Rattle.edges.proofs.Additions.{added_both}

-- octets were read, and all that is due for them was written
pub record Going (key : List ℕ) (before : Standing) (left rest old new : Option (List ℕ)) (after : Standing) (t : Talk) : Type 0 where
  pub octets : List ℕ
  pub written : List ℕ
  pub took : Took octets left rest
  pub talk_is : t ≡ talked begins octets
  pub writes : Writes key before octets (messages begins octets) written after
  pub added : Added written old new

pub took_none : (x : Option (List ℕ)) → Took [] x x
took_none None = refl
took_none (Some octets) = refl

greeted : (greeting : List ℕ) → greeting ≡ (greeting ++ []) ++ [] ++ []
greeted greeting = rw (append-nil greeting, append-nil greeting, append-nil greeting) refl

begun_writes : (key : List ℕ) (before : Standing) → Writes key before [] (messages begins []) own_greeting before
begun_writes key before = record { opening = []; answers = []; opens = refl; hears = (refl, refl); is = greeted own_greeting }

pub begun : (key : List ℕ) (before : Standing) (left old new : Option (List ℕ)) → Added own_greeting old new → Going key before left left old new before begins
begun key before left old new added = record { octets = []; written = own_greeting; took = took_none left; talk_is = refl; writes = begun_writes key before; added = added }

pub front_greeting : (key : List ℕ) (before : Standing) (left old new : Option (List ℕ)) → AddedFront own_greeting old new → IsFront key before left left old new
front_greeting key before left old new f = record {
  octets = [];
  heard = [];
  unheard = [];
  written = own_greeting;
  after = before;
  took = took_none left;
  messages = refl;
  writes = begun_writes key before;
  added = f;
}

regroup : (written send opening answers : List ℕ) → written ++ (send ++ opening ++ answers) ≡ written ++ send ++ opening ++ answers
regroup written send opening answers = sym (append_assoc written (send ++ opening) answers) ∙ ap (λ (z : List ℕ). z ++ answers) (sym (append_assoc written send opening))

pub goes_on : (key : List ℕ) (before mid after : Standing) (left rest later old new next : Option (List ℕ)) (t : Talk) (piece : List ℕ) →
    Going key before left rest old new mid t → Took piece rest later → WrotePiece key mid t piece new next after → Going key before left later old next after (talked t piece)
goes_on key before mid after left rest later old new next t piece g took w =
    let p : WrotePiece key mid (talked begins g.octets) piece new next after = subst (λ (u : Talk). WrotePiece key mid u piece new next after) g.talk_is w in
    record {
      octets = g.octets ++ piece;
      written = g.written ++ sent (talked begins g.octets) piece ++ p.opening ++ p.answers;
      took = took_more g.octets piece left rest later g.took took;
      talk_is = ap (λ (u : Talk). talked u piece) g.talk_is ∙ sym (talked_append begins g.octets piece);
      writes = subst (λ (ms : List (List (List ℕ))). Writes key before (g.octets ++ piece) ms (g.written ++ sent (talked begins g.octets) piece ++ p.opening ++ p.answers) after) (sym (messages_append begins g.octets piece))
          (with_piece key before mid after g.octets piece g.written p.opening p.answers (messages (talked begins g.octets) piece) g.writes p.opens p.hears);
      added = subst (λ (xs : List ℕ). Added xs old next) (regroup g.written (sent (talked begins g.octets) piece) p.opening p.answers) (added_both g.written (sent (talked begins g.octets) piece ++ p.opening ++ p.answers) old new next g.added p.added);
    }

pub ends_with : (key : List ℕ) (before after : Standing) (left rest old new : Option (List ℕ)) (t : Talk) (fault : Option PeerFault) →
    Going key before left rest old new after t → fault_of t.phase ≡ fault → IsWhole key before left rest old new after fault
ends_with key before after left rest old new t fault g is = record {
  octets = g.octets;
  written = g.written;
  took = g.took;
  writes = g.writes;
  added = g.added;
  fault_is = ap (λ (u : Talk). fault_of u.phase) (sym g.talk_is) ∙ is;
}

pub front_here : (key : List ℕ) (before after : Standing) (left rest old new : Option (List ℕ)) (t : Talk) → Going key before left rest old new after t → IsFront key before left rest old new
front_here key before after left rest old new t g = record {
  octets = g.octets;
  heard = messages begins g.octets;
  unheard = [];
  written = g.written;
  after = after;
  took = g.took;
  messages = sym (append-nil (messages begins g.octets));
  writes = g.writes;
  added = front_whole g.written old new g.added;
}

pub front_in_piece : (key : List ℕ) (before mid : Standing) (left rest later old new next : Option (List ℕ)) (t : Talk) (piece : List ℕ) →
    Going key before left rest old new mid t → Took piece rest later → WroteOfPiece key mid t piece new next → IsFront key before left later old next
front_in_piece key before mid left rest later old new next t piece g took w =
    let p : WroteOfPiece key mid (talked begins g.octets) piece new next = subst (λ (u : Talk). WroteOfPiece key mid u piece new next) g.talk_is w in
    record {
      octets = g.octets ++ piece;
      heard = messages begins g.octets ++ p.heard;
      unheard = p.unheard;
      written = g.written ++ sent (talked begins g.octets) piece ++ p.opening ++ p.answers;
      after = p.after;
      took = took_more g.octets piece left rest later g.took took;
      messages = messages_append begins g.octets piece ∙ ap (λ (z : List (List (List ℕ))). messages begins g.octets ++ z) p.parts ∙ sym (append_assoc (messages begins g.octets) p.heard p.unheard);
      writes = with_piece key before mid p.after g.octets piece g.written p.opening p.answers p.heard g.writes p.opens p.hears;
      added = subst (λ (xs : List ℕ). AddedFront xs old next) (regroup g.written (sent (talked begins g.octets) piece) p.opening p.answers) (front_behind g.written (sent (talked begins g.octets) piece ++ p.opening ++ p.answers) old new next g.added p.added);
    }
