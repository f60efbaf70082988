-- Where a reading session has come to.
use Rattle.std.proofs.Common.{◌≡◌, ℕ, List, [], ◌++◌, Option, Some, None, false, refl, sym, ap, subst, ◌∙◌, append_assoc}
use Rattle.std.proofs.lemmas.List.{append-nil}
use Rattle.cluster_store.specs.Stores.{is_live}
use Rattle.edges.specs.Streams.{Took}
use Rattle.edges.proofs.Pieces.{took_more}
use Rattle.history_lock.specs.declared.known.View.{View}
use Rattle.zmtp_peer.specs.declared.fault.PeerFault.{PeerFault}
use Rattle.zmtp_peer.specs.PeerStream.{Talk, talked, messages, fault_of}
use Rattle.zmtp_peer.proofs.Pieces.{talked_append, messages_append}
use Rattle.session_threads.specs.Passes.{inputs_among}
use Rattle.session_threads.specs.Reading.{Entered, EnteredFront, TakesDown, session_messages, Heard, HeardWith, HeardFront, ReadsFront, ReadsWhole}
use Rattle.session_threads.proofs.Entering.{none_entered, entered_more}

pub took_none : (x : Option (List ℕ)) → Took [] x x
took_none None = refl
took_none (Some octets) = refl

-- nothing was read yet, and those that came early were entered
pub heard_early : (key : List ℕ) (conn : ℕ) (early : List (List (List ℕ))) (talk : Talk) (left : Option (List ℕ)) (u v : View) → Entered key conn early [] u v → Heard key conn early talk talk left left u v
heard_early key conn early talk left u v e = record {
  octets = [];
  took = took_none left;
  talk_is = refl;
  entered = subst (λ (ms : List (List (List ℕ))). Entered key conn ms [] u v) (sym (append-nil early)) e;
}

pub heard_none : (key : List ℕ) (conn : ℕ) (talk : Talk) (left : Option (List ℕ)) (u : View) → Heard key conn [] talk talk left left u u
heard_none key conn talk left u = heard_early key conn [] talk left u u (none_entered key conn u)

session_append : (early : List (List (List ℕ))) (talk now : Talk) (octets piece : List ℕ) → now ≡ talked talk octets → session_messages early talk octets ++ messages now piece ≡ session_messages early talk (octets ++ piece)
session_append early talk now octets piece is =
    append_assoc early (messages talk octets) (messages now piece)
    ∙ ap (λ (ms : List (List (List ℕ))). early ++ ms) (ap (λ (t : Talk). messages talk octets ++ messages t piece) is ∙ sym (messages_append talk octets piece))

pub heard_piece : (key : List ℕ) (conn : ℕ) (early : List (List (List ℕ))) (talk now : Talk) (left rest later : Option (List ℕ)) (u v w : View) (piece : List ℕ) →
    Heard key conn early talk now left rest u v → Took piece rest later → Entered key conn (messages now piece) [] v w → Heard key conn early talk (talked now piece) left later u w
heard_piece key conn early talk now left rest later u v w piece h took e = record {
  octets = h.octets ++ piece;
  took = took_more h.octets piece left rest later h.took took;
  talk_is = ap (λ (t : Talk). talked t piece) h.talk_is ∙ sym (talked_append talk h.octets piece);
  entered = subst (λ (ms : List (List (List ℕ))). Entered key conn ms [] u w) (session_append early talk now h.octets piece h.talk_is)
      (entered_more key conn u v w (session_messages early talk h.octets) (messages now piece) [] h.entered e);
}

pub front_of : (key : List ℕ) (conn : ℕ) (early : List (List (List ℕ))) (talk now : Talk) (left rest : Option (List ℕ)) (u v : View) → Heard key conn early talk now left rest u v → HeardFront key conn early talk left rest u v
front_of key conn early talk now left rest u v h = record {
  octets = h.octets;
  took = h.took;
  entered = record { first = session_messages early talk h.octets; others = []; parts = sym (append-nil (session_messages early talk h.octets)); entered = h.entered };
}

pub front_in_piece : (key : List ℕ) (conn : ℕ) (early : List (List (List ℕ))) (talk now : Talk) (left rest later : Option (List ℕ)) (u v w : View) (piece : List ℕ) →
    Heard key conn early talk now left rest u v → Took piece rest later → EnteredFront key conn (messages now piece) v w → HeardFront key conn early talk left later u w
front_in_piece key conn early talk now left rest later u v w piece h took e = record {
  octets = h.octets ++ piece;
  took = took_more h.octets piece left rest later h.took took;
  entered = record {
    first = session_messages early talk h.octets ++ e.first;
    others = e.others;
    parts = sym (session_append early talk now h.octets piece h.talk_is) ∙ ap (λ (ms : List (List (List ℕ))). session_messages early talk h.octets ++ ms) e.parts ∙ sym (append_assoc (session_messages early talk h.octets) e.first e.others);
    entered = entered_more key conn u v w (session_messages early talk h.octets) e.first [] h.entered e.entered;
  };
}

-- AFTER THE EARLY MESSAGES

early_append : (early : List (List (List ℕ))) (talk : Talk) (octets : List ℕ) → early ++ session_messages [] talk octets ≡ session_messages early talk octets
early_append early talk octets = refl

pub heard_behind : (key : List ℕ) (conn : ℕ) (early : List (List (List ℕ))) (talk now : Talk) (left rest : Option (List ℕ)) (u v w : View) → Entered key conn early [] u v → Heard key conn [] talk now left rest v w → Heard key conn early talk now left rest u w
heard_behind key conn early talk now left rest u v w e h = record {
  octets = h.octets;
  took = h.took;
  talk_is = h.talk_is;
  entered = entered_more key conn u v w early (session_messages [] talk h.octets) [] e h.entered;
}

pub with_behind : (key : List ℕ) (conn : ℕ) (early : List (List (List ℕ))) (talk : Talk) (fault : Option PeerFault) (left rest : Option (List ℕ)) (u v w : View) → Entered key conn early [] u v → HeardWith key conn [] talk fault left rest v w → HeardWith key conn early talk fault left rest u w
with_behind key conn early talk fault left rest u v w e h = (h.0, heard_behind key conn early talk h.0 left rest u v w e h.1, h.2)

pub front_behind : (key : List ℕ) (conn : ℕ) (early : List (List (List ℕ))) (talk : Talk) (left rest : Option (List ℕ)) (u v w : View) → Entered key conn early [] u v → HeardFront key conn [] talk left rest v w → HeardFront key conn early talk left rest u w
front_behind key conn early talk left rest u v w e h = record {
  octets = h.octets;
  took = h.took;
  entered = record {
    first = early ++ h.entered.first;
    others = h.entered.others;
    parts = ap (λ (ms : List (List (List ℕ))). early ++ ms) h.entered.parts ∙ sym (append_assoc early h.entered.first h.entered.others);
    entered = entered_more key conn u v w early h.entered.first [] e h.entered.entered;
  };
}

-- the early messages weren't all entered
pub front_early : (key : List ℕ) (conn : ℕ) (early : List (List (List ℕ))) (talk : Talk) (left : Option (List ℕ)) (u v : View) → EnteredFront key conn early u v → HeardFront key conn early talk left left u v
front_early key conn early talk left u v e = record {
  octets = [];
  took = took_none left;
  entered = record { first = e.first; others = e.others; parts = append-nil early ∙ e.parts; entered = e.entered };
}

-- THE END

entered_down : (key : List ℕ) (conn : ℕ) (ms : List (List (List ℕ))) (u v w : View) → Entered key conn ms [] u v → (d : TakesDown conn v w) → Entered key conn ms (inputs_among d.entries) u w
entered_down key conn ms u v w e d =
    subst (λ (xs : List (List (List ℕ))). Entered key conn xs (inputs_among d.entries) u w) (append-nil ms)
    (entered_more key conn u v w ms [] (inputs_among d.entries) e (record { entries = d.entries; inputs = []; adds = d.adds; inputs_are = sym (append-nil (inputs_among d.entries)); hears = (refl, d.adds.later) }))

pub reads_front : (key : List ℕ) (conn : ℕ) (early : List (List (List ℕ))) (talk : Talk) (left rest : Option (List ℕ)) (u v w : View) → HeardFront key conn early talk left rest u v → TakesDown conn v w → ReadsFront key conn early talk left rest u w
reads_front key conn early talk left rest u v w h d = record {
  octets = h.octets;
  first = h.entered.first;
  others = h.entered.others;
  down = inputs_among d.entries;
  took = h.took;
  parts = h.entered.parts;
  is_down = d.is_down;
  entered = entered_down key conn h.entered.first u v w h.entered.entered d;
}

-- without a turn
pub reads_only : (key : List ℕ) (conn : ℕ) (early : List (List (List ℕ))) (talk : Talk) (left rest : Option (List ℕ)) (u v : View) → HeardFront key conn early talk left rest u v → ReadsFront key conn early talk left rest u v
reads_only key conn early talk left rest u v h = record {
  octets = h.octets;
  first = h.entered.first;
  others = h.entered.others;
  down = [];
  took = h.took;
  parts = h.entered.parts;
  is_down = tt;
  entered = h.entered.entered;
}

pub reads_whole : (key : List ℕ) (conn : ℕ) (early : List (List (List ℕ))) (talk : Talk) (fault : Option PeerFault) (left rest : Option (List ℕ)) (u v w : View) →
    HeardWith key conn early talk fault left rest u v → TakesDown conn v w → is_live w.seen.list conn ≡ false → ReadsWhole key conn early talk fault left rest u w
reads_whole key conn early talk fault left rest u v w (now, h, is) d off = record {
  octets = h.octets;
  down = inputs_among d.entries;
  took = h.took;
  fault_is = ap (λ (t : Talk). fault_of t.phase) (sym h.talk_is) ∙ is;
  is_down = d.is_down;
  entered = entered_down key conn (session_messages early talk h.octets) u v w h.entered d;
  gone = off;
}
