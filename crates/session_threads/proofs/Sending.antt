-- Outs that were taken, and octets that were written.
use Rattle.std.proofs.Common.{ℕ, List, [], ◌++◌, Option, subst}
use Rattle.edges.specs.Streams.{Added, AddedFront}
use Rattle.history_lock.specs.declared.known.View.{View}
use Rattle.session_threads.specs.Writing.{Took, WritesFront, WritesWhole}
use Rattle.session_threads.proofs.Taking.{took_none, took_more, took_outs}
use Rattle.edges.proofs.Additions.{added_both, added_none}
use Rattle.link_messages.proofs.Fronts.{front_behind, front_whole}

-- all that was taken was written
pub record Sent (key : List ℕ) (conn : ℕ) (u v : View) (old now : Option (List ℕ)) : Type 0 where
  pub octets : List ℕ
  pub took : Took key conn octets u v
  pub added : Added octets old now

pub sent_none : (key : List ℕ) (conn : ℕ) (u : View) (old : Option (List ℕ)) → Sent key conn u u old old
sent_none key conn u old = record { octets = []; took = took_none key conn u; added = added_none old }

pub sent_more : (key : List ℕ) (conn : ℕ) (u v w : View) (old now later : Option (List ℕ)) (octets : List ℕ) → Sent key conn u v old now → Took key conn octets v w → Added octets now later → Sent key conn u w old later
sent_more key conn u v w old now later octets s t added = record {
  octets = s.octets ++ octets;
  took = took_more key conn u v w s.octets octets s.took t;
  added = added_both s.octets octets old now later s.added added;
}

pub whole : (key : List ℕ) (conn : ℕ) (u v : View) (old now : Option (List ℕ)) → Sent key conn u v old now → WritesWhole key conn u v old now
whole key conn u v old now s =
    let t = s.took in
    record { outs = t.0; took = took_outs conn t.0 u v t.1; written = subst (λ (xs : List ℕ). Added xs old now) t.2 s.added }

pub front_of_took : (key : List ℕ) (conn : ℕ) (u v : View) (old now : Option (List ℕ)) (octets : List ℕ) → Took key conn octets u v → AddedFront octets old now → WritesFront key conn u v old now
front_of_took key conn u v old now octets t f = record { outs = t.0; took = took_outs conn t.0 u v t.1; written = subst (λ (xs : List ℕ). AddedFront xs old now) t.2 f }

pub front_now : (key : List ℕ) (conn : ℕ) (u v : View) (old now : Option (List ℕ)) → Sent key conn u v old now → WritesFront key conn u v old now
front_now key conn u v old now s = front_of_took key conn u v old now s.octets s.took (front_whole s.octets old now s.added)

-- a batch of which a front was written, or nothing
pub front_more : (key : List ℕ) (conn : ℕ) (u v w : View) (old now later : Option (List ℕ)) (octets : List ℕ) → Sent key conn u v old now → Took key conn octets v w → AddedFront octets now later → WritesFront key conn u w old later
front_more key conn u v w old now later octets s t f =
    front_of_took key conn u w old later (s.octets ++ octets) (took_more key conn u v w s.octets octets s.took t) (front_behind s.octets octets old now later s.added f)
