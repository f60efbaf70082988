-- The first answer among messages, and what it ends.
use Rattle.std.proofs.Common.{◌≡◌, ℕ, ◌+◌, ◌<◌, List, ◌∷◌, length, get_or, drop, Option, Some, None, refl, sym, ap, ◌∙◌}
use Rattle.std.proofs.lemmas.List.{at_drop_more}
use Rattle.link_commands.specs.declared.finding.Conclusion.{Conclusion}
use Rattle.link_commands.specs.declared.finding.Conclusion.TheVariants.{Answer, Fault, Nothing}
use Rattle.link_commands.specs.Asking.{answer_of, or_next, answer_in, answer_by, taken_by}
use Rattle.cluster_types.specs.declared.message.Message.{Message}
use Rattle.zmtp_peer.specs.declared.fault.PeerFault.{PeerFault}
use Rattle.zmtp_peer.specs.PeerStream.{Talk, talked, messages, fault_of}

-- the answer among the messages from a place on, by the first of them
pub first_is : (key : List ℕ) (id : Option (List ℕ)) (messages : List (List (List ℕ))) (i : ℕ) (frames : List (List ℕ)) (answer : Option Message) → i < length messages → frames ≡ get_or messages i frames →
    answer ≡ answer_of key id frames → answer_in key id (drop i messages) ≡ or_next answer (answer_in key id (drop (i + 1) messages))
unfolding answer_in
first_is key id messages i frames answer lt at is =
    at_drop_more (answer_in key id) messages i frames lt
    ∙ ap (λ (x : List (List ℕ)). answer_in key id (x ∷ drop (i + 1) messages)) (sym at)
    ∙ ap (λ (a : Option Message). or_next a (answer_in key id (drop (i + 1) messages))) (sym is)

-- WHAT ENDS A SESSION

pub answer_taken : (taken : Conclusion) (a : Option Message) (f : Option PeerFault) (m : Message) → taken ≡ taken_by a f → taken ≡ Answer m → a ≡ Some m
answer_taken taken (Some x) f m is end = let same : Answer x ≡ Answer m = sym is ∙ end in cc
answer_taken taken None (Some p) m is end = let same : Fault p ≡ Answer m = sym is ∙ end in absurd (cc)
answer_taken taken None None m is end = let same : Nothing ≡ Answer m = sym is ∙ end in absurd (cc)

pub fault_taken : (taken : Conclusion) (a : Option Message) (f : Option PeerFault) (p : PeerFault) → taken ≡ taken_by a f → taken ≡ Fault p → (a ≡ None) × (f ≡ Some p)
fault_taken taken (Some x) f p is end = let same : Answer x ≡ Fault p = sym is ∙ end in absurd (cc)
fault_taken taken None (Some q) p is end = let same : Fault q ≡ Fault p = sym is ∙ end in (refl, cc)
fault_taken taken None None p is end = let same : Nothing ≡ Fault p = sym is ∙ end in absurd (cc)

pub nothing_taken : (taken : Conclusion) (a : Option Message) (f : Option PeerFault) → taken ≡ taken_by a f → taken ≡ Nothing → (a ≡ None) × (f ≡ None)
nothing_taken taken (Some x) f is end = let same : Answer x ≡ Nothing = sym is ∙ end in absurd (cc)
nothing_taken taken None (Some q) is end = let same : Fault q ≡ Nothing = sym is ∙ end in absurd (cc)
nothing_taken taken None None is end = (refl, refl)

pub piece_taken : (key : List ℕ) (id : Option (List ℕ)) (t : Talk) (piece : List ℕ) (taken : Conclusion) (a : Option Message) (f : Option PeerFault) (ms : List (List (List ℕ))) → taken ≡ taken_by a f → a ≡ answer_in key id ms →
    ms ≡ messages t piece → f ≡ fault_of (talked t piece).phase → taken ≡ taken_by (answer_by key id t piece) (fault_of (talked t piece).phase)
piece_taken key id t piece taken a f ms is a_is ms_is f_is =
    is ∙ ap (λ (x : Option PeerFault). taken_by a x) f_is
    ∙ ap (λ (x : Option Message). taken_by x (fault_of (talked t piece).phase)) (a_is ∙ ap (λ (xs : List (List (List ℕ))). answer_in key id xs) ms_is)
