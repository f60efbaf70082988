-- Where reading to the first signed message has come to.
use Rattle.std.proofs.Common.{◌≡◌, ◌<◌, ◌+◌, ℕ, List, [], ◌∷◌, ◌++◌, Bool, true, false, ◌||◌, Option, Some, None, ◌≤◌, refl, sym, ap, subst, ◌∙◌, append_assoc, take, take_all, length}
use Rattle.std.specs.Prelude.{slice_index_or}
use Rattle.std.specs.List.{list_any}
use Rattle.std.proofs.lemmas.List.{append-nil}
use Rattle.std.proofs.lemmas.List.Folds.{list_any-append, list_any_more, list_any_at}
use Rattle.edges.specs.Streams.{Took}
use Rattle.edges.proofs.Pieces.{took_more}
use Rattle.zmtp_peer.specs.declared.fault.PeerFault.{PeerFault}
use Rattle.zmtp_peer.specs.PeerStream.{Talk, talked, messages, fault_of}
use Rattle.zmtp_peer.proofs.Pieces.{talked_append, messages_append}
use Rattle.signed_links.specs.Signing.{is_signed, IsReadToSigned, IsReadUnsigned}

took_none : (x : Option (List ℕ)) → Took [] x x
took_none None = refl
took_none (Some octets) = refl

neither : (a b : Bool) → a ≡ false → b ≡ false → (a || b) ≡ false
neither a b is also = cc

module _ (key : List ℕ) (ms : List (List (List ℕ))) (i : ℕ) where
  -- one more that isn't signed
  pub none_more : (item d : List (List ℕ)) → i < length ms → list_any (is_signed key) (take i ms) ≡ false → item ≡ slice_index_or ms i d → is_signed key item ≡ false → list_any (is_signed key) (take (i + 1) ms) ≡ false
  none_more item d within before is now = list_any_more (is_signed key) ms i d within ∙ neither (list_any (is_signed key) (take i ms)) (is_signed key (slice_index_or ms i d)) before (ap (is_signed key) (sym is) ∙ now)

  -- one that is
  pub one_now : (item d : List (List ℕ)) → i < length ms → item ≡ slice_index_or ms i d → is_signed key item ≡ true → true ≡ list_any (is_signed key) ms
  one_now item d within is now = sym (list_any_at (is_signed key) ms i d within (ap (is_signed key) (sym is) ∙ now))

  -- all were seen
  pub none_whole : length ms ≤ i → list_any (is_signed key) (take i ms) ≡ false → false ≡ list_any (is_signed key) ms
  none_whole past none = sym none ∙ ap (list_any (is_signed key)) (take_all i ms past)

any_none : {A : Type 0} (p : A → Bool) (xs ys : List A) → list_any p xs ≡ false → list_any p ys ≡ false → list_any p (xs ++ ys) ≡ false
any_none p xs ys is also = list_any-append p xs ys ∙ neither (list_any p xs) (list_any p ys) is also

talk_both : (talk now : Talk) (octets piece : List ℕ) → now ≡ talked talk octets → talked now piece ≡ talked talk (octets ++ piece)
talk_both talk now octets piece is = ap (λ (t : Talk). talked t piece) is ∙ sym (talked_append talk octets piece)

messages_both : (before : List (List (List ℕ))) (talk now : Talk) (octets piece : List ℕ) → now ≡ talked talk octets → before ++ messages talk (octets ++ piece) ≡ (before ++ messages talk octets) ++ messages now piece
messages_both before talk now octets piece is =
    ap (λ (ms : List (List (List ℕ))). before ++ ms) (messages_append talk octets piece ∙ ap (λ (t : Talk). messages talk octets ++ messages t piece) (sym is))
    ∙ sym (append_assoc before (messages talk octets) (messages now piece))

-- nothing was read yet
pub unsigned_begins : (key : List ℕ) (before : List (List (List ℕ))) (talk : Talk) (left : Option (List ℕ)) → list_any (is_signed key) before ≡ false → fault_of talk.phase ≡ None → IsReadUnsigned key before talk talk None left left
unsigned_begins key before talk left none faultless = record {
  octets = [];
  took = took_none left;
  talk_is = refl;
  fault_is = faultless;
  unsigned = subst (λ (ms : List (List (List ℕ))). list_any (is_signed key) ms ≡ false) (sym (append-nil before)) none;
}

-- a piece without a signed message
pub unsigned_more : (key : List ℕ) (before : List (List (List ℕ))) (talk now after : Talk) (piece : List ℕ) (fault : Option PeerFault) (left rest later : Option (List ℕ)) → IsReadUnsigned key before talk now None left rest → Took piece rest later → after ≡ talked now piece → list_any (is_signed key) (messages now piece) ≡ false
    → fault_of after.phase ≡ fault → IsReadUnsigned key before talk after fault left later
unsigned_more key before talk now after piece fault left rest later u took is none fault_is = record {
  octets = u.octets ++ piece;
  took = took_more u.octets piece left rest later u.took took;
  talk_is = is ∙ talk_both talk now u.octets piece u.talk_is;
  fault_is = fault_is;
  unsigned = subst (λ (ms : List (List (List ℕ))). list_any (is_signed key) ms ≡ false) (sym (messages_both before talk now u.octets piece u.talk_is)) (any_none (is_signed key) (before ++ messages talk u.octets) (messages now piece) u.unsigned none);
}

-- a piece with one
pub signed_now : (key : List ℕ) (before : List (List (List ℕ))) (talk now after : Talk) (piece : List ℕ) (early : List (List (List ℕ))) (left rest later : Option (List ℕ)) → IsReadUnsigned key before talk now None left rest → Took piece rest later → after ≡ talked now piece → early ≡ messages now piece
    → list_any (is_signed key) early ≡ true → IsReadToSigned key before talk after early left later
signed_now key before talk now after piece early left rest later u took is early_is one = record {
  octets = u.octets ++ piece;
  took = took_more u.octets piece left rest later u.took took;
  talk_is = is ∙ talk_both talk now u.octets piece u.talk_is;
  passed = before ++ messages talk u.octets;
  parts = messages_both before talk now u.octets piece u.talk_is ∙ ap (λ (ms : List (List (List ℕ))). (before ++ messages talk u.octets) ++ ms) (sym early_is);
  none_passed = u.unsigned;
  one_early = one;
}

-- one that came with the handshake
pub signed_before : (key : List ℕ) (before : List (List (List ℕ))) (talk : Talk) (left : Option (List ℕ)) → list_any (is_signed key) before ≡ true → IsReadToSigned key before talk talk before left left
signed_before key before talk left one = record { octets = []; took = took_none left; talk_is = refl; passed = []; parts = append-nil before; none_passed = refl; one_early = one }

-- none came, and the stream has a fault
pub unsigned_fault : (key : List ℕ) (before : List (List (List ℕ))) (talk : Talk) (left : Option (List ℕ)) (fault : Option PeerFault) → list_any (is_signed key) before ≡ false → fault_of talk.phase ≡ fault → IsReadUnsigned key before talk talk fault left left
unsigned_fault key before talk left fault none is = record {
  octets = [];
  took = took_none left;
  talk_is = refl;
  fault_is = is;
  unsigned = subst (λ (ms : List (List (List ℕ))). list_any (is_signed key) ms ≡ false) (sym (append-nil before)) none;
}
