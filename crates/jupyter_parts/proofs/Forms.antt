-- Frames are read as a message exactly where they are a signed form of it.
use Rattle.std.proofs.Common.{◌≡◌, ◌≢◌, ◌≤◌, ◌==◌, ◌||◌, ℕ, suc, Bool, List, [], ◌∷◌, ◌++◌, length, Option, Some, None, Ok, true, false, true≢false, bytes_eq, arith, refl, sym, ap, ◌∙◌, subst}
use Rattle.std.proofs.lemmas.Slice.Eq.{bytes_eq-Decides}
use Rattle.std.specs.List.{list_any}
use Rattle.cluster_types.specs.declared.message.Message.{Message}
use Rattle.jupyter_parts.specs.Signed.{IsSigned, delimiter, is_delimiter, is_target, target_of, identities, behind, signature, signed_frames, message_in, message_behind, read_parts, addressed, message_frames}

same_text : (text : List ℕ) → bytes_eq text text ≡ true
same_text text = (bytes_eq-Decides text text).1 refl

differ : (a b : List ℕ) (test : Bool) → bytes_eq a b ≡ test → (a ≡ b → ⊥) → test ≡ false
differ a b true e other = absurd (other ((bytes_eq-Decides a b).0 e))
differ a b false e other = refl

behind_step : (frame : List ℕ) (before rest : List (List ℕ)) (test : Bool) → is_delimiter frame ≡ test → (test || list_any is_delimiter before) ≡ false
    → (list_any is_delimiter before ≡ false → behind (before ++ delimiter ∷ rest) ≡ Some rest) → behind (frame ∷ (before ++ delimiter ∷ rest)) ≡ Some rest
behind_step frame before rest true e h next = absurd (true≢false h)
behind_step frame before rest false e h next = rw e (next h)

-- behind the first delimiter
behind_is : (before rest : List (List ℕ)) → list_any is_delimiter before ≡ false → behind (before ++ delimiter ∷ rest) ≡ Some rest
behind_is [] rest h = rw (same_text delimiter) refl
behind_is (frame ∷ before) rest h = behind_step frame before rest (is_delimiter frame) refl h (behind_is before rest)

before_step : (frame : List ℕ) (before rest : List (List ℕ)) (test : Bool) → is_delimiter frame ≡ test → (test || list_any is_delimiter before) ≡ false
    → (list_any is_delimiter before ≡ false → identities (before ++ delimiter ∷ rest) ≡ before) → identities (frame ∷ (before ++ delimiter ∷ rest)) ≡ frame ∷ before
before_step frame before rest true e h next = absurd (true≢false h)
before_step frame before rest false e h next = rw e (ap (λ z. frame ∷ z) (next h))

-- before the first delimiter
before_is : (before rest : List (List ℕ)) → list_any is_delimiter before ≡ false → identities (before ++ delimiter ∷ rest) ≡ before
before_is [] rest h = rw (same_text delimiter) refl
before_is (frame ∷ before) rest h = before_step frame before rest (is_delimiter frame) refl h (before_is before rest)

abbrev IsCut : List (List ℕ) → List (List ℕ) → Type 0
IsCut frames rest = (frames ≡ identities frames ++ delimiter ∷ rest) × (list_any is_delimiter (identities frames) ≡ false)

cut_step : (frame : List ℕ) (frames rest : List (List ℕ)) (test : Bool) → is_delimiter frame ≡ test → behind (frame ∷ frames) ≡ Some rest → (behind frames ≡ Some rest → IsCut frames rest) → IsCut (frame ∷ frames) rest
cut_step frame frames rest true e h next =
    let given = rw e at h in
    let is : frame ≡ delimiter = (bytes_eq-Decides frame delimiter).0 e in
    let same : frames ≡ rest = cc given in
    rw e (rw (is, same) refl, refl)
cut_step frame frames rest false e h next =
    let found = next (rw e at h) in
    let whole : frame ∷ frames ≡ frame ∷ (identities frames ++ delimiter ∷ rest) = ap (λ z. frame ∷ z) found.0 in
    let none : (is_delimiter frame || list_any is_delimiter (identities frames)) ≡ false = rw e found.1 in
    rw e (whole, none)

-- the frames are those before the delimiter, the delimiter, and those behind it
cut : (frames rest : List (List ℕ)) → behind frames ≡ Some rest → IsCut frames rest
cut [] rest h = cc h
cut (frame ∷ frames) rest h = cut_step frame frames rest (is_delimiter frame) refl h (cut frames rest)

-- the parts of a signed message are read
read_signed : (key target : List ℕ) (message : Message) → message.target ≡ target
    → message_in key target (signature key message.header message.parent message.metadata message.content ∷ message.header ∷ message.parent ∷ message.metadata ∷ message.content ∷ message.buffers) ≡ Ok message
read_signed key target message is =
    rw (same_text (signature key message.header message.parent message.metadata message.content))
    (ap (λ t. Ok (record { target = t; header = message.header; parent = message.parent; metadata = message.metadata; content = message.content; buffers = message.buffers })) (sym is))

abbrev InOrder : List ℕ → List ℕ → List (List ℕ) → Message → Type 0
InOrder key target rest message =
    (delimiter ∷ rest ≡ signed_frames key message.header message.parent message.metadata message.content message.buffers) × (message.target ≡ target)

order_step : (key target given header parent metadata content : List ℕ) (buffers : List (List ℕ)) (message : Message) (test : Bool)
    → bytes_eq given (signature key header parent metadata content) ≡ test
    → message_in key target (given ∷ header ∷ parent ∷ metadata ∷ content ∷ buffers) ≡ Ok message
    → InOrder key target (given ∷ header ∷ parent ∷ metadata ∷ content ∷ buffers) message
order_step key target given header parent metadata content buffers message true e h =
    let read = rw e at h in
    let is : given ≡ signature key header parent metadata content = (bytes_eq-Decides given (signature key header parent metadata content)).0 e in
    let here : Message = record { target = target; header = header; parent = parent; metadata = metadata; content = content; buffers = buffers } in
    let same : here ≡ message = cc read in
    let P : Message → Type 0 = λ m. InOrder key target (given ∷ header ∷ parent ∷ metadata ∷ content ∷ buffers) m in
    subst P same (ap (λ g. delimiter ∷ g ∷ header ∷ parent ∷ metadata ∷ content ∷ buffers) is, refl)
order_step key target given header parent metadata content buffers message false e h =
    let read = rw e at h in
    cc read

order : (key target : List ℕ) (rest : List (List ℕ)) (message : Message) → message_in key target rest ≡ Ok message → InOrder key target rest message
order key target [] message h = cc h
order key target (a ∷ []) message h = cc h
order key target (a ∷ b ∷ []) message h = cc h
order key target (a ∷ b ∷ c ∷ []) message h = cc h
order key target (a ∷ b ∷ c ∷ d ∷ []) message h = cc h
order key target (a ∷ b ∷ c ∷ d ∷ e ∷ rest) message h = order_step key target a b c d e rest message (bytes_eq a (signature key b c d e)) refl h

signed_step : (key : List ℕ) (frames : List (List ℕ)) (message : Message) (found : Option (List (List ℕ))) → behind frames ≡ found
    → message_behind key (target_of (identities frames)) found ≡ Ok message → IsSigned key frames message
signed_step key frames message None e h = cc h
signed_step key frames message (Some rest) e h =
    let parts = order key (target_of (identities frames)) rest message h in
    let whole = cut frames rest e in
    record {
      before = identities frames;
      no_delimiter = whole.1;
      in_order = whole.0 ∙ ap (λ z. identities frames ++ z) parts.0;
      target = parts.1;
    }

-- what is read is signed
pub signed_if_read : (key : List ℕ) (frames : List (List ℕ)) (message : Message) → read_parts key frames ≡ Ok message → IsSigned key frames message
signed_if_read key frames message h = signed_step key frames message (behind frames) refl h

-- what is signed is read
pub read_if_signed : (key : List ℕ) (frames : List (List ℕ)) (message : Message) → IsSigned key frames message → read_parts key frames ≡ Ok message
read_if_signed key frames message s =
    let rest = signature key message.header message.parent message.metadata message.content ∷ message.header ∷ message.parent ∷ message.metadata ∷ message.content ∷ message.buffers in
    rw (s.in_order, behind_is s.before rest s.no_delimiter, before_is s.before rest s.no_delimiter) (read_signed key (target_of s.before) message s.target)

plain : (target : List ℕ) → target ≢ delimiter → list_any is_delimiter (addressed target) ≡ false
plain [] other = refl
plain (x ∷ xs) other =
    let some : (suc (length xs) == 0) ≡ false = grind arith in
    let test : is_delimiter (x ∷ xs) ≡ false = differ (x ∷ xs) delimiter (is_delimiter (x ∷ xs)) refl other in
    rw (some, test) refl

target_is : (target : List ℕ) → length target ≤ 255 → target ≡ target_of (addressed target)
target_is [] short = refl
target_is (x ∷ xs) short =
    let some : (suc (length xs) == 0) ≡ false = grind arith in
    let test : is_target (x ∷ xs) ≡ true = grind arith in
    rw (some, test) refl

-- what is written is signed
pub written_signed : (key : List ℕ) (message : Message) (frames : List (List ℕ)) → length message.target ≤ 255 → message.target ≢ delimiter → frames ≡ message_frames key message → IsSigned key frames message
written_signed key message frames short other is =
    record { before = addressed message.target; no_delimiter = plain message.target other; in_order = is; target = target_is message.target short }
