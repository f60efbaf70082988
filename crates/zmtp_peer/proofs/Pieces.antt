-- Octets one after another.
use Rattle.std.proofs.Common.{◌≡◌, ℕ, ◌+◌, ◌-◌, length, arith, List, [], ◌∷◌, ◌++◌, take, drop, Option, Some, None, refl, sym, ap, ◌∙◌, append_assoc}
use Rattle.std.proofs.lemmas.List.{take-append-drop, drop-drop, take_all, length-drop}
use Rattle.zmtp_frames.specs.Greeting.{own_greeting}
use Rattle.zmtp_peer.specs.PeerStream.{Talk, talk, talked, sent, identity, or_later, messages, listed, begins, peer_stream, with_piece}

pub talked_append : (t : Talk) (xs ys : List ℕ) → talked t (xs ++ ys) ≡ talked (talked t xs) ys
talked_append t [] ys = refl
talked_append t (x ∷ xs) ys = talked_append (talk t x).0 xs ys

pub sent_append : (t : Talk) (xs ys : List ℕ) → sent t (xs ++ ys) ≡ sent t xs ++ sent (talked t xs) ys
sent_append t [] ys = refl
sent_append t (x ∷ xs) ys =
    ap (λ (zs : List ℕ). (talk t x).1.send ++ zs) (sent_append (talk t x).0 xs ys) ∙ sym (append_assoc (talk t x).1.send (sent (talk t x).0 xs) (sent (talked (talk t x).0 xs) ys))

pub or_assoc : (a b c : Option (List ℕ)) → or_later a (or_later b c) ≡ or_later (or_later a b) c
or_assoc (Some a) b c = refl
or_assoc None b c = refl

pub identity_append : (t : Talk) (xs ys : List ℕ) → identity t (xs ++ ys) ≡ or_later (identity t xs) (identity (talked t xs) ys)
identity_append t [] ys = refl
identity_append t (x ∷ xs) ys =
    ap (λ (i : Option (List ℕ)). or_later (talk t x).1.ready i) (identity_append (talk t x).0 xs ys)
    ∙ or_assoc (talk t x).1.ready (identity (talk t x).0 xs) (identity (talked (talk t x).0 xs) ys)

pub messages_append : (t : Talk) (xs ys : List ℕ) → messages t (xs ++ ys) ≡ messages t xs ++ messages (talked t xs) ys
messages_append t [] ys = refl
messages_append t (x ∷ xs) ys =
    ap (λ (zs : List (List (List ℕ))). listed (talk t x).1.message ++ zs) (messages_append (talk t x).0 xs ys) ∙ sym (append_assoc (listed (talk t x).1.message) (messages (talk t x).0 xs) (messages (talked (talk t x).0 xs) ys))

pub piece_more : (octets piece : List ℕ) → peer_stream (octets ++ piece) ≡ with_piece (peer_stream octets) (talked begins octets) piece
piece_more octets piece =
    rw (
      talked_append begins octets piece,
      sent_append begins octets piece,
      identity_append begins octets piece,
      messages_append begins octets piece,
      append_assoc own_greeting (sent begins octets) (sent (talked begins octets) piece),
    ) refl

-- WHAT IS LEFT OF A PIECE

part : (n at : ℕ) (piece : List ℕ) → drop at piece ≡ take n (drop at piece) ++ drop (at + n) piece
part n at piece = sym (take-append-drop n (drop at piece)) ∙ ap (λ (zs : List ℕ). take n (drop at piece) ++ zs) (drop-drop n at piece)

-- some octets of what is left, and what is left behind them
module _ (u v : Talk) (n at : ℕ) (piece : List ℕ) (is : v ≡ talked u (take n (drop at piece))) where
  pub talked_on : talked v (drop (at + n) piece) ≡ talked u (drop at piece)
  talked_on = ap (λ (t : Talk). talked t (drop (at + n) piece)) is ∙ sym (talked_append u (take n (drop at piece)) (drop (at + n) piece)) ∙ ap (talked u) (sym (part n at piece))

  pub sent_on : (s g new : List ℕ) → new ≡ s ++ g → g ≡ sent u (take n (drop at piece)) → new ++ sent v (drop (at + n) piece) ≡ s ++ sent u (drop at piece)
  sent_on s g new made gives =
      ap (λ (zs : List ℕ). zs ++ sent v (drop (at + n) piece)) made ∙ append_assoc s g (sent v (drop (at + n) piece))
      ∙ ap (λ (zs : List ℕ). s ++ zs) (ap (λ (zs : List ℕ). zs ++ sent v (drop (at + n) piece)) gives
      ∙ ap (λ (t : Talk). sent u (take n (drop at piece)) ++ sent t (drop (at + n) piece)) is
      ∙ sym (sent_append u (take n (drop at piece)) (drop (at + n) piece)) ∙ ap (sent u) (sym (part n at piece)))

  pub identity_on : (s g new : Option (List ℕ)) → new ≡ or_later s g → g ≡ identity u (take n (drop at piece)) → or_later new (identity v (drop (at + n) piece)) ≡ or_later s (identity u (drop at piece))
  identity_on s g new made gives =
      ap (λ (o : Option (List ℕ)). or_later o (identity v (drop (at + n) piece))) made ∙ sym (or_assoc s g (identity v (drop (at + n) piece)))
      ∙ ap (or_later s) (ap (λ (o : Option (List ℕ)). or_later o (identity v (drop (at + n) piece))) gives
      ∙ ap (λ (t : Talk). or_later (identity u (take n (drop at piece))) (identity t (drop (at + n) piece))) is
      ∙ sym (identity_append u (take n (drop at piece)) (drop (at + n) piece)) ∙ ap (identity u) (sym (part n at piece)))

  pub messages_on : (s g new : List (List (List ℕ))) → new ≡ s ++ g → g ≡ messages u (take n (drop at piece)) → new ++ messages v (drop (at + n) piece) ≡ s ++ messages u (drop at piece)
  messages_on s g new made gives =
      ap (λ (zs : List (List (List ℕ))). zs ++ messages v (drop (at + n) piece)) made ∙ append_assoc s g (messages v (drop (at + n) piece))
      ∙ ap (λ (zs : List (List (List ℕ))). s ++ zs) (ap (λ (zs : List (List (List ℕ))). zs ++ messages v (drop (at + n) piece)) gives
      ∙ ap (λ (t : Talk). messages u (take n (drop at piece)) ++ messages t (drop (at + n) piece)) is
      ∙ sym (messages_append u (take n (drop at piece)) (drop (at + n) piece)) ∙ ap (messages u) (sym (part n at piece)))

pub rest_of : (at : ℕ) (piece : List ℕ) → take (length piece - at) (drop at piece) ≡ drop at piece
rest_of at piece = take_all (length piece - at) (drop at piece) (let long : length (drop at piece) ≡ length piece - at = length-drop at piece in omega (arith, long))
