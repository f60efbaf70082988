-- Bodies one after another.
use Rattle.std.proofs.Common.{◌≡◌, ℕ, zero, suc, ◌+◌, ◌-◌, ◌<◌, min, nat_lt, true, false, List, [], ◌∷◌, ◌++◌, length, drop, slice_index_or, refl, sym, arith}
use Rattle.std.proofs.lemmas.List.{append-nil}
use Rattle.std.proofs.lemmas.Bool.{lt-ltb}
use Rattle.zmtp_frames.specs.Written.{written}
use Rattle.zmtp_peer.specs.Message.{body_octets, message_written}

pub octets_more : (bodies : List (List ℕ)) (body : List ℕ) → body_octets (bodies ++ body ∷ []) ≡ body_octets bodies + length body
octets_more [] body = omega arith
octets_more (b ∷ bs) body = omega (arith, octets_more bs body)

pub counted : (bodies : List (List ℕ)) (body : List ℕ) (n m : ℕ) → n ≡ min (body_octets bodies) m → min (n + length body) m ≡ min (body_octets (bodies ++ body ∷ [])) m
counted bodies body n m e = omega (arith, octets_more bodies body, e)

several : (n : ℕ) → nat_lt 1 (suc (suc n) - 0) ≡ true
several n = lt-ltb _ _ (omega arith)

-- the octets from one body on
pub message_at : (bodies : List (List ℕ)) (i : ℕ) → i < length bodies
    → message_written (drop i bodies) ≡ written (nat_lt 1 (length bodies - i)) (slice_index_or bodies i []) ++ message_written (drop (i + 1) bodies)
message_at [] i lt = absurd (omega arith)
message_at (body ∷ []) zero lt = sym (append-nil (written false body))
message_at (body ∷ next ∷ bodies) zero lt = rw (several (length bodies)) refl
message_at (body ∷ bodies) (suc i) lt =
    let e : length (body ∷ bodies) - suc i ≡ length bodies - i = omega arith in
    let next : suc i + 1 ≡ suc (i + 1) = omega arith in
    rw (e, next) (message_at bodies i (omega arith))
