-- Frames that stand one after another in one list of octets.
use Rattle.std.proofs.Common.{◌≡◌, ◌≤◌, ◌<◌, ℕ, zero, suc, ◌+◌, ◌-◌, List, [], ◌∷◌, ◌++◌, length, take, drop, slice_get, slice_index_or, slice_range, Some, None, refl, sym, ap, length-append, arith}
use Rattle.std.proofs.lemmas.List.{length-drop}
use Rattle.std.proofs.lemmas.List.{take-append-le, drop-append-le}
use Rattle.std.proofs.Math.Seq.{drop-append_seam}
use Rattle.edges.specs.Frames.{cut, start_at, AreEnds}
use Rattle.cluster_types.proofs.Numbers.{only_part}

-- there are as many frames as ends
pub cut_length : (from : ℕ) (ends octets : List ℕ) → length (cut from ends octets) ≡ length ends
cut_length from [] octets = refl
cut_length from (end ∷ ends) octets = ap suc (cut_length end ends octets)

-- no frame begins behind the octets
pub ends_within : (from : ℕ) (ends octets : List ℕ) → AreEnds from ends octets → from ≤ length octets
ends_within from [] octets h = omega (arith)
ends_within from (end ∷ ends) octets h = let a : end ≤ length octets = ends_within end ends octets h.1 in omega (arith)

take_all : (xs : List ℕ) → take (length xs) xs ≡ xs
take_all [] = refl
take_all (x ∷ xs) = ap (λ z. x ∷ z) (take_all xs)

last_part : (octets body : List ℕ) → slice_range (octets ++ body) (length octets) (length octets + length body) ≡ body
last_part octets body = rw (drop-append_seam octets body, only_part (length octets) (length body)) (take_all body)

same_part : (octets body : List ℕ) (from end : ℕ) → from ≤ end → end ≤ length octets → slice_range (octets ++ body) from end ≡ slice_range octets from end
same_part octets body from end before within =
    let a : drop from (octets ++ body) ≡ drop from octets ++ body = drop-append-le from octets body (omega arith) in
    let b : end - from ≤ length (drop from octets) = rw (length-drop from octets) (omega arith) in
    rw a (take-append-le (end - from) (drop from octets) body b)

-- a frame more stands at the end
pub cut_more : (from : ℕ) (ends octets body : List ℕ) → AreEnds from ends octets
    → cut from (ends ++ (length octets + length body) ∷ []) (octets ++ body) ≡ cut from ends octets ++ body ∷ []
cut_more from [] octets body h = rw h (ap (λ z. z ∷ []) (last_part octets body))
cut_more from (end ∷ ends) octets body h =
    rw (same_part octets body from end h.0 (ends_within end ends octets h.1), cut_more end ends octets body h.1) refl

pub ends_more : (from : ℕ) (ends octets body : List ℕ) → AreEnds from ends octets
    → AreEnds from (ends ++ (length octets + length body) ∷ []) (octets ++ body)
ends_more from [] octets body h = (omega arith, sym (length-append octets body))
ends_more from (end ∷ ends) octets body h = (h.0, ends_more end ends octets body h.1)

-- what stands at a place
pub cut_at : (from : ℕ) (ends octets : List ℕ) (place : ℕ) → place < length ends
    → slice_get (cut from ends octets) place ≡ Some (slice_range octets (start_at from ends place) (slice_index_or ends place 0))
cut_at from [] octets place h = absurd (omega arith)
cut_at from (e ∷ ends) octets zero h = refl
cut_at from (e ∷ ends) octets (suc zero) h = cut_at e ends octets zero (omega arith)
cut_at from (e ∷ ends) octets (suc (suc place)) h = cut_at e ends octets (suc place) (omega arith)

pub bounds_at : (from : ℕ) (ends octets : List ℕ) (place : ℕ) → AreEnds from ends octets → place < length ends
    → (start_at from ends place ≤ slice_index_or ends place 0) × (slice_index_or ends place 0 ≤ length octets)
bounds_at from [] octets place h within = absurd (omega arith)
bounds_at from (e ∷ ends) octets zero h within = (h.0, ends_within e ends octets h.1)
bounds_at from (e ∷ ends) octets (suc zero) h within = bounds_at e ends octets zero h.1 (omega arith)
bounds_at from (e ∷ ends) octets (suc (suc place)) h within = bounds_at e ends octets (suc place) h.1 (omega arith)

pub cut_past : (from : ℕ) (ends octets : List ℕ) (place : ℕ) → length ends ≤ place → slice_get (cut from ends octets) place ≡ None
cut_past from [] octets place h = refl
cut_past from (e ∷ ends) octets zero h = absurd (omega arith)
cut_past from (e ∷ ends) octets (suc place) h = cut_past e ends octets place (omega arith)
