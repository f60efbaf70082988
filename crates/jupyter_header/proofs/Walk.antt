-- Steps of a walk that takes fractions of timeouts off.
use Rattle.std.proofs.Common.{◌≡◌, ◌<◌, ◌≤◌, ◌+◌, ◌&&◌, ℕ, List, [], ◌∷◌, ◌++◌, length, take, drop, get_or, true, false, true≢false, arith, refl, sym, ◌∙◌, take-add, drop-drop, length-drop}
use Rattle.std.proofs.lemmas.List.{drop_more, take_more}
use Rattle.cluster_defs.specs.Points.{begins_with_fraction, ends_in_timeout, whole_behind}

-- a fraction is taken off
off : (front text : List ℕ) → (begins_with_fraction text && ends_in_timeout front) ≡ true → whole_behind front text ≡ whole_behind (front ++ take 2 text) (drop 2 text)
off front [] h = absurd (true≢false (sym h))
off front (x ∷ []) h = absurd (true≢false (sym h))
off front (x ∷ y ∷ []) h = absurd (true≢false (sym h))
off front (x ∷ y ∷ z ∷ rest) h = rw h refl

-- any other octet stays
pub on : (front : List ℕ) (x : ℕ) (rest : List ℕ) → (begins_with_fraction (x ∷ rest) && ends_in_timeout front) ≡ false → whole_behind front (x ∷ rest) ≡ x ∷ whole_behind (front ++ x ∷ []) rest
on front x [] h = refl
on front x (y ∷ rest) h = rw h refl

two : (front text : List ℕ) → (begins_with_fraction text && ends_in_timeout front) ≡ true → 2 ≤ length text
two front [] h = absurd (true≢false (sym h))
two front (x ∷ []) h = absurd (true≢false (sym h))
two front (x ∷ y ∷ []) h = absurd (true≢false (sym h))
two front (x ∷ y ∷ z ∷ rest) h = omega arith

pub within : (octets : List ℕ) (at : ℕ) → at ≤ length octets → (begins_with_fraction (drop at octets) && ends_in_timeout (take at octets)) ≡ true → at + 2 ≤ length octets
within octets at inside h = omega (arith, two (take at octets) (drop at octets) h, length-drop at octets)

pub taken_off : (octets : List ℕ) (at : ℕ) → (begins_with_fraction (drop at octets) && ends_in_timeout (take at octets)) ≡ true
    → whole_behind (take at octets) (drop at octets) ≡ whole_behind (take (at + 2) octets) (drop (at + 2) octets)
taken_off octets at h =
    off (take at octets) (drop at octets) h ∙ rw (drop-drop 2 at octets, ← take-add at 2 octets) refl

pub kept : (octets : List ℕ) (at : ℕ) → at < length octets → (begins_with_fraction (drop at octets) && ends_in_timeout (take at octets)) ≡ false
    → whole_behind (take at octets) (drop at octets) ≡ get_or octets at 0 ∷ whole_behind (take (at + 1) octets) (drop (at + 1) octets)
kept octets at inside h =
    let more = drop_more octets at 0 inside in
    let test = rw more at h in
    rw (more, take_more octets at 0 inside) (on (take at octets) (get_or octets at 0) (drop (at + 1) octets) test)
