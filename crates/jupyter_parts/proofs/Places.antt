-- What stands at a place of a list of frames, and what that means for the delimiter and the parts.
use Rattle.std.proofs.Common.{◌≡◌, ◌<◌, ◌+◌, ℕ, zero, suc, List, [], ◌∷◌, ◌++◌, length, take, drop, find, slice_get, Some, Err, true, false, bytes_eq, arith, refl, ap, add-one}
use Rattle.jupyter_parts.specs.Signed.{is_delimiter, identities, behind, is_target, signature, message_in}
use Rattle.jupyter_parts.specs.declared.fault.PartsError.TheVariants.{TooFewParts, BadSignature}
use Rattle.cluster_types.proofs.Lists.{front_at}

rest_at : {A : Type 0} (xs : List A) (i : ℕ) (x : A) → slice_get xs i ≡ Some x → drop i xs ≡ x ∷ drop (suc i) xs
rest_at [] i x h = cc
rest_at (y ∷ ys) zero x h = cc
rest_at (y ∷ ys) (suc i) x h = rest_at ys i x h

pub rest_from : {A : Type 0} (xs : List A) (i : ℕ) (x : A) → slice_get xs i ≡ Some x → (next : ℕ) → next ≡ i + 1 → drop i xs ≡ x ∷ drop next xs
rest_from xs i x h next e = rw (e, add-one) (rest_at xs i x h)

pub front_to : {A : Type 0} (xs : List A) (i : ℕ) (x : A) → slice_get xs i ≡ Some x → (next : ℕ) → next ≡ i + 1 → take next xs ≡ take i xs ++ x ∷ []
front_to xs i x h next e = rw (e, add-one) (front_at xs i x h)

inner_at : {A : Type 0} (xs : List A) (i end : ℕ) (x : A) → slice_get xs i ≡ Some x → i < end → drop i (take end xs) ≡ x ∷ drop (suc i) (take end xs)
inner_at [] i end x h inside = cc
inner_at (y ∷ ys) i zero x h inside = absurd (omega arith)
inner_at (y ∷ ys) zero (suc end) x h inside = cc
inner_at (y ∷ ys) (suc i) (suc end) x h inside = inner_at ys i end x h (omega arith)

pub inner_from : {A : Type 0} (xs : List A) (i : ℕ) (x : A) → slice_get xs i ≡ Some x → (next end : ℕ) → next ≡ i + 1 → i < end → drop i (take end xs) ≡ x ∷ drop next (take end xs)
inner_from xs i x h next end e inside = rw (e, add-one) (inner_at xs i end x h inside)

pub stops : (frame : List ℕ) (rest : List (List ℕ)) → is_delimiter frame ≡ true → identities (frame ∷ rest) ≡ []
stops frame rest h = rw h refl

pub goes_on : (frame : List ℕ) (rest : List (List ℕ)) → is_delimiter frame ≡ false → identities (frame ∷ rest) ≡ frame ∷ identities rest
goes_on frame rest h = rw h refl

pub looks_on : (frame : List ℕ) (rest : List (List ℕ)) → is_delimiter frame ≡ false → behind (frame ∷ rest) ≡ behind rest
looks_on frame rest h = rw h refl

pub found : (frame : List ℕ) (rest : List (List ℕ)) → is_target frame ≡ true → find is_target (frame ∷ rest) ≡ Some frame
found frame rest h = rw h refl

pub too_few : (key target : List ℕ) (rest : List (List ℕ)) → length rest < 5 → message_in key target rest ≡ Err TooFewParts
too_few key target [] short = refl
too_few key target (a ∷ []) short = refl
too_few key target (a ∷ b ∷ []) short = refl
too_few key target (a ∷ b ∷ c ∷ []) short = refl
too_few key target (a ∷ b ∷ c ∷ d ∷ []) short = refl
too_few key target (a ∷ b ∷ c ∷ d ∷ e ∷ rest) short = absurd (omega arith)

pub not_signed : (key target given header parent metadata content : List ℕ) (rest : List (List ℕ)) → bytes_eq given (signature key header parent metadata content) ≡ false
    → message_in key target (given ∷ header ∷ parent ∷ metadata ∷ content ∷ rest) ≡ Err (BadSignature given)
not_signed key target given header parent metadata content rest h = rw h refl
