-- What is written for a frame stands for it.
use Rattle.std.proofs.Common.{◌≡◌, ℕ, ◌+◌, ◌<◌, ◌≤◌, ◌^◌, Bool, true, false, List, [], ◌∷◌, ◌++◌, length, refl, ◌∙◌, arith}
use Rattle.std.specs.Prelude.{nat_le, if◌then◌else◌}
use Rattle.std.specs.Int.{w64, from_be_bytes}
use Rattle.std.proofs.lemmas.Nat.{from_be_bytes-to_be_bytes_8}
use Rattle.edges.specs.Spelling.{be64}
use Rattle.zmtp_frames.specs.declared.frame.Frame.{Frame}
use Rattle.cluster_types.specs.Limits.{body_limit}
use Rattle.zmtp_frames.specs.Grammar.{IsFrame, number_from}
use Rattle.zmtp_frames.specs.Written.{written, more_flag}
use Rattle.edges.proofs.Widths.{be64_width}

eight : (a b c d e f g h : ℕ) → number_from 0 (a ∷ b ∷ c ∷ d ∷ e ∷ f ∷ g ∷ h ∷ []) ≡ from_be_bytes w64 (a ∷ b ∷ c ∷ d ∷ e ∷ f ∷ g ∷ h ∷ [])
eight a b c d e f g h = omega arith

be64_value : (n : ℕ) → n < 2 ^ 64 → number_from 0 (be64 n) ≡ n
unfolding be64
be64_value n lt = eight _ _ _ _ _ _ _ _ ∙ from_be_bytes-to_be_bytes_8 n lt

one_value : (n : ℕ) → number_from 0 (n ∷ []) ≡ n
one_value n = omega arith

abbrev of_message : ℕ → Bool → List ℕ → Frame
of_message at more body = record { at = at; more = more; command = false; body = body }

short : (at : ℕ) (more : Bool) (body : List ℕ) → length body ≤ body_limit → IsFrame (more_flag more ∷ length body ∷ body) (of_message at more body)
short at true body limit =
    record { flags = 1; size = length body ∷ []; parts = refl; allowed = refl; more = refl; command = refl; width = refl; value = one_value (length body); limit = limit }
short at false body limit =
    record { flags = 0; size = length body ∷ []; parts = refl; allowed = refl; more = refl; command = refl; width = refl; value = one_value (length body); limit = limit }

long : (at : ℕ) (more : Bool) (body : List ℕ) → length body ≤ body_limit → IsFrame ((more_flag more + 2) ∷ (be64 (length body) ++ body)) (of_message at more body)
long at true body limit =
    let fits : length body < 2 ^ 64 = omega (arith, limit) in
    record { flags = 3; size = be64 (length body); parts = refl; allowed = refl; more = refl; command = refl; width = be64_width (length body); value = be64_value (length body) fits; limit = limit }
long at false body limit =
    let fits : length body < 2 ^ 64 = omega (arith, limit) in
    record { flags = 2; size = be64 (length body); parts = refl; allowed = refl; more = refl; command = refl; width = be64_width (length body); value = be64_value (length body) fits; limit = limit }

either : (b : Bool) (xs ys body : List ℕ) (f : Frame) → IsFrame (xs ++ body) f → IsFrame (ys ++ body) f → IsFrame ((if b then xs else ys) ++ body) f
either true xs ys body f first other = first
either false xs ys body f first other = other

pub written_frame : (at : ℕ) (more : Bool) (body : List ℕ) → length body ≤ body_limit → IsFrame (written more body) (record { at = at; more = more; command = false; body = body })
written_frame at more body limit = either (nat_le (length body) 255) _ _ _ _ (short at more body limit) (long at more body limit)
