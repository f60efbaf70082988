-- A frame's octets give this frame, and nothing is begun after them.
use Rattle.std.proofs.Common.{◌≡◌, ℕ, ◌+◌, ◌-◌, ◌*◌, ◌/◌, ◌%◌, ◌<◌, ◌≤◌, Bool, true, false, List, [], ◌∷◌, ◌++◌, length, Option, None, refl, sym, ap, subst, ◌∙◌, append_assoc, arith}
use Rattle.std.specs.Prelude.{nat_lt, ◌==◌, if◌then◌else◌}
use Rattle.std.proofs.lemmas.Bool.{le-ltb}
use Rattle.std.proofs.lemmas.Bool.Decides.{nat_tests}
use Rattle.std.proofs.lemmas.List.{append-nil}
use Rattle.zmtp_frames.specs.declared.frame.Head.{Head}
use Rattle.zmtp_frames.specs.declared.frame.Frame.{Frame}
use Rattle.zmtp_frames.specs.declared.frame.Stage.{Stage}
use Rattle.zmtp_frames.specs.declared.frame.Stage.TheVariants.{Sizing, Filling}
use Rattle.zmtp_frames.specs.Stream.{Reading, start, up, step, listed, reading_after, frames, frame, sized, whole_at, head_of, are_flags, size_width}
use Rattle.zmtp_frames.specs.Grammar.{IsFrame, AreFrames, number_from, place_after}
use Rattle.zmtp_frames.proofs.Pieces.{after_append, frames_append}
use Rattle.cluster_types.proofs.Numbers.{not_zero, not_one, some_width}

pub record Gives (r : Reading) (xs : List ℕ) (new : Reading) (list : List Frame) : Type 0 where
  pub state : reading_after r xs ≡ new
  pub given : frames r xs ≡ list

abbrev at_size : ℕ → Head → ℕ → ℕ → Reading
at_size place head left n = record { place = place; stage = Sizing head left n; body = [] }

abbrev at_body : ℕ → Head → ℕ → ℕ → List ℕ → Reading
at_body place head size left body = record { place = place; stage = Filling head size left; body = body }

size_read : (place : ℕ) (head : Head) (n x : ℕ) (xs : List ℕ)
    → Gives (at_size place head (length (x ∷ xs)) n) (x ∷ xs) (record { place = place_after place (x ∷ xs); stage = sized head (number_from n (x ∷ xs)); body = [] }) (listed (whole_at head (number_from n (x ∷ xs))))
size_read place head n x [] = record { state = refl; given = append-nil (listed (whole_at head (256 * n + x))) }
size_read place head n x (y ∷ ys) =
    let more : (length (x ∷ y ∷ ys) == 1) ≡ false = not_one (length (x ∷ y ∷ ys)) (omega arith) in
    let less : length (x ∷ y ∷ ys) - 1 ≡ length (y ∷ ys) = omega arith in
    let one : step (at_size place head (length (x ∷ y ∷ ys)) n) x ≡ (at_size (up place) head (length (y ∷ ys)) (256 * n + x), None) = rw (more, less) refl in
    let rest = size_read (up place) head (256 * n + x) y ys in
    record {
      state = ap (λ (p : Reading × Option Frame). reading_after p.0 (y ∷ ys)) one ∙ rest.state;
      given = ap (λ (p : Reading × Option Frame). listed p.1 ++ frames p.0 (y ∷ ys)) one ∙ rest.given;
    }

body_read : (place : ℕ) (head : Head) (size : ℕ) (body : List ℕ) (x : ℕ) (xs : List ℕ)
    → Gives (at_body place head size (length (x ∷ xs)) body) (x ∷ xs) (start (place_after place (x ∷ xs))) (frame head (body ++ x ∷ xs) ∷ [])
body_read place head size body x [] = record { state = refl; given = refl }
body_read place head size body x (y ∷ ys) =
    let more : (length (x ∷ y ∷ ys) == 1) ≡ false = not_one (length (x ∷ y ∷ ys)) (omega arith) in
    let less : length (x ∷ y ∷ ys) - 1 ≡ length (y ∷ ys) = omega arith in
    let one : step (at_body place head size (length (x ∷ y ∷ ys)) body) x ≡ (at_body (up place) head size (length (y ∷ ys)) (body ++ x ∷ []), None) = rw (more, less) refl in
    let rest = body_read (up place) head size (body ++ x ∷ []) y ys in
    record {
      state = ap (λ (p : Reading × Option Frame). reading_after p.0 (y ∷ ys)) one ∙ rest.state;
      given = ap (λ (p : Reading × Option Frame). listed p.1 ++ frames p.0 (y ∷ ys)) one ∙ rest.given ∙ ap (λ (b : List ℕ). frame head b ∷ []) (append_assoc body (x ∷ []) (y ∷ ys));
    }

-- what stands behind the size
behind_size : (place : ℕ) (head : Head) (body : List ℕ) → length body ≤ 16777216
    → (reading_after (record { place = place; stage = sized head (length body); body = [] }) body ≡ start (place_after place body)) × (listed (whole_at head (length body)) ++ frames (record { place = place; stage = sized head (length body); body = [] }) body ≡ frame head body ∷ [])
behind_size place head [] le = (refl, refl)
behind_size place head (x ∷ xs) le =
    let small : nat_lt 16777216 (length (x ∷ xs)) ≡ false = le-ltb _ _ le in
    let some : (length (x ∷ xs) == 0) ≡ false = not_zero (length (x ∷ xs)) (omega arith) in
    let is : sized head (length (x ∷ xs)) ≡ Filling head (length (x ∷ xs)) (length (x ∷ xs)) = rw (small, some) refl in
    let none : whole_at head (length (x ∷ xs)) ≡ None = rw some refl in
    let b = body_read place head (length (x ∷ xs)) [] x xs in (
      ap (λ (s : Stage). reading_after (record { place = place; stage = s; body = [] }) (x ∷ xs)) is ∙ b.state,
      ap (λ (o : Option Frame). listed o ++ frames (record { place = place; stage = sized head (length (x ∷ xs)); body = [] }) (x ∷ xs)) none ∙ ap (λ (s : Stage). frames (record { place = place; stage = s; body = [] }) (x ∷ xs)) is ∙ b.given,
    )

pub place_append : (place : ℕ) (xs ys : List ℕ) → place_after place (xs ++ ys) ≡ place_after (place_after place xs) ys
place_append place [] ys = refl
place_append place (x ∷ xs) ys = place_append (up place) xs ys

whole_frame : (at flags : ℕ) (size body : List ℕ) → are_flags flags ≡ true → length size ≡ size_width flags → number_from 0 size ≡ length body → length body ≤ 16777216
    → Gives (start at) (flags ∷ (size ++ body)) (start (place_after at (flags ∷ (size ++ body)))) (frame (head_of at flags) body ∷ [])
whole_frame at flags [] body allowed width value limit = absurd (some_width (flags / 2 % 2 == 1) 0 width refl)
whole_frame at flags (x ∷ xs) body allowed width value limit =
    let head = head_of at flags in
    let begun : step (start at) flags ≡ (at_size (up at) head (length (x ∷ xs)) 0, None) = rw (allowed, width) refl in
    let s = size_read (up at) head 0 x xs in
    let b = behind_size (place_after (up at) (x ∷ xs)) head body limit in
    let sized_is : record { place = place_after (up at) (x ∷ xs); stage = sized head (number_from 0 (x ∷ xs)); body = [] } ≡ record { place = place_after (up at) (x ∷ xs); stage = sized head (length body); body = [] }
    = ap (λ (n : ℕ). record { place = place_after (up at) (x ∷ xs); stage = sized head n; body = [] }) value in
    let state : reading_after (at_size (up at) head (length (x ∷ xs)) 0) (x ∷ xs) ≡ record { place = place_after (up at) (x ∷ xs); stage = sized head (length body); body = [] } = s.state ∙ sized_is in
    record {
      state = ap (λ (p : Reading × Option Frame). reading_after p.0 ((x ∷ xs) ++ body)) begun ∙ after_append (at_size (up at) head (length (x ∷ xs)) 0) (x ∷ xs) body
          ∙ ap (λ (r : Reading). reading_after r body) state ∙ b.0 ∙ ap start (sym (place_append (up at) (x ∷ xs) body));
      given = ap (λ (p : Reading × Option Frame). listed p.1 ++ frames p.0 ((x ∷ xs) ++ body)) begun ∙ frames_append (at_size (up at) head (length (x ∷ xs)) 0) (x ∷ xs) body
          ∙ ap (λ (fs : List Frame). fs ++ frames (reading_after (at_size (up at) head (length (x ∷ xs)) 0) (x ∷ xs)) body) (s.given ∙ ap (λ (n : ℕ). listed (whole_at head n)) value)
          ∙ ap (λ (r : Reading). listed (whole_at head (length body)) ++ frames r body) state ∙ b.1;
    }

-- octets that stand for a frame, read from between two frames, give this frame and stand between two frames again
pub spelled_frame : (octets : List ℕ) (f : Frame) → IsFrame octets f → Gives (start f.at) octets (start (place_after f.at octets)) (f ∷ [])
spelled_frame octets f s =
    let g = whole_frame f.at s.flags s.size f.body s.allowed s.width s.value s.limit in
    let is : frame (head_of f.at s.flags) f.body ≡ f = rw (← s.more, ← s.command) refl in
    subst (λ (xs : List ℕ). Gives (start f.at) xs (start (place_after f.at xs)) (f ∷ [])) (sym s.parts)
    (record { state = g.state; given = g.given ∙ ap (λ (x : Frame). x ∷ []) is })

pub are_read : (place : ℕ) (octets : List ℕ) (list : List Frame) → AreFrames place octets list → Gives (start place) octets (start (place_after place octets)) list
are_read place octets [] e = rw e (record { state = refl; given = refl })
are_read place octets (f ∷ fs) (front, rest, parts, at, is, more) =
    let one = spelled_frame front f is in
    let later = are_read (place_after place front) rest fs more in
    let state : reading_after (start place) front ≡ start (place_after place front) = subst (λ (n : ℕ). reading_after (start n) front ≡ start (place_after n front)) at one.state in
    let given : frames (start place) front ≡ f ∷ [] = subst (λ (n : ℕ). frames (start n) front ≡ f ∷ []) at one.given in
    rw parts (record {
      state = after_append (start place) front rest ∙ ap (λ (r : Reading). reading_after r rest) state ∙ later.state ∙ ap start (sym (place_append place front rest));
      given = frames_append (start place) front rest ∙ ap (λ (xs : List Frame). xs ++ frames (reading_after (start place) front) rest) given ∙ ap (λ (r : Reading). f ∷ frames r rest) state ∙ ap (λ (xs : List Frame). f ∷ xs) later.given;
    })
