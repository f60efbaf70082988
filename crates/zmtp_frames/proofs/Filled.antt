-- Octets of a body, without its last one.
use Rattle.std.proofs.Common.{◌≡◌, ap, sym, ◌∙◌, ℕ, suc, ◌+◌, ◌-◌, ◌<◌, ◌≤◌, ◌^◌, min, Bool, true, false, List, [], ◌∷◌, ◌++◌, length, take, Option, Some, None, refl, append_assoc, arith}
use Rattle.std.specs.Prelude.{◌==◌, if◌then◌else◌}
use Rattle.std.proofs.lemmas.Bool.{ne_eqb}
use Rattle.std.proofs.lemmas.List.{append-nil, length-take-le}
use Rattle.zmtp_frames.specs.declared.frame.Head.{Head}
use Rattle.zmtp_frames.specs.declared.frame.Frame.{Frame}
use Rattle.zmtp_frames.specs.declared.frame.Stage.{Stage}
use Rattle.zmtp_frames.specs.declared.frame.Stage.TheVariants.{Filling, Between}
use Rattle.zmtp_frames.specs.Stream.{Reading, step, reading_after, frame, up}

-- a body that isn't whole
abbrev pub filling : ℕ → Head → ℕ → ℕ → List ℕ → Reading
filling place head size left body = record { place = place; stage = Filling head size left; body = body }

pub not_last : (left n : ℕ) → suc n < left → (left == 1) ≡ false
not_last left n lt = ne_eqb left 1 (λ e. omega (arith, e, lt))

chosen : {X : Type 0} (b : Bool) (x y : X) → b ≡ false → (if b then x else y) ≡ y
chosen true x y h = cc
chosen false x y h = refl

-- an octet of it that isn't the last one
pub fill_step : (place : ℕ) (head : Head) (size left : ℕ) (body : List ℕ) (x : ℕ) → (left == 1) ≡ false → step (filling place head size left body) x ≡ (filling (up place) head size (left - 1) (body ++ x ∷ []), None)
fill_step place head size left body x off =
    chosen (left == 1) (record { place = up place; stage = Between; body = [] }, Some (frame head (body ++ x ∷ []))) (filling (up place) head size (left - 1) (body ++ x ∷ []), None) off

-- some of them
pub filled : (xs : List ℕ) (place : ℕ) (head : Head) (size left : ℕ) (body : List ℕ) → place ≤ 2 ^ 64 - 1 → length xs < left
    → reading_after (filling place head size left body) xs ≡ filling (min (place + length xs) (2 ^ 64 - 1)) head size (left - length xs) (body ++ xs)
filled [] place head size left body fits lt =
    let same : min (place + 0) (2 ^ 64 - 1) ≡ place = omega (arith, fits) in
    let whole : left - 0 ≡ left = omega arith in
    rw (same, whole, append-nil body) refl
filled (x ∷ xs) place head size left body fits lt =
    let off = not_last left (length xs) lt in
    let next : up place ≤ 2 ^ 64 - 1 = omega arith in
    let less : length xs < left - 1 = omega (arith, lt) in
    let places : min (up place + length xs) (2 ^ 64 - 1) ≡ min (place + suc (length xs)) (2 ^ 64 - 1) = omega (arith, fits) in
    let lefts : left - 1 - length xs ≡ left - suc (length xs) = omega (arith, lt) in
    ap (λ (s : Reading × Option Frame). reading_after s.0 xs) (fill_step place head size left body x off)
    ∙ filled xs (up place) head size (left - 1) (body ++ x ∷ []) next less
    ∙ (rw (places, lefts, append_assoc body (x ∷ []) xs) refl)

pub filled_by : (r : Reading) (piece : List ℕ) (n place : ℕ) (head : Head) (size left : ℕ) (body items : List ℕ) (next : ℕ) → r ≡ filling place head size left body → place ≤ 2 ^ 64 - 1 → n ≤ length piece → n < left
    → next ≡ min (place + n) (2 ^ 64 - 1) → items ≡ body ++ take n piece → filling next head size (left - n) items ≡ reading_after r (take n piece)
filled_by r piece n place head size left body items next is fits some lt up made =
    let long : length (take n piece) ≡ n = length-take-le n piece some in
    let less : length (take n piece) < left = omega (arith, long, lt) in
    sym (ap (λ (q : Reading). reading_after q (take n piece)) is ∙ filled (take n piece) place head size left body fits less
    ∙ (rw (long, sym up, sym made) refl))

pub stage_of : (r : Reading) (place : ℕ) (stage : Stage) (body : List ℕ) (head : Head) (size left : ℕ) → record { place = place; stage = stage; body = body } ≡ r → r.stage ≡ Filling head size left → r ≡ filling place head size left body
stage_of r place stage body head size left is at = sym is ∙ ap (λ (s : Stage). record { place = place; stage = s; body = body }) (ap (λ (q : Reading). q.stage) is ∙ at)
