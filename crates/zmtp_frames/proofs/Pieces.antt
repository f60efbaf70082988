-- Octets one after another.
use Rattle.std.proofs.Common.{◌≡◌, ℕ, List, [], ◌∷◌, ◌++◌, refl, sym, ap, ◌∙◌, append_assoc}
use Rattle.zmtp_frames.specs.declared.frame.Frame.{Frame}
use Rattle.zmtp_frames.specs.Stream.{Reading, step, listed, reading_after, frames}

pub after_append : (r : Reading) (xs ys : List ℕ) → reading_after r (xs ++ ys) ≡ reading_after (reading_after r xs) ys
after_append r [] ys = refl
after_append r (x ∷ xs) ys = after_append (step r x).0 xs ys

pub frames_append : (r : Reading) (xs ys : List ℕ) → frames r (xs ++ ys) ≡ frames r xs ++ frames (reading_after r xs) ys
frames_append r [] ys = refl
frames_append r (x ∷ xs) ys =
    ap (λ (fs : List Frame). listed (step r x).1 ++ fs) (frames_append (step r x).0 xs ys)
    ∙ sym (append_assoc (listed (step r x).1) (frames (step r x).0 xs) (frames (reading_after (step r x).0 xs) ys))
