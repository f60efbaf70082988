-- The frames given are those that the octets stand for, up to the one that isn't whole.
use Rattle.std.proofs.Common.{◌≡◌, ℕ, ◌+◌, ◌-◌, ◌*◌, ◌/◌, ◌%◌, ◌<◌, ◌≤◌, Bool, true, false, List, [], ◌∷◌, ◌++◌, length, Option, Some, None, refl, sym, ap, subst, ◌∙◌, append_assoc, arith, nat_lt}
use Rattle.std.specs.Prelude.{◌==◌, if◌then◌else◌}
use Rattle.std.proofs.lemmas.Bool.Decides.{nat_tests}
use Rattle.std.proofs.lemmas.List.{append-nil, length-append}
use Rattle.zmtp_frames.specs.declared.frame.Head.{Head}
use Rattle.zmtp_frames.specs.declared.frame.Frame.{Frame}
use Rattle.zmtp_frames.specs.declared.frame.Stage.{Stage}
use Rattle.zmtp_frames.specs.declared.frame.Stage.TheVariants.{Between, Sizing, Filling, Ended}
use Rattle.zmtp_frames.specs.declared.frame.Begun.{Begun}
use Rattle.zmtp_frames.specs.declared.fault.FrameFault.{FrameFault}
use Rattle.zmtp_frames.specs.declared.fault.FrameFault.TheVariants.{BadSignature, BadVersion, BadMechanism, BadFlags, FrameTooLong}
use Rattle.cluster_types.specs.Limits.{body_limit}
use Rattle.zmtp_frames.specs.Stream.{Reading, start, up, step, listed, reading_after, frames, frame, begun, sized, whole_at, head_of, flagged, are_flags, size_width}
use Rattle.zmtp_frames.specs.Grammar.{IsFrame, AreFrames, IsUnfinished, IsPlaced, IsReadingOf, number_from, place_after}
use Rattle.zmtp_frames.proofs.Whole.{place_append}
use Rattle.cluster_types.proofs.Numbers.{above_zero}

either_of : {A : Type 0} (P : A → Type 0) (b : Bool) (p q : A) → (b ≡ true → P p) → (b ≡ false → P q) → P (if b then p else q)
either_of P true p q f g = f refl
either_of P false p q f g = g refl

number_append : (n : ℕ) (xs : List ℕ) (x : ℕ) → number_from n (xs ++ x ∷ []) ≡ 256 * number_from n xs + x
number_append n [] x = refl
number_append n (y ∷ ys) x = number_append (256 * n + y) ys x

none_before : (n : ℕ) → length {A = ℕ} [] + n ≡ n
none_before n = omega arith

one_more : (xs : List ℕ) (x : ℕ) → length (xs ++ x ∷ []) ≡ length xs + 1
one_more xs x = length-append xs (x ∷ [])

-- one frame more
are_more : (place : ℕ) (octets : List ℕ) (list : List Frame) → AreFrames place octets list → (f : Frame) (piece : List ℕ)
    → f.at ≡ place_after place octets → IsFrame piece f → AreFrames place (octets ++ piece) (list ++ f ∷ [])
are_more place octets [] e f piece at is =
    subst (λ (xs : List ℕ). AreFrames place (xs ++ piece) (f ∷ [])) (sym e) (piece, [], sym (append-nil piece), at ∙ ap (place_after place) e, is, refl)
are_more place octets (g ∷ gs) (front, rest, parts, first, is-first, more) f piece at is = (
  front,
  rest ++ piece,
  ap (λ (xs : List ℕ). xs ++ piece) parts ∙ append_assoc front rest piece,
  first,
  is-first,
  are_more (place_after place front) rest gs more f piece (at ∙ ap (place_after place) parts ∙ place_append place front rest) is,
)

-- what one octet makes of a reading
abbrev Next : ℕ → List ℕ → List Frame → Reading × Option Frame → Type 0
Next place octets list s = IsReadingOf place octets s.0 (list ++ listed s.1)

-- no frame is whole with it
stays : (place : ℕ) (octets : List ℕ) (x : ℕ) (r : Reading) (list : List Frame) (k : IsReadingOf place octets r list) (new : Reading)
    → IsUnfinished (place_after place k.front) (k.rest ++ x ∷ []) new.stage new.body → IsPlaced new.stage new.place (place_after place (octets ++ x ∷ []))
    → Next place (octets ++ x ∷ []) list (new, None)
stays place octets x r list k new left placed = record {
  front = k.front;
  rest = k.rest ++ x ∷ [];
  parts = ap (λ (xs : List ℕ). xs ++ x ∷ []) k.parts ∙ append_assoc k.front k.rest (x ∷ []);
  are = rw (append-nil list) k.are;
  left = left;
  placed = placed;
}

-- it ends this frame
ends : (place : ℕ) (octets : List ℕ) (x : ℕ) (r : Reading) (list : List Frame) (k : IsReadingOf place octets r list) (next : ℕ) (f : Frame)
    → f.at ≡ place_after place k.front → IsFrame (k.rest ++ x ∷ []) f → next ≡ place_after place (octets ++ x ∷ [])
    → Next place (octets ++ x ∷ []) list (record { place = next; stage = Between; body = [] }, Some f)
ends place octets x r list k next f at is placed = record {
  front = k.front ++ (k.rest ++ x ∷ []);
  rest = [];
  parts = ap (λ (xs : List ℕ). xs ++ x ∷ []) k.parts ∙ append_assoc k.front k.rest (x ∷ []) ∙ sym (append-nil (k.front ++ (k.rest ++ x ∷ [])));
  are = are_more place k.front list k.are f (k.rest ++ x ∷ []) at is;
  left = (refl, refl);
  placed = placed;
}

wide_by : (b : Bool) → 0 < (if b then 8 else 1)
wide_by true = omega arith
wide_by false = omega arith

wide : (x : ℕ) → 0 < size_width x
wide x = wide_by (x / 2 % 2 == 1)

up_after : (place : ℕ) (octets : List ℕ) (x n : ℕ) → n ≡ place_after place octets → up n ≡ place_after place (octets ++ x ∷ [])
up_after place octets x n e = ap up e ∙ sym (place_append place octets (x ∷ []))

between : (place : ℕ) (octets : List ℕ) (x p : ℕ) (body : List ℕ) (list : List Frame) (k : IsReadingOf place octets (record { place = p; stage = Between; body = body }) list)
    → Next place (octets ++ x ∷ []) list (step (record { place = p; stage = Between; body = body }) x)
between place octets x p body list k =
    let none : k.rest ≡ [] = k.left.0 in
    let whole : octets ≡ k.front = k.parts ∙ ap (λ (xs : List ℕ). k.front ++ xs) none ∙ append-nil k.front in
    let at : p ≡ place_after place k.front = k.placed ∙ ap (place_after place) whole in
    let rest : k.rest ++ x ∷ [] ≡ x ∷ [] = ap (λ (xs : List ℕ). xs ++ x ∷ []) none in
    let next = up_after place octets x p k.placed in
    stays place octets x _ list k (record { place = up p; stage = flagged p x; body = body })
    (rw (rest, at, k.left.1) (either_of (λ (s : Stage). IsUnfinished (place_after place k.front) (x ∷ []) s []) (are_flags x)
    (Sizing (head_of (place_after place k.front) x) (size_width x) 0) (Ended (BadFlags (place_after place k.front)) (begun (head_of (place_after place k.front) x) None))
    (λ h. (x, [], refl, h, refl, wide x, none_before (size_width x), refl, refl)) (λ h. (x, [], refl, h, refl, refl))))
    (either_of (λ (s : Stage). IsPlaced s (up p) (place_after place (octets ++ x ∷ []))) (are_flags x) (Sizing (head_of p x) (size_width x) 0) (Ended (BadFlags p) (begun (head_of p x) None))
    (λ h. next) (λ h. tt))

zero_from_test : (n : ℕ) → (n == 0) ≡ true → n ≡ 0
zero_from_test n e = grind (arith, nat_tests)

one_from_test : (n : ℕ) → (n == 1) ≡ true → n ≡ 1
one_from_test n e = grind (arith, nat_tests)

more_from_test : (n : ℕ) → 0 < n → (n == 1) ≡ false → 0 < n - 1
more_from_test n some e = grind (arith, nat_tests)

less_from_test : (a b : ℕ) → nat_lt a b ≡ true → a < b
less_from_test a b e = grind (arith, nat_tests)

at_most_from_test : (a b : ℕ) → nat_lt a b ≡ false → b ≤ a
at_most_from_test a b e = grind (arith, nat_tests)

sized_by_tests : (P : Stage → Option Frame → Type 0) (head : Head) (n : ℕ) (long empty : Bool) → nat_lt body_limit n ≡ long → (n == 0) ≡ empty
    → (body_limit < n → P (Ended (FrameTooLong head.at) (begun head (Some n))) None) → (n ≡ 0 → P Between (Some (frame head []))) → (n ≤ body_limit → 0 < n → P (Filling head n n) None)
    → P (if long then Ended (FrameTooLong head.at) (begun head (Some n)) else if empty then Between else Filling head n n) (if empty then Some (frame head []) else None)
sized_by_tests P head n true true l e f g h =
    let less = less_from_test body_limit n l in
    let none = zero_from_test n e in
    absurd (omega (arith, less, none))
sized_by_tests P head n true false l e f g h = f (less_from_test body_limit n l)
sized_by_tests P head n false true l e f g h = g (zero_from_test n e)
sized_by_tests P head n false false l e f g h = h (at_most_from_test body_limit n l) (above_zero n e)

-- the last octet of a size
sized_by : (place : ℕ) (octets : List ℕ) (x p size : ℕ) (head : Head) (body : List ℕ) (list : List Frame) (k : IsReadingOf place octets (record { place = p; stage = Sizing head 1 size; body = body }) list)
    → Next place (octets ++ x ∷ []) list (record { place = up p; stage = sized head (256 * size + x); body = body }, whole_at head (256 * size + x))
sized_by place octets x p size head body list k =
    let (flags, sizes, is, allowed, head-is, some, width, value, no-body) = k.left in
    let next = up_after place octets x p k.placed in
    let at = place_after place k.front in
    let n = 256 * size + x in
    let number : number_from 0 (sizes ++ x ∷ []) ≡ n = number_append 0 sizes x ∙ ap (λ (m : ℕ). 256 * m + x) value in
    let parts : k.rest ++ x ∷ [] ≡ flags ∷ (sizes ++ x ∷ []) = ap (λ (xs : List ℕ). xs ++ x ∷ []) is in
    let whole : length (sizes ++ x ∷ []) ≡ size_width flags = one_more sizes x ∙ width in
    let long : body_limit < n → Next place (octets ++ x ∷ []) list (record { place = up p; stage = Ended (FrameTooLong head.at) (begun head (Some n)); body = [] }, None) = λ h.
    stays place octets x _ list k (record { place = up p; stage = Ended (FrameTooLong head.at) (begun head (Some n)); body = [] })
    (flags, sizes ++ x ∷ [], [], parts ∙ ap (λ (xs : List ℕ). flags ∷ xs) (sym (append-nil (sizes ++ x ∷ []))), allowed, whole, subst (λ (m : ℕ). body_limit < m) (sym number) h, ap (λ (d : Head). d.at) head-is, rw (number, head-is) refl) tt in
    let empty : n ≡ 0 → Next place (octets ++ x ∷ []) list (record { place = up p; stage = Between; body = [] }, Some (frame head [])) = λ h.
    ends place octets x _ list k (up p) (frame head []) (ap (λ (d : Head). d.at) head-is)
    (record {
      flags = flags;
      size = sizes ++ x ∷ [];
      parts = parts ∙ ap (λ (xs : List ℕ). flags ∷ xs) (sym (append-nil (sizes ++ x ∷ [])));
      allowed = allowed;
      more = ap (λ (d : Head). d.more) head-is;
      command = ap (λ (d : Head). d.command) head-is;
      width = whole;
      value = number ∙ h;
      limit = omega arith;
    }) next in
    let fill : n ≤ body_limit → 0 < n → Next place (octets ++ x ∷ []) list (record { place = up p; stage = Filling head n n; body = [] }, None) = λ small some.
    stays place octets x _ list k (record { place = up p; stage = Filling head n n; body = [] })
    (flags, sizes ++ x ∷ [], parts ∙ ap (λ (xs : List ℕ). flags ∷ xs) (sym (append-nil (sizes ++ x ∷ []))), allowed, head-is, whole, number, small, some, none_before n) next in
    subst (λ (b : List ℕ). Next place (octets ++ x ∷ []) list (record { place = up p; stage = sized head n; body = b }, whole_at head n)) (sym no-body)
    (sized_by_tests (λ (s : Stage) (o : Option Frame). Next place (octets ++ x ∷ []) list (record { place = up p; stage = s; body = [] }, o)) head n (nat_lt body_limit n) (n == 0) refl refl long empty fill)

-- an octet of a size
sizing : (place : ℕ) (octets : List ℕ) (x p left size : ℕ) (head : Head) (body : List ℕ) (list : List Frame) (k : IsReadingOf place octets (record { place = p; stage = Sizing head left size; body = body }) list)
    → Next place (octets ++ x ∷ []) list (step (record { place = p; stage = Sizing head left size; body = body }) x)
sizing place octets x p left size head body list k =
    let (flags, sizes, is, allowed, head-is, some, width, value, no-body) = k.left in
    let next = up_after place octets x p k.placed in
    either_of (Next place (octets ++ x ∷ []) list) (left == 1) (record { place = up p; stage = sized head (256 * size + x); body = body }, whole_at head (256 * size + x)) (record { place = up p; stage = Sizing head (left - 1) (256 * size + x); body = body }, None)
    (λ h. sized_by place octets x p size head body list (subst (λ (l : ℕ). IsReadingOf place octets (record { place = p; stage = Sizing head l size; body = body }) list) (one_from_test left h) k))
    (λ h. stays place octets x _ list k (record { place = up p; stage = Sizing head (left - 1) (256 * size + x); body = body })
    (flags, sizes ++ x ∷ [], ap (λ (xs : List ℕ). xs ++ x ∷ []) is, allowed, head-is, more_from_test left some h, omega (arith, one_more sizes x, width, some), number_append 0 sizes x ∙ ap (λ (m : ℕ). 256 * m + x) value, no-body) next)

-- an octet of a body
filling : (place : ℕ) (octets : List ℕ) (x p left size : ℕ) (head : Head) (body : List ℕ) (list : List Frame) (k : IsReadingOf place octets (record { place = p; stage = Filling head size left; body = body }) list)
    → Next place (octets ++ x ∷ []) list (step (record { place = p; stage = Filling head size left; body = body }) x)
filling place octets x p left size head body list k =
    let (flags, sizes, is, allowed, head-is, whole, value, small, some, held) = k.left in
    let next = up_after place octets x p k.placed in
    let parts : k.rest ++ x ∷ [] ≡ flags ∷ (sizes ++ (body ++ x ∷ [])) = ap (λ (xs : List ℕ). xs ++ x ∷ []) is ∙ ap (λ (xs : List ℕ). flags ∷ xs) (append_assoc sizes body (x ∷ [])) in
    either_of (Next place (octets ++ x ∷ []) list) (left == 1) (record { place = up p; stage = Between; body = [] }, Some (frame head (body ++ x ∷ []))) (record { place = up p; stage = Filling head size (left - 1); body = body ++ x ∷ [] }, None)
    (λ h. let last = one_from_test left h in ends place octets x _ list k (up p) (frame head (body ++ x ∷ [])) (ap (λ (d : Head). d.at) head-is)
    (record {
      flags = flags;
      size = sizes;
      parts = parts;
      allowed = allowed;
      more = ap (λ (d : Head). d.more) head-is;
      command = ap (λ (d : Head). d.command) head-is;
      width = whole;
      value = omega (arith, one_more body x, value, held, last);
      limit = omega (arith, one_more body x, small, held, last);
    }) next)
    (λ h. stays place octets x _ list k (record { place = up p; stage = Filling head size (left - 1); body = body ++ x ∷ [] })
    (flags, sizes, parts, allowed, head-is, whole, value, small, more_from_test left some h, omega (arith, one_more body x, held, some)) next)

-- an octet behind a fault
ended : (place : ℕ) (octets : List ℕ) (x p : ℕ) (fault : FrameFault) (b : Begun) (body : List ℕ) (list : List Frame) (k : IsReadingOf place octets (record { place = p; stage = Ended fault b; body = body }) list)
    → Next place (octets ++ x ∷ []) list (record { place = p; stage = Ended fault b; body = body }, None)
ended place octets x p (BadFlags at) b body list k =
    let (flags, more, is, bad, at-is, b-is) = k.left in
    stays place octets x _ list k (record { place = p; stage = Ended (BadFlags at) b; body = body }) (flags, more ++ x ∷ [], ap (λ (xs : List ℕ). xs ++ x ∷ []) is, bad, at-is, b-is) tt
ended place octets x p (FrameTooLong at) b body list k =
    let (flags, sizes, more, is, allowed, width, long, at-is, b-is) = k.left in
    stays place octets x _ list k (record { place = p; stage = Ended (FrameTooLong at) b; body = body })
    (flags, sizes, more ++ x ∷ [], ap (λ (xs : List ℕ). xs ++ x ∷ []) is ∙ ap (λ (xs : List ℕ). flags ∷ xs) (append_assoc sizes more (x ∷ [])), allowed, width, long, at-is, b-is) tt
ended place octets x p (BadSignature at) b body list k = absurd k.left
ended place octets x p (BadVersion at) b body list k = absurd k.left
ended place octets x p (BadMechanism at) b body list k = absurd k.left

one_octet : (place : ℕ) (octets : List ℕ) (x : ℕ) (stage : Stage) (p : ℕ) (body : List ℕ) (list : List Frame) → IsReadingOf place octets (record { place = p; stage = stage; body = body }) list
    → Next place (octets ++ x ∷ []) list (step (record { place = p; stage = stage; body = body }) x)
one_octet place octets x Between p body list k = between place octets x p body list k
one_octet place octets x (Sizing head left size) p body list k = sizing place octets x p left size head body list k
one_octet place octets x (Filling head size left) p body list k = filling place octets x p left size head body list k
one_octet place octets x (Ended fault b) p body list k = ended place octets x p fault b body list k

all_octets : (place : ℕ) (octets more : List ℕ) (r : Reading) (list : List Frame) → IsReadingOf place octets r list → IsReadingOf place (octets ++ more) (reading_after r more) (list ++ frames r more)
all_octets place octets [] r list k = rw (append-nil octets, append-nil list) k
all_octets place octets (x ∷ xs) r list k =
    let n = all_octets place (octets ++ x ∷ []) xs (step r x).0 (list ++ listed (step r x).1) (one_octet place octets x r.stage r.place r.body list k) in
    rw (← append_assoc octets (x ∷ []) xs, ← append_assoc list (listed (step r x).1) (frames (step r x).0 xs)) n

pub all_read : (place : ℕ) (octets : List ℕ) → IsReadingOf place octets (reading_after (start place) octets) (frames (start place) octets)
all_read place octets = all_octets place [] octets (start place) [] (record { front = []; rest = []; parts = refl; are = refl; left = (refl, refl); placed = refl })
