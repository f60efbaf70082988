-- The octets of a body that began before a call stand in the first frame that the call gives, or are still there.
use Rattle.std.proofs.Common.{◌≡◌, ℕ, Bool, true, false, List, [], ◌∷◌, ◌++◌, Option, Some, None, refl, subst, sym}
use Rattle.std.specs.Prelude.{◌+◌, ◌*◌, ◌-◌, ◌==◌, if◌then◌else◌}
use Rattle.std.proofs.lemmas.List.{append-nil}
use Rattle.zmtp_frames.specs.declared.frame.Head.{Head}
use Rattle.zmtp_frames.specs.declared.frame.Frame.{Frame}
use Rattle.zmtp_frames.specs.declared.frame.Stage.{Stage}
use Rattle.zmtp_frames.specs.declared.frame.Stage.TheVariants.{Between, Sizing, Filling, Ended}
use Rattle.zmtp_frames.specs.Stream.{Reading, step, step_at, listed, first_body, IsSound, whole_at, frame, sized, up}

abbrev pub Kept : List Frame → List ℕ → List ℕ → Type 0
Kept list before body = (rest : List ℕ) × (first_body list body ≡ before ++ rest)

same : (body : List ℕ) → Kept [] body body
same body = ([], sym (append-nil body))

empty_frame : (head : Head) (size : ℕ) (b : Bool) → Kept (listed (if b then Some (frame head []) else None)) [] []
empty_frame head size true = ([], refl)
empty_frame head size false = ([], refl)

-- an octet's outcome keeps the body
abbrev KeptBy : List ℕ → Reading × Option Frame → Type 0
KeptBy body s = Kept (listed s.1) body s.0.body

either : (body : List ℕ) (b : Bool) (p q : Reading × Option Frame) → KeptBy body p → KeptBy body q → KeptBy body (if b then p else q)
either body true p q one other = one
either body false p q one other = other

first : (stage : Stage) (place : ℕ) (body : List ℕ) (x : ℕ) → IsSound stage body → KeptBy body (step_at stage place body x)
first Between place body x sound = same body
first (Sizing head left size) place body x sound =
    subst (λ (b : List ℕ). KeptBy b (step_at (Sizing head left size) place b x)) (sym sound.3)
    (either [] (left == 1) (record { place = up place; stage = sized head (256 * size + x); body = [] }, whole_at head (256 * size + x)) (record { place = up place; stage = Sizing head (left - 1) (256 * size + x); body = [] }, None) (empty_frame head size (256 * size + x == 0)) ([], refl))
first (Filling head size left) place body x sound =
    either body (left == 1) (record { place = up place; stage = Between; body = [] }, Some (frame head (body ++ x ∷ []))) (record { place = up place; stage = Filling head size (left - 1); body = body ++ x ∷ [] }, None) (x ∷ [], refl) (x ∷ [], refl)
first (Ended fault at) place body x sound = same body

pub step_keeps : (list : List Frame) (r : Reading) (x : ℕ) → IsSound r.stage r.body
    → (rest : List ℕ) × (first_body (list ++ listed (step r x).1) (step r x).0.body ≡ first_body list r.body ++ rest)
step_keeps [] r x sound = first r.stage r.place r.body x sound
step_keeps (f ∷ fs) r x sound = ([], sym (append-nil f.body))

pub step_kept : (list new : List Frame) (r next : Reading) (o : Option Frame) (x : ℕ) → IsSound r.stage r.body → step r x ≡ (next, o) → new ≡ list ++ listed o
    → (rest : List ℕ) × (first_body new next.body ≡ first_body list r.body ++ rest)
step_kept list new r next o x sound is now =
    let k = step_keeps list r x sound in
    (k.0, rw now (subst (λ (s : Reading × Option Frame). first_body (list ++ listed s.1) s.0.body ≡ first_body list r.body ++ k.0) is k.1))
