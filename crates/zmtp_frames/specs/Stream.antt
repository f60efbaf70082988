-- A stream of frames (RFC 23, Framing), octet by octet: a frame is flags, size and body.
use Rattle.std.specs.Prelude.{◌≡◌, ℕ, ◌+◌, ◌-◌, ◌*◌, ◌/◌, ◌%◌, ◌^◌, ◌<◌, ◌≤◌, nat_lt, ◌==◌, min, List, [], ◌∷◌, ◌++◌, Option, Some, None, Bool, not, ◌&&◌, if◌then◌else◌}
use Rattle.cluster_types.specs.Limits.{body_limit}
use Rattle.zmtp_frames.specs.declared.frame.Head.{Head}
use Rattle.zmtp_frames.specs.declared.frame.Frame.{Frame}
use Rattle.zmtp_frames.specs.declared.frame.Begun.{Begun}
use Rattle.zmtp_frames.specs.declared.fault.FrameFault.{FrameFault}
use Rattle.zmtp_frames.specs.declared.fault.FrameFault.TheVariants.{BadFlags, FrameTooLong}
use Rattle.zmtp_frames.specs.declared.frame.Stage.{Stage}
use Rattle.zmtp_frames.specs.declared.frame.Stage.TheVariants.{Between, Sizing, Filling, Ended}

-- what is known between two octets: the place of the next one, what stands unfinished, and its body's octets
pub record Reading : Type 0 where
  pub place : ℕ
  pub stage : Stage
  pub body : List ℕ

-- a count that stays at the end of its type
abbrev pub up : ℕ → ℕ
up n = min (n + 1) (2 ^ 64 - 1)

-- no octet of a frame is there, and the next octet has this place
abbrev pub start : ℕ → Reading
start place = record { place = place; stage = Between; body = [] }

-- bit 0 is MORE, bit 1 LONG, bit 2 COMMAND; no other bit, and no COMMAND with MORE
abbrev pub are_flags : ℕ → Bool
are_flags flags = nat_lt flags 8 && not (flags / 4 == 1 && flags % 2 == 1)

-- how many octets the size has
abbrev pub size_width : ℕ → ℕ
size_width flags = if flags / 2 % 2 == 1 then 8 else 1

abbrev pub head_of : ℕ → ℕ → Head
head_of at flags = record { at = at; more = flags % 2 == 1; command = flags / 4 % 2 == 1 }

abbrev pub begun : Head → Option ℕ → Begun
begun head size = record { at = head.at; more = head.more; command = head.command; size = size }

abbrev pub frame : Head → List ℕ → Frame
frame head body = record { at = head.at; more = head.more; command = head.command; body = body }

-- the stage behind a flags octet
abbrev pub flagged : ℕ → ℕ → Stage
flagged at flags =
    if are_flags flags then Sizing (head_of at flags) (size_width flags) 0
    else Ended (BadFlags at) (begun (head_of at flags) None)

-- the stage behind the last octet of a size
abbrev pub sized : Head → ℕ → Stage
sized head size =
    if nat_lt body_limit size then Ended (FrameTooLong head.at) (begun head (Some size))
    else if size == 0 then Between
    else Filling head size size

-- a frame without a body is whole with its size
abbrev pub whole_at : Head → ℕ → Option Frame
whole_at head size = if size == 0 then Some (frame head []) else None

-- what one octet does, and the frame that it ends
abbrev pub step_at : Stage → ℕ → List ℕ → ℕ → Reading × Option Frame
step_at Between place body x = (record { place = up place; stage = flagged place x; body = body }, None)
step_at (Sizing head left size) place body x =
    if left == 1 then (record { place = up place; stage = sized head (256 * size + x); body = body }, whole_at head (256 * size + x))
    else (record { place = up place; stage = Sizing head (left - 1) (256 * size + x); body = body }, None)
step_at (Filling head size left) place body x =
    if left == 1 then (record { place = up place; stage = Between; body = [] }, Some (frame head (body ++ x ∷ [])))
    else (record { place = up place; stage = Filling head size (left - 1); body = body ++ x ∷ [] }, None)
step_at (Ended fault at) place body x = (record { place = place; stage = Ended fault at; body = body }, None)

abbrev pub step : Reading → ℕ → Reading × Option Frame
step r x = step_at r.stage r.place r.body x

abbrev pub listed : Option Frame → List Frame
listed None = []
listed (Some f) = f ∷ []

-- what is known after these octets
abbrev pub reading_after : Reading → List ℕ → Reading
reading_after r [] = r
reading_after r (x ∷ xs) = reading_after (step r x).0 xs

-- the frames that these octets end
abbrev pub frames : Reading → List ℕ → List Frame
frames r [] = []
frames r (x ∷ xs) = listed (step r x).1 ++ frames (step r x).0 xs

-- the frame that isn't whole
abbrev pub begun_at : Stage → Option Begun
begun_at Between = None
begun_at (Sizing head left size) = Some (begun head None)
begun_at (Filling head size left) = Some (begun head (Some size))
begun_at (Ended fault at) = Some at

-- why no further frame is read
abbrev pub fault_at : Stage → Option FrameFault
fault_at (Ended fault at) = Some fault
fault_at _ = None

-- what the code keeps: octets are still to come, a size fits its type, and no octets of a body stand before it
abbrev pub IsSound : Stage → List ℕ → Type 0
IsSound Between body = body ≡ []
IsSound (Sizing head left size) body = (0 < left) × (left ≤ 8) × ((size + 1) * 256 ^ left ≤ 2 ^ 64) × (body ≡ [])
IsSound (Filling head size left) body = 0 < left
IsSound (Ended fault at) body = Unit {0}

-- the body that began before these frames were read: that of the first of them, or the one that isn't whole
abbrev pub first_body : List Frame → List ℕ → List ℕ
first_body [] body = body
first_body (f ∷ fs) body = f.body

-- so many octets are of a body, and its last one isn't among them; where no body is begun they are none
abbrev pub Fills : Stage → ℕ → Type 0
Fills (Filling head size left) n = n < left
Fills stage n = n ≡ 0
