-- Which octets stand for frames (RFC 23, Framing): flags, size and body, one frame behind another, the size in either form.
use Rattle.std.specs.Prelude.{◌≡◌, ℕ, ◌+◌, ◌*◌, ◌/◌, ◌%◌, ◌<◌, ◌≤◌, ◌==◌, List, [], ◌∷◌, ◌++◌, length, Some, None, true, false}
use Rattle.zmtp_frames.specs.declared.frame.Frame.{Frame}
use Rattle.zmtp_frames.specs.declared.frame.Stage.{Stage}
use Rattle.zmtp_frames.specs.declared.frame.Stage.TheVariants.{Between, Sizing, Filling, Ended}
use Rattle.zmtp_frames.specs.declared.fault.FrameFault.TheVariants.{BadFlags, FrameTooLong}
use Rattle.cluster_types.specs.Limits.{body_limit}
use Rattle.zmtp_frames.specs.Stream.{Reading, are_flags, size_width, head_of, begun, up}

-- a number behind others, the highest octet first
abbrev pub number_from : ℕ → List ℕ → ℕ
number_from n [] = n
number_from n (x ∷ xs) = number_from (256 * n + x) xs

-- octets that stand for one frame
pub record IsFrame (octets : List ℕ) (f : Frame) : Type 0 where
  pub flags : ℕ
  pub size : List ℕ
  pub parts : octets ≡ flags ∷ (size ++ f.body)
  pub allowed : are_flags flags ≡ true
  pub more : f.more ≡ (flags % 2 == 1)
  pub command : f.command ≡ (flags / 4 % 2 == 1)
  pub width : length size ≡ size_width flags
  pub value : number_from 0 size ≡ length f.body
  pub limit : length f.body ≤ body_limit

-- the place behind these octets
abbrev pub place_after : ℕ → List ℕ → ℕ
place_after place [] = place
place_after place (x ∷ xs) = place_after (up place) xs

-- octets from this place on that stand for frames
abbrev pub AreFrames : ℕ → List ℕ → List Frame → Type 0
AreFrames place octets [] = octets ≡ []
AreFrames place octets (f ∷ fs) =
    (front : List ℕ) × (rest : List ℕ) × (octets ≡ front ++ rest) × (f.at ≡ place) × IsFrame front f × AreFrames (place_after place front) rest fs

-- octets that begin a frame at this place and don't end it, by what stands unfinished; behind a fault any octets may follow
abbrev pub IsUnfinished : ℕ → List ℕ → Stage → List ℕ → Type 0
IsUnfinished at octets Between body = (octets ≡ []) × (body ≡ [])
IsUnfinished at octets (Sizing head left size) body =
    (flags : ℕ) × (sizes : List ℕ) × (octets ≡ flags ∷ sizes) × (are_flags flags ≡ true) × (head ≡ head_of at flags)
    × (0 < left) × (length sizes + left ≡ size_width flags) × (number_from 0 sizes ≡ size) × (body ≡ [])
IsUnfinished at octets (Filling head size left) body =
    (flags : ℕ) × (sizes : List ℕ) × (octets ≡ flags ∷ (sizes ++ body)) × (are_flags flags ≡ true) × (head ≡ head_of at flags)
    × (length sizes ≡ size_width flags) × (number_from 0 sizes ≡ size) × (size ≤ body_limit) × (0 < left) × (length body + left ≡ size)
IsUnfinished at octets (Ended (BadFlags place) b) body =
    (flags : ℕ) × (more : List ℕ) × (octets ≡ flags ∷ more) × (are_flags flags ≡ false) × (place ≡ at) × (b ≡ begun (head_of at flags) None)
IsUnfinished at octets (Ended (FrameTooLong place) b) body =
    (flags : ℕ) × (sizes : List ℕ) × (more : List ℕ) × (octets ≡ flags ∷ (sizes ++ more)) × (are_flags flags ≡ true)
    × (length sizes ≡ size_width flags) × (body_limit < number_from 0 sizes) × (place ≡ at) × (b ≡ begun (head_of at flags) (Some (number_from 0 sizes)))
IsUnfinished at octets (Ended _ b) body = ⊥

-- the next octet has this place, unless a fault has ended the stream
abbrev pub IsPlaced : Stage → ℕ → ℕ → Type 0
IsPlaced (Ended fault b) place next = Unit {0}
IsPlaced _ place next = place ≡ next

-- all octets from this place on are those of the frames, and then those of the frame that isn't whole or that has the fault
pub record IsReadingOf (place : ℕ) (octets : List ℕ) (r : Reading) (list : List Frame) : Type 0 where
  pub front : List ℕ
  pub rest : List ℕ
  pub parts : octets ≡ front ++ rest
  pub are : AreFrames place front list
  pub left : IsUnfinished (place_after place front) rest r.stage r.body
  pub placed : IsPlaced r.stage r.place (place_after place octets)
