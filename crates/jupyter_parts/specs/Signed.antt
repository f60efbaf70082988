-- Signed messages (Jupyter messaging 5.3, "The wire protocol"; RFC 2104).
use Rattle.std.specs.Prelude.{◌≡◌, ℕ, ◌&&◌, ◌==◌, Bool, false, List, [], ◌∷◌, ◌++◌, length, find, nat_lt, nat_le, if◌then◌else◌, Option, Some, None, Result, Ok, Err, unwrap_or, bytes_eq, codes}
use Rattle.std.specs.List.{list_any}
use Rattle.hmac_sign.specs.Hmac.{tag_of}
use Rattle.cluster_types.specs.declared.message.Message.{Message}
use Rattle.jupyter_parts.specs.declared.fault.PartsError.{PartsError}
use Rattle.jupyter_parts.specs.declared.fault.PartsError.TheVariants.{NoDelimiter, TooFewParts, BadSignature}

-- the frame between the identity frames and the signature
unfoldable pub delimiter : List ℕ
delimiter = codes "<IDS|MSG>"

abbrev pub is_delimiter : List ℕ → Bool
is_delimiter frame = bytes_eq frame delimiter

-- a frame that can be a target has 1 to 255 octets
abbrev pub is_target : List ℕ → Bool
is_target frame = nat_lt 0 (length frame) && nat_le (length frame) 255

-- the first of the identity frames that can be one, else none
abbrev pub target_of : List (List ℕ) → List ℕ
target_of frames = unwrap_or (find is_target frames) []

-- the signature of header, parent header, metadata and content, under a key
abbrev pub signature : List ℕ → List ℕ → List ℕ → List ℕ → List ℕ → List ℕ
signature key header parent metadata content = tag_of key (header ++ parent ++ metadata ++ content)

-- the frames from the delimiter on: key, header, parent header, metadata, content, buffers
abbrev pub signed_frames : List ℕ → List ℕ → List ℕ → List ℕ → List ℕ → List (List ℕ) → List (List ℕ)
signed_frames key header parent metadata content buffers =
    delimiter ∷ signature key header parent metadata content ∷ header ∷ parent ∷ metadata ∷ content ∷ buffers

-- the frames are a signed form of the message: identity frames, none of which is the delimiter, and behind them the message
pub record IsSigned (key : List ℕ) (frames : List (List ℕ)) (message : Message) : Type 0 where
  pub before : List (List ℕ)
  pub no_delimiter : list_any is_delimiter before ≡ false
  pub in_order : frames ≡ before ++ signed_frames key message.header message.parent message.metadata message.content message.buffers
  pub target : message.target ≡ target_of before

-- the frames before the first delimiter, all where there is none
abbrev pub identities : List (List ℕ) → List (List ℕ)
identities [] = []
identities (frame ∷ frames) = if is_delimiter frame then [] else frame ∷ identities frames

-- the frames behind the first delimiter
abbrev pub behind : List (List ℕ) → Option (List (List ℕ))
behind [] = None
behind (frame ∷ frames) = if is_delimiter frame then Some frames else behind frames

-- the message whose frames behind the delimiter these are, or the first fault
abbrev pub message_in : List ℕ → List ℕ → List (List ℕ) → Result Message PartsError
message_in key target (given ∷ header ∷ parent ∷ metadata ∷ content ∷ buffers) =
    if bytes_eq given (signature key header parent metadata content)
    then Ok (record { target = target; header = header; parent = parent; metadata = metadata; content = content; buffers = buffers })
    else Err (BadSignature given)
message_in key target _ = Err TooFewParts

abbrev pub message_behind : List ℕ → List ℕ → Option (List (List ℕ)) → Result Message PartsError
message_behind key target None = Err NoDelimiter
message_behind key target (Some frames) = message_in key target frames

-- the message that frames are, or the first fault
abbrev pub read_parts : List ℕ → List (List ℕ) → Result Message PartsError
read_parts key frames = message_behind key (target_of (identities frames)) (behind frames)

abbrev pub addressed : List ℕ → List (List ℕ)
addressed target = if length target == 0 then [] else target ∷ []

-- the frames that are written for a message
abbrev pub message_frames : List ℕ → Message → List (List ℕ)
message_frames key message =
    addressed message.target ++ signed_frames key message.header message.parent message.metadata message.content message.buffers
