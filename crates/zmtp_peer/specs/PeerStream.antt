-- What a peer's stream gives (RFC 23): a greeting, a handshake by the NULL mechanism, then traffic, octet by octet.
use Rattle.std.specs.Prelude.{◌≡◌, ℕ, ◌+◌, nat_lt, ◌==◌, List, [], ◌∷◌, ◌++◌, length, codes, bytes_eq, Option, Some, None, Bool, true, false, ◌||◌, if◌then◌else◌}
use Rattle.std.specs.Option.{unwrap_or}
use Rattle.cluster_types.specs.Limits.{most_frames, message_limit}
use Rattle.zmtp_frames.specs.declared.frame.Frame.{Frame}
use Rattle.zmtp_frames.specs.declared.frame.Begun.{Begun}
use Rattle.zmtp_frames.specs.declared.fault.FrameFault.{FrameFault}
use Rattle.zmtp_frames.specs.declared.command.Command.{Command}
use Rattle.zmtp_frames.specs.declared.command.Command.TheVariants.{Ready, Error, Other}
use Rattle.zmtp_frames.specs.Stream.{Reading, start, step, begun_at, fault_at}
use Rattle.zmtp_frames.specs.Greeting.{greeting_fault, own_greeting}
use Rattle.zmtp_frames.specs.Command.{command_of}
use Rattle.zmtp_frames.specs.Written.{own_ready, written_error}
use Rattle.zmtp_peer.specs.declared.fault.PeerFault.{PeerFault}
use Rattle.zmtp_peer.specs.declared.fault.PeerFault.TheVariants.{Frame as FrameFaulty, BadCommand, BadSocketType, NoReady, PeerError, MessageTooLong}
use Rattle.zmtp_peer.specs.declared.phase.Phase.{Phase}
use Rattle.zmtp_peer.specs.declared.phase.Phase.TheVariants.{Greeting, Handshake, Traffic, Ended}
use Rattle.zmtp_peer.specs.declared.phase.Heard.{Heard}
use Rattle.zmtp_peer.specs.declared.phase.Gave.{Gave}
use Rattle.zmtp_peer.specs.Message.{body_octets}

-- all that is known between two octets: the phase, the octets of the greeting, the frames behind it, and the bodies of
-- the message that isn't whole
pub record Talk : Type 0 where
  pub phase : Phase
  pub greeting : List ℕ
  pub reader : Reading
  pub parts : List (List ℕ)

-- nothing came; the first frame stands behind the 64 octets of the greeting
abbrev pub begins : Talk
begins = record { phase = Greeting; greeting = []; reader = start 64; parts = [] }

-- ---- faults

-- a size with which a message has too many octets
abbrev pub size_fault : ℕ → List (List ℕ) → Option ℕ → Option PeerFault
size_fault at parts None = None
size_fault at parts (Some size) = if nat_lt message_limit (body_octets parts + size) then Some (MessageTooLong at) else None

-- what the flags and the size of a frame show, once they are there: in the handshake it has to be a command; a command
-- doesn't stand inside a message
abbrev pub begun_fault : Phase → List (List ℕ) → Option Begun → Option PeerFault
begun_fault Handshake parts (Some b) = if b.command then None else Some (NoReady b.at)
begun_fault Traffic parts (Some b) =
    if b.command then if length parts == 0 then None else Some (BadCommand b.at)
    else if nat_lt (length parts) most_frames then size_fault b.at parts b.size
    else Some (MessageTooLong b.at)
begun_fault _ parts _ = None

-- a frame's own fault comes first
abbrev pub first_fault : Option FrameFault → Option PeerFault → Option PeerFault
first_fault (Some fault) other = Some (FrameFaulty fault)
first_fault None other = other

abbrev pub ended_by : Phase → Option PeerFault → Phase
ended_by phase None = phase
ended_by phase (Some fault) = Ended fault

-- ---- the handshake

abbrev pub is_served : List ℕ → Bool
is_served socket_type = bytes_eq socket_type (codes "DEALER") || bytes_eq socket_type (codes "ROUTER")

-- the octets that refuse a socket type
abbrev pub refusal : List ℕ
refusal = written_error (codes "Socket-Type")

abbrev pub quiet : Phase → Heard
quiet phase = record { phase = phase; send = []; ready = None; message = None }

-- what the first command does: READY of a socket type that is served ends the handshake, with its identity
abbrev pub shaken : ℕ → Option Command → Heard
shaken at None = quiet (Ended (BadCommand at))
shaken at (Some Other) = quiet (Ended (NoReady at))
shaken at (Some (Error reason)) = quiet (Ended (PeerError at))
shaken at (Some (Ready props)) =
    if is_served props.socket_type then record { phase = Traffic; send = []; ready = Some (unwrap_or props.identity []); message = None }
    else record { phase = Ended (BadSocketType at); send = refusal; ready = None; message = None }

-- ---- traffic

-- the bodies of the message that isn't whole, behind a frame; commands are passed over
abbrev pub parts_after : Phase → List (List ℕ) → Option Frame → List (List ℕ)
parts_after Traffic parts (Some f) = if f.command then parts else if f.more then parts ++ f.body ∷ [] else []
parts_after phase parts _ = parts

-- the message that a frame ends
abbrev pub message_of : List (List ℕ) → Frame → Option (List (List ℕ))
message_of parts f = if f.command then None else if f.more then None else Some (parts ++ f.body ∷ [])

-- what a whole frame does
abbrev pub heard : Phase → List (List ℕ) → Option Frame → Heard
heard phase parts None = quiet phase
heard Handshake parts (Some f) = shaken f.at (command_of f.body)
heard Traffic parts (Some f) = record { phase = Traffic; send = []; ready = None; message = message_of parts f }
heard phase parts (Some f) = quiet phase

-- ---- octet by octet

-- an octet that gives nothing
abbrev pub nothing : Gave
nothing = record { send = []; ready = None; message = None }

abbrev pub greeting_phase : Option FrameFault → Phase
greeting_phase None = Handshake
greeting_phase (Some fault) = Ended (FrameFaulty fault)

-- READY is sent once a greeting without a fault is whole
abbrev pub greeting_answer : Option FrameFault → List ℕ
greeting_answer None = own_ready
greeting_answer (Some fault) = []

-- an octet of the greeting
abbrev pub greet : Talk → ℕ → Talk × Gave
greet t x =
    if length t.greeting == 63 then (
      record { phase = greeting_phase (greeting_fault (t.greeting ++ x ∷ [])); greeting = t.greeting ++ x ∷ []; reader = t.reader; parts = t.parts },
      record { send = greeting_answer (greeting_fault (t.greeting ++ x ∷ [])); ready = None; message = None },
    )
    else (record { phase = Greeting; greeting = t.greeting ++ x ∷ []; reader = t.reader; parts = t.parts }, nothing)

-- whether frames are read
abbrev pub hears : Phase → Bool
hears Handshake = true
hears Traffic = true
hears _ = false

-- an octet of a frame: the frame that it ends, if any, and then the faults of the one that isn't whole
abbrev pub hear_as : Talk → Reading → Heard → List (List ℕ) → Talk × Gave
hear_as t reader h parts = (
  record {
    phase = ended_by h.phase (first_fault (fault_at reader.stage) (begun_fault h.phase parts (begun_at reader.stage)));
    greeting = t.greeting;
    reader = reader;
    parts = parts;
  },
  record { send = h.send; ready = h.ready; message = h.message },
)

abbrev pub hear : Talk → Reading × Option Frame → Talk × Gave
hear t s = hear_as t s.0 (heard t.phase t.parts s.1) (parts_after t.phase t.parts s.1)

-- after a fault nothing changes
abbrev pub talk_at : Phase → Talk → ℕ → Talk × Gave
talk_at Greeting t x = greet t x
talk_at (Ended fault) t x = (t, nothing)
talk_at _ t x = hear t (step t.reader x)

abbrev pub talk : Talk → ℕ → Talk × Gave
talk t x = talk_at t.phase t x

-- ---- all octets so far

-- what is known after these octets
abbrev pub talked : Talk → List ℕ → Talk
talked t [] = t
talked t (x ∷ xs) = talked (talk t x).0 xs

-- the octets that they call for, behind the greeting
abbrev pub sent : Talk → List ℕ → List ℕ
sent t [] = []
sent t (x ∷ xs) = (talk t x).1.send ++ sent (talk t x).0 xs

-- the identity, once the handshake has ended without a fault
abbrev pub or_later : Option (List ℕ) → Option (List ℕ) → Option (List ℕ)
or_later (Some identity) later = Some identity
or_later None later = later

abbrev pub identity : Talk → List ℕ → Option (List ℕ)
identity t [] = None
identity t (x ∷ xs) = or_later (talk t x).1.ready (identity (talk t x).0 xs)

abbrev pub listed : Option (List (List ℕ)) → List (List (List ℕ))
listed None = []
listed (Some m) = m ∷ []

-- the whole messages
abbrev pub messages : Talk → List ℕ → List (List (List ℕ))
messages t [] = []
messages t (x ∷ xs) = listed (talk t x).1.message ++ messages (talk t x).0 xs

-- these octets give nothing
pub record IsQuiet (t : Talk) (xs : List ℕ) : Type 0 where
  pub sent : sent t xs ≡ []
  pub identity : identity t xs ≡ None
  pub messages : messages t xs ≡ []

-- the first fault
abbrev pub fault_of : Phase → Option PeerFault
fault_of (Ended fault) = Some fault
fault_of _ = None

-- a peer, and whether it wanted memory that was not there
pub record Held : Type 0 where
  pub talk : Talk
  pub spent : Bool

-- what all octets received so far give, the greeting among the octets to send
pub record PeerStream : Type 0 where
  pub send : List ℕ
  pub identity : Option (List ℕ)
  pub messages : List (List (List ℕ))
  pub fault : Option PeerFault

abbrev pub peer_stream : List ℕ → PeerStream
peer_stream octets = record {
  send = own_greeting ++ sent begins octets;
  identity = identity begins octets;
  messages = messages begins octets;
  fault = fault_of (talked begins octets).phase;
}

-- what they give with one piece more
abbrev pub with_piece : PeerStream → Talk → List ℕ → PeerStream
with_piece s t piece = record {
  send = s.send ++ sent t piece;
  identity = or_later s.identity (identity t piece);
  messages = s.messages ++ messages t piece;
  fault = fault_of (talked t piece).phase;
}
