-- Worked rows of a peer's stream, computed over the definitions.
use Rattle.std.proofs.Common.{◌≡◌, ℕ, zero, suc, List, [], ◌∷◌, ◌++◌, Option, Some, None, refl, take, drop}
use Rattle.std.specs.Prelude.{codes}
use Rattle.edges.specs.Spelling.{be32, be64, str8}
use Rattle.edges.specs.Reading.{str8_at, blob_at}
use Rattle.zmtp_frames.specs.declared.fault.FrameFault.TheVariants.{BadSignature, BadVersion, BadMechanism, BadFlags, FrameTooLong}
use Rattle.zmtp_frames.specs.Greeting.{zeros, null_mechanism, own_greeting}
use Rattle.zmtp_frames.specs.Command.{property_at}
use Rattle.zmtp_frames.specs.Written.{own_ready, written_command, written_property, written_error}
use Rattle.zmtp_peer.specs.declared.fault.PeerFault.{PeerFault}
use Rattle.zmtp_peer.specs.declared.fault.PeerFault.TheVariants.{Frame as FrameFaulty, BadCommand, BadSocketType, NoReady, PeerError, MessageTooLong}
use Rattle.zmtp_peer.specs.Message.{message_written}
use Rattle.zmtp_peer.specs.PeerStream.{PeerStream, peer_stream, refusal, size_fault}

-- the READY of a socket type, and of one with an identity
abbrev ready_of_type : List ℕ → List ℕ
ready_of_type socket_type = written_command (str8 (codes "READY") ++ written_property (codes "Socket-Type") socket_type)

abbrev dealer : List ℕ
dealer = written_command (str8 (codes "READY") ++ (written_property (codes "Identity") (codes "e") ++ written_property (codes "Socket-Type") (codes "DEALER")))

-- a stream behind a greeting, and behind a READY too
abbrev greeted : List ℕ → PeerStream
greeted octets = peer_stream (own_greeting ++ octets)

abbrev talking : List ℕ → PeerStream
talking octets = greeted (own_ready ++ octets)

-- what these streams give: only a fault, and with READY sent
abbrev only_fault : List ℕ → PeerFault → PeerStream
only_fault send fault = record { send = send; identity = None; messages = []; fault = Some fault }

abbrev fault_in_handshake : PeerFault → PeerStream
fault_in_handshake fault = only_fault (own_greeting ++ own_ready) fault

abbrev in_traffic : List (List (List ℕ)) → Option PeerFault → PeerStream
in_traffic messages fault = record { send = own_greeting ++ own_ready; identity = Some []; messages = messages; fault = fault }

-- ---- greeting and handshake

nothing_came : peer_stream [] ≡ record { send = own_greeting; identity = None; messages = []; fault = None }
nothing_came = refl

one_octet_short : peer_stream (take 63 own_greeting) ≡ record { send = own_greeting; identity = None; messages = []; fault = None }
one_octet_short = refl

greeting_came : greeted [] ≡ record { send = own_greeting ++ own_ready; identity = None; messages = []; fault = None }
unfolding be32
greeting_came = refl

-- a fault of the greeting is there once the greeting is whole
wrong_but_short : peer_stream (254 ∷ zeros 62) ≡ record { send = own_greeting; identity = None; messages = []; fault = None }
wrong_but_short = refl

wrong_signature : peer_stream (254 ∷ drop 1 own_greeting) ≡ only_fault own_greeting (FrameFaulty (BadSignature 0))
wrong_signature = refl

major_2 : peer_stream (255 ∷ (zeros 8 ++ 127 ∷ 2 ∷ 0 ∷ (null_mechanism ++ zeros 32))) ≡ only_fault own_greeting (FrameFaulty (BadVersion 10))
major_2 = refl

plain : peer_stream (255 ∷ (zeros 8 ++ 127 ∷ 3 ∷ 0 ∷ (codes "PLAIN" ++ zeros 47))) ≡ only_fault own_greeting (FrameFaulty (BadMechanism 12))
plain = refl

router : greeted own_ready ≡ in_traffic [] None
unfolding be32 property_at str8_at blob_at
router = refl

identity_came : greeted dealer ≡ record { send = own_greeting ++ own_ready; identity = Some (codes "e"); messages = []; fault = None }
unfolding be32 property_at str8_at blob_at
identity_came = refl

ready_one_octet_short : greeted (take 29 own_ready) ≡ record { send = own_greeting ++ own_ready; identity = None; messages = []; fault = None }
unfolding be32 property_at str8_at blob_at
ready_one_octet_short = refl

-- the socket type REQ is refused by an ERROR of these 20 octets
refusal_is : refusal ≡ 4 ∷ 18 ∷ 5 ∷ 69 ∷ 82 ∷ 82 ∷ 79 ∷ 82 ∷ 11 ∷ 83 ∷ 111 ∷ 99 ∷ 107 ∷ 101 ∷ 116 ∷ 45 ∷ 84 ∷ 121 ∷ 112 ∷ 101 ∷ []
refusal_is = refl

req : greeted (ready_of_type (codes "REQ")) ≡ only_fault (own_greeting ++ (own_ready ++ refusal)) (BadSocketType 64)
unfolding be32 property_at str8_at blob_at
req = refl

lower_case_type : greeted (ready_of_type (codes "router")) ≡ only_fault (own_greeting ++ (own_ready ++ refusal)) (BadSocketType 64)
unfolding be32 property_at str8_at blob_at
lower_case_type = refl

error_first : greeted (written_error (codes "busy")) ≡ fault_in_handshake (PeerError 64)
unfolding be32 property_at str8_at blob_at
error_first = refl

ping_first : greeted (written_command (str8 (codes "PING"))) ≡ fault_in_handshake (NoReady 64)
unfolding be32 property_at str8_at blob_at
ping_first = refl

bare_ready : greeted (written_command (str8 (codes "READY"))) ≡ fault_in_handshake (BadCommand 64)
unfolding be32 property_at str8_at blob_at
bare_ready = refl

identity_too_long : greeted (written_command (str8 (codes "READY") ++ (written_property (codes "Socket-Type") (codes "DEALER") ++ written_property (codes "Identity") (zeros 256)))) ≡ fault_in_handshake (BadCommand 64)
unfolding be32 be64 property_at str8_at blob_at
identity_too_long = refl

-- the flags show that it is no command
message_first : greeted (1 ∷ []) ≡ fault_in_handshake (NoReady 64)
unfolding be32
message_first = refl

-- but flags with a bit of no meaning are bad flags first
bad_flags_first : greeted (8 ∷ []) ≡ fault_in_handshake (FrameFaulty (BadFlags 64))
unfolding be32
bad_flags_first = refl

-- ---- traffic

two_messages : talking (message_written ((1 ∷ []) ∷ [] ∷ (2 ∷ []) ∷ []) ++ message_written ((3 ∷ []) ∷ []))
    ≡ in_traffic (((1 ∷ []) ∷ [] ∷ (2 ∷ []) ∷ []) ∷ ((3 ∷ []) ∷ []) ∷ []) None
unfolding be32 property_at str8_at blob_at
two_messages = refl

-- commands between messages are passed over, whatever they hold
commands_between : talking (4 ∷ 0 ∷ 0 ∷ 1 ∷ 7 ∷ 4 ∷ 1 ∷ 0 ∷ 0 ∷ 1 ∷ 8 ∷ []) ≡ in_traffic (((7 ∷ []) ∷ []) ∷ ((8 ∷ []) ∷ []) ∷ []) None
unfolding be32 property_at str8_at blob_at
commands_between = refl

-- a second READY of a bad socket type too
later_ready : talking (ready_of_type (codes "REQ")) ≡ in_traffic [] None
unfolding be32 property_at str8_at blob_at
later_ready = refl

-- a command inside a message is a fault at its flags
command_inside : talking (1 ∷ 0 ∷ 4 ∷ []) ≡ in_traffic [] (Some (BadCommand 96))
unfolding be32 property_at str8_at blob_at
command_inside = refl

long_command_inside : talking (1 ∷ 1 ∷ 7 ∷ 6 ∷ []) ≡ in_traffic [] (Some (BadCommand 97))
unfolding be32 property_at str8_at blob_at
long_command_inside = refl

bad_flags : talking (0 ∷ 1 ∷ 7 ∷ 8 ∷ []) ≡ in_traffic (((7 ∷ []) ∷ []) ∷ []) (Some (FrameFaulty (BadFlags 97)))
unfolding be32 property_at str8_at blob_at
bad_flags = refl

frame_too_long : talking (2 ∷ 0 ∷ 0 ∷ 0 ∷ 0 ∷ 1 ∷ 0 ∷ 0 ∷ 1 ∷ []) ≡ in_traffic [] (Some (FrameFaulty (FrameTooLong 94)))
unfolding be32 property_at str8_at blob_at
frame_too_long = refl

longest_frame : talking (2 ∷ 0 ∷ 0 ∷ 0 ∷ 0 ∷ 1 ∷ 0 ∷ 0 ∷ 0 ∷ []) ≡ in_traffic [] None
unfolding be32 property_at str8_at blob_at
longest_frame = refl

-- frames without octets, with MORE
abbrev empty_frames : ℕ → List ℕ
empty_frames zero = []
empty_frames (suc n) = 1 ∷ 0 ∷ empty_frames n

abbrev empty_bodies : ℕ → List (List ℕ)
empty_bodies zero = []
empty_bodies (suc n) = [] ∷ empty_bodies n

frames_64 : talking (empty_frames 63 ++ 0 ∷ 0 ∷ []) ≡ in_traffic (empty_bodies 64 ∷ []) None
unfolding be32 property_at str8_at blob_at
frames_64 = refl

-- the flags of a 65th frame show that it is one too many, before its size shows anything
frames_65 : talking (empty_frames 64 ++ 0 ∷ []) ≡ in_traffic [] (Some (MessageTooLong 222))
unfolding be32 property_at str8_at blob_at
frames_65 = refl

octets_of_a_message : size_fault 9 ((7 ∷ []) ∷ (7 ∷ 7 ∷ []) ∷ []) (Some 33554429) ≡ None
octets_of_a_message = refl

one_octet_too_many : size_fault 9 ((7 ∷ []) ∷ (7 ∷ 7 ∷ []) ∷ []) (Some 33554430) ≡ Some (MessageTooLong 9)
one_octet_too_many = refl

-- a fault stays, and what came before it too
fault_stays : talking (0 ∷ 0 ∷ 1 ∷ 0 ∷ 4 ∷ 1 ∷ 0 ∷ 0 ∷ 0 ∷ []) ≡ talking (0 ∷ 0 ∷ 1 ∷ 0 ∷ 4 ∷ [])
unfolding be32 property_at str8_at blob_at
fault_stays = refl
