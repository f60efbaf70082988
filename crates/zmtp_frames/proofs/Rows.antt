-- Worked rows of greetings, frames and commands, computed over the definitions.
use Rattle.std.proofs.Common.{◌≡◌, ℕ, List, [], ◌∷◌, ◌++◌, Some, None, refl, true, false, drop}
use Rattle.std.specs.Prelude.{codes}
use Rattle.edges.specs.Spelling.{be32, be64, str8}
use Rattle.edges.specs.Reading.{str8_at, blob_at}
use Rattle.zmtp_frames.specs.declared.frame.Frame.{Frame}
use Rattle.zmtp_frames.specs.declared.fault.FrameFault.TheVariants.{BadSignature, BadVersion, BadMechanism, BadFlags, FrameTooLong}
use Rattle.zmtp_frames.specs.declared.command.Command.TheVariants.{Ready, Error, Other}
use Rattle.zmtp_frames.specs.Stream.{start, reading_after, frames, begun_at, fault_at}
use Rattle.zmtp_frames.specs.Greeting.{zeros, null_mechanism, own_greeting, greeting_fault}
use Rattle.zmtp_frames.specs.Command.{command_of, property_at}
use Rattle.zmtp_frames.specs.Written.{written, written_property, own_ready, written_error}

-- ---- greetings

-- a greeting with these octets at the two ends of the signature, this padding, these versions and this mechanism
abbrev greeting_with : ℕ → List ℕ → ℕ → ℕ → ℕ → List ℕ → List ℕ
greeting_with first padding last major minor mechanism = first ∷ (padding ++ last ∷ major ∷ minor ∷ (mechanism ++ zeros 32))

own_is_taken : greeting_fault own_greeting ≡ None
own_is_taken = refl

-- libzmq writes a length into the padding
padding_is_free : greeting_fault (greeting_with 255 (zeros 7 ++ 1 ∷ []) 127 3 0 null_mechanism) ≡ None
padding_is_free = refl

first_octet : greeting_fault (greeting_with 254 (zeros 8) 127 3 0 null_mechanism) ≡ Some (BadSignature 0)
first_octet = refl

tenth_octet : greeting_fault (greeting_with 255 (zeros 8) 126 2 0 null_mechanism) ≡ Some (BadSignature 9)
tenth_octet = refl

older_version : greeting_fault (greeting_with 255 (zeros 8) 127 2 9 null_mechanism) ≡ Some (BadVersion 10)
older_version = refl

version_3_1 : greeting_fault (greeting_with 255 (zeros 8) 127 3 1 null_mechanism) ≡ None
version_3_1 = refl

later_version : greeting_fault (greeting_with 255 (zeros 8) 127 4 200 null_mechanism) ≡ None
later_version = refl

plain : greeting_fault (greeting_with 255 (zeros 8) 127 3 0 (codes "PLAIN" ++ zeros 15)) ≡ Some (BadMechanism 12)
plain = refl

longer_name : greeting_fault (greeting_with 255 (zeros 8) 127 3 0 (codes "NULLX" ++ zeros 15)) ≡ Some (BadMechanism 16)
longer_name = refl

last_octet_of_mechanism : greeting_fault (greeting_with 255 (zeros 8) 127 3 0 (codes "NULL" ++ (zeros 15 ++ 1 ∷ []))) ≡ Some (BadMechanism 31)
last_octet_of_mechanism = refl

as_server_and_filler : greeting_fault (255 ∷ (zeros 8 ++ 127 ∷ 3 ∷ 0 ∷ (null_mechanism ++ 1 ∷ (zeros 30 ++ 7 ∷ [])))) ≡ None
as_server_and_filler = refl

-- ---- frames

abbrev one : List ℕ → List Frame
one body = record { at = 0; more = false; command = false; body = body } ∷ []

-- a body of 255 octets is read behind either form of the size, and written behind the short one
short_form : frames (start 0) (0 ∷ 255 ∷ zeros 255) ≡ one (zeros 255)
short_form = refl

long_form : frames (start 0) (2 ∷ 0 ∷ 0 ∷ 0 ∷ 0 ∷ 0 ∷ 0 ∷ 0 ∷ 255 ∷ zeros 255) ≡ one (zeros 255)
long_form = refl

written_255 : written false (zeros 255) ≡ 0 ∷ 255 ∷ zeros 255
written_255 = refl

written_256 : written false (zeros 256) ≡ 2 ∷ 0 ∷ 0 ∷ 0 ∷ 0 ∷ 0 ∷ 0 ∷ 1 ∷ 0 ∷ zeros 256
unfolding be64
written_256 = refl

read_256 : frames (start 0) (2 ∷ 0 ∷ 0 ∷ 0 ∷ 0 ∷ 0 ∷ 0 ∷ 1 ∷ 0 ∷ zeros 256) ≡ one (zeros 256)
read_256 = refl

-- MORE, LONG and COMMAND, and frames without a body
flags_of_frames : frames (start 64) (1 ∷ 0 ∷ 4 ∷ 1 ∷ 9 ∷ 6 ∷ 0 ∷ 0 ∷ 0 ∷ 0 ∷ 0 ∷ 0 ∷ 0 ∷ 0 ∷ [])
    ≡ record { at = 64; more = true; command = false; body = [] }
    ∷ record { at = 66; more = false; command = true; body = 9 ∷ [] }
    ∷ record { at = 69; more = false; command = true; body = [] } ∷ []
flags_of_frames = refl

-- what is known of a frame that isn't whole
nothing_begun : begun_at (reading_after (start 0) (0 ∷ 1 ∷ 7 ∷ [])).stage ≡ None
nothing_begun = refl

flags_came : begun_at (reading_after (start 0) (0 ∷ 1 ∷ 7 ∷ 1 ∷ [])).stage ≡ Some (record { at = 3; more = true; command = false; size = None })
flags_came = refl

seven_of_eight : begun_at (reading_after (start 0) (2 ∷ 0 ∷ 0 ∷ 0 ∷ 0 ∷ 0 ∷ 0 ∷ 1 ∷ [])).stage ≡ Some (record { at = 0; more = false; command = false; size = None })
seven_of_eight = refl

size_came : begun_at (reading_after (start 0) (2 ∷ 0 ∷ 0 ∷ 0 ∷ 0 ∷ 0 ∷ 0 ∷ 1 ∷ 2 ∷ 5 ∷ [])).stage ≡ Some (record { at = 0; more = false; command = false; size = Some 258 })
size_came = refl

-- a reserved bit, and COMMAND with MORE
reserved_bit : fault_at (reading_after (start 0) (0 ∷ 1 ∷ 7 ∷ 8 ∷ [])).stage ≡ Some (BadFlags 3)
reserved_bit = refl

highest_bit : fault_at (reading_after (start 0) (128 ∷ [])).stage ≡ Some (BadFlags 0)
highest_bit = refl

command_with_more : fault_at (reading_after (start 0) (5 ∷ [])).stage ≡ Some (BadFlags 0)
command_with_more = refl

long_command_with_more : begun_at (reading_after (start 0) (7 ∷ 0 ∷ [])).stage ≡ Some (record { at = 0; more = true; command = true; size = None })
long_command_with_more = refl

long_command : fault_at (reading_after (start 0) (6 ∷ [])).stage ≡ None
long_command = refl

-- 16,777,217 octets are too many, and 16,777,216 are not
one_too_many : fault_at (reading_after (start 7) (2 ∷ 0 ∷ 0 ∷ 0 ∷ 0 ∷ 1 ∷ 0 ∷ 0 ∷ 1 ∷ [])).stage ≡ Some (FrameTooLong 7)
one_too_many = refl

too_long_begun : begun_at (reading_after (start 7) (2 ∷ 0 ∷ 0 ∷ 0 ∷ 0 ∷ 1 ∷ 0 ∷ 0 ∷ 1 ∷ 3 ∷ [])).stage
    ≡ Some (record { at = 7; more = false; command = false; size = Some 16777217 })
too_long_begun = refl

longest : fault_at (reading_after (start 7) (2 ∷ 0 ∷ 0 ∷ 0 ∷ 0 ∷ 1 ∷ 0 ∷ 0 ∷ 0 ∷ [])).stage ≡ None
longest = refl

greatest_size : fault_at (reading_after (start 0) (2 ∷ 255 ∷ 255 ∷ 255 ∷ 255 ∷ 255 ∷ 255 ∷ 255 ∷ 255 ∷ [])).stage ≡ Some (FrameTooLong 0)
greatest_size = refl

-- a fault stays, whatever follows
fault_stays : reading_after (start 0) (8 ∷ 0 ∷ 0 ∷ []) ≡ reading_after (start 0) (8 ∷ [])
fault_stays = refl

-- a place stays at the end of its type
last_place : frames (start 18446744073709551614) (0 ∷ 0 ∷ 0 ∷ 0 ∷ [])
    ≡ record { at = 18446744073709551614; more = false; command = false; body = [] }
    ∷ record { at = 18446744073709551615; more = false; command = false; body = [] } ∷ []
last_place = refl

-- ---- commands

abbrev ready_with : List ℕ → List ℕ
ready_with properties = str8 (codes "READY") ++ properties

own_ready_is : own_ready ≡ 4 ∷ 28 ∷ 5 ∷ 82 ∷ 69 ∷ 65 ∷ 68 ∷ 89 ∷ 11 ∷ 83 ∷ 111 ∷ 99 ∷ 107 ∷ 101 ∷ 116 ∷ 45 ∷ 84 ∷ 121 ∷ 112 ∷ 101 ∷ 0 ∷ 0 ∷ 0 ∷ 6 ∷ 82 ∷ 79 ∷ 85 ∷ 84 ∷ 69 ∷ 82 ∷ []
unfolding be32
own_ready_is = refl

error_busy : written_error (codes "busy") ≡ 4 ∷ 11 ∷ 5 ∷ 69 ∷ 82 ∷ 82 ∷ 79 ∷ 82 ∷ 4 ∷ 98 ∷ 117 ∷ 115 ∷ 121 ∷ []
error_busy = refl

own_ready_read : command_of (drop 2 own_ready) ≡ Some (Ready (record { socket_type = codes "ROUTER"; identity = None }))
unfolding be32 property_at str8_at blob_at
own_ready_read = refl

ready_bare : command_of (5 ∷ codes "READY") ≡ None
unfolding str8_at
ready_bare = refl

no_name : command_of (0 ∷ []) ≡ None
unfolding str8_at
no_name = refl

no_octet : command_of [] ≡ None
unfolding str8_at
no_octet = refl

name_cut_short : command_of (5 ∷ codes "REA") ≡ None
unfolding str8_at
name_cut_short = refl

ping : command_of (4 ∷ codes "PING") ≡ Some Other
unfolding str8_at
ping = refl

error_read : command_of (5 ∷ codes "error" ++ str8 (codes "busy")) ≡ Some (Error (codes "busy"))
unfolding str8_at
error_read = refl

error_cut_short : command_of (5 ∷ codes "ERROR" ++ 4 ∷ codes "bus") ≡ None
unfolding str8_at
error_cut_short = refl

error_without_reason : command_of (5 ∷ codes "ERROR") ≡ None
unfolding str8_at
error_without_reason = refl

-- properties in any order, of any names, in any case
any_order : command_of (5 ∷ codes "ready" ++ (written_property (codes "IDENTITY") (codes "e") ++ (written_property (codes "X-Other") [] ++ written_property (codes "socket-TYPE") (codes "DEALER"))))
    ≡ Some (Ready (record { socket_type = codes "DEALER"; identity = Some (codes "e") }))
unfolding be32 property_at str8_at blob_at
any_order = refl

-- the same name again, though in another case
twice : command_of (ready_with (written_property (codes "Socket-Type") (codes "DEALER") ++ (written_property (codes "x") [] ++ written_property (codes "X") (codes "1")))) ≡ None
unfolding be32 property_at str8_at blob_at
twice = refl

no_socket_type : command_of (ready_with (written_property (codes "Identity") (codes "e"))) ≡ None
unfolding be32 property_at str8_at blob_at
no_socket_type = refl

nameless_property : command_of (ready_with (written_property (codes "Socket-Type") (codes "DEALER") ++ written_property [] (codes "1"))) ≡ None
unfolding be32 property_at str8_at blob_at
nameless_property = refl

value_cut_short : command_of (ready_with (11 ∷ codes "Socket-Type" ++ 0 ∷ 0 ∷ 0 ∷ 7 ∷ codes "DEALER")) ≡ None
unfolding be32 property_at str8_at blob_at
value_cut_short = refl

size_cut_short : command_of (ready_with (written_property (codes "Socket-Type") (codes "DEALER") ++ 1 ∷ 120 ∷ 0 ∷ 0 ∷ 0 ∷ [])) ≡ None
unfolding be32 property_at str8_at blob_at
size_cut_short = refl

identity_255 : command_of (ready_with (written_property (codes "Socket-Type") (codes "DEALER") ++ written_property (codes "Identity") (zeros 255)))
    ≡ Some (Ready (record { socket_type = codes "DEALER"; identity = Some (zeros 255) }))
unfolding be32 property_at str8_at blob_at
identity_255 = refl

identity_256 : command_of (ready_with (written_property (codes "Socket-Type") (codes "DEALER") ++ written_property (codes "Identity") (zeros 256))) ≡ None
unfolding be32 property_at str8_at blob_at
identity_256 = refl
