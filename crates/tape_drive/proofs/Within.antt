-- The inputs of a record are within the limits of a store.
use Rattle.std.proofs.Common.{◌≡◌, ℕ, ◌+◌, ◌<◌, ◌≤◌, ◌^◌, List, [], ◌∷◌, ◌++◌, length, true, false, Option, Some, None, refl, subst, arith}
use Rattle.std.specs.Prelude.{All, IfSome, option_map, option_to_list, sum_by, ◌&&◌}
use Rattle.std.specs.List.{flat_map, list_all, AllByRecursion as Each}
use Rattle.std.proofs.lemmas.List.Elements.{recursion_from_All}
use Rattle.cluster_types.specs.declared.config.Channel.{Channel}
use Rattle.cluster_types.specs.declared.message.Message.{Message}
use Rattle.cluster_types.specs.declared.entry.Entry.TheVariants.{Input}
use Rattle.cluster_types.specs.declared.entry.Input.{Input as InputType}
use Rattle.cluster_types.specs.declared.entry.Input.TheVariants.{In}
use Rattle.cluster_types.specs.Limits.{last_moment}
use Rattle.jupyter_parts.specs.Signed.{read_parts}
use Rattle.record_codec.specs.Spelling.{IsShort, IsWithinLimits}
use Rattle.zmtp_peer.specs.declared.fault.PeerFault.{PeerFault}
use Rattle.zmtp_peer.specs.declared.phase.PeerFed.{PeerFed}
use Rattle.zmtp_peer.specs.Limits.{IsShortMessage, IsShortIdentity}
use Rattle.link_messages.specs.Identity.{up_of}
use Rattle.link_messages.specs.Message.{signed}
use Rattle.link_messages.proofs.Named.{named}
use Rattle.link_messages.proofs.Short.{AreShort, are_short, signed_short}
use Rattle.tape.specs.declared.record.TapeKind.{TapeKind}
use Rattle.tape.specs.declared.record.TapeKind.TheVariants.{Up, Piece, Down, Beat, Time, Message as MessageKind}
use Rattle.tape.specs.Spelling.{KindFits, FitsBlob}
use Rattle.tape_drive.specs.Links.{Link, IsShortGiven}
use Rattle.tape_drive.specs.Inputs.{kind_inputs, in_of, up_where, down_where, stream_inputs}
use Rattle.tape_drive.specs.Steps.{AreTaken}

pub joined : (xs ys : List InputType) → AreTaken xs → AreTaken ys → AreTaken (xs ++ ys)
joined [] ys h k = k
joined (x ∷ xs) ys h k = (h.0, joined xs ys h.1 k)

-- MESSAGES

listed_taken : (conn moment word : ℕ) (message : Option Message) → moment ≤ last_moment → ((m : Message) → message ≡ Some m → IsShort m) → AreTaken (option_to_list (option_map (λ m. In conn moment word m) message))
listed_taken conn moment word None le short = tt
listed_taken conn moment word (Some m) le short = (((le, short m refl), refl), tt)

pub in_taken : (key : List ℕ) (conn moment word : ℕ) (frames : List (List ℕ)) → moment ≤ last_moment → AreShort frames → AreTaken (in_of key conn moment word frames)
in_taken key conn moment word frames le short = listed_taken conn moment word (signed (read_parts key frames)) le (λ m is. signed_short key frames m short is)

pub ins_taken : (key : List ℕ) (conn moment word : ℕ) (messages : List (List (List ℕ))) → moment ≤ last_moment → Each AreShort messages → AreTaken (flat_map (in_of key conn moment word) messages)
ins_taken key conn moment word [] le short = tt
ins_taken key conn moment word (m ∷ ms) le short =
    joined (in_of key conn moment word m) (flat_map (in_of key conn moment word) ms) (in_taken key conn moment word m le short.0) (ins_taken key conn moment word ms le short.1)

-- A CONNECTION THAT COMES UP

up_taken : (conn : ℕ) (channel : Channel) (moment word : ℕ) (identity : List ℕ) → conn < 2 ^ 32 → moment ≤ last_moment → length identity < 256 → AreTaken (up_of conn channel moment word identity ∷ [])
up_taken conn channel moment word identity small le short = (((le, named conn identity small short), refl), tt)

-- A STREAM

up_where_taken : (conn : ℕ) (channel : Channel) (moment word : ℕ) (identity : Option (List ℕ)) → conn < 2 ^ 32 → moment ≤ last_moment → ((name : List ℕ) → identity ≡ Some name → length name < 256) → AreTaken (up_where conn channel moment word identity)
up_where_taken conn channel moment word None small le short = tt
up_where_taken conn channel moment word (Some identity) small le short = up_taken conn channel moment word identity small le (short identity refl)

down_taken : (conn moment word : ℕ) (fault : Option PeerFault) → moment ≤ last_moment → AreTaken (down_where conn moment word fault)
down_taken conn moment word None le = tt
down_taken conn moment word (Some fault) le = ((le, refl), tt)

pub stream_taken : (key : List ℕ) (conn moment word : ℕ) (channel : Channel) (fed : PeerFed) → conn < 2 ^ 32 → moment ≤ last_moment → ((name : List ℕ) → fed.ready ≡ Some name → length name < 256) → Each AreShort fed.messages →
    AreTaken (stream_inputs key conn moment word (Some (channel, fed)))
stream_taken key conn moment word channel fed small le ready messages =
    joined (up_where conn channel moment word fed.ready ++ flat_map (in_of key conn moment word) fed.messages) (down_where conn moment word fed.fault)
    (joined (up_where conn channel moment word fed.ready) (flat_map (in_of key conn moment word) fed.messages) (up_where_taken conn channel moment word fed.ready small le ready) (ins_taken key conn moment word fed.messages le messages))
    (down_taken conn moment word fed.fault le)

-- ALL KINDS OF RECORDS

each_short : (messages : List (List (List ℕ))) → Each IsShortMessage messages → Each AreShort messages
each_short [] short = tt
each_short (m ∷ ms) short = (are_short m short.0, each_short ms short.1)

pub given_taken : (key : List ℕ) (conn moment word : ℕ) (given : Option (Channel × PeerFed)) → conn < 2 ^ 32 → moment ≤ last_moment → IsShortGiven given → AreTaken (stream_inputs key conn moment word given)
given_taken key conn moment word None small le short = tt
given_taken key conn moment word (Some g) small le short =
    stream_taken key conn moment word g.0 g.1 small le (λ name is. named_short g.1.ready name short.ready is) (each_short g.1.messages (recursion_from_All IsShortMessage g.1.messages short.messages))
  where
    named_short : (o : Option (List ℕ)) (name : List ℕ) → IfSome o IsShortIdentity → o ≡ Some name → length name < 256
    named_short None name short is = cc
    named_short (Some x) name short is = let same : x ≡ name = cc in subst (λ (n : List ℕ). length n < 256) same (omega (arith, short))

-- of a record that is no piece
pub kind_taken : (key : List ℕ) (links : List Link) (moment word : ℕ) (kind : TapeKind) → moment ≤ last_moment → KindFits kind → ((conn : ℕ) (octets : List ℕ) → kind ≡ Piece conn octets → AreTaken (kind_inputs key links moment word kind)) → AreTaken (kind_inputs key links moment word kind)
kind_taken key links moment word (Up conn channel false identity) le fits piece = tt
kind_taken key links moment word (Up conn channel true identity) le fits piece = up_taken conn channel moment word identity fits.0 le fits.1
kind_taken key links moment word (Piece conn octets) le fits piece = piece conn octets refl
kind_taken key links moment word (MessageKind conn frames) le fits piece = in_taken key conn moment word frames le (record { number = fits.2; each = recursion_from_All FitsBlob frames fits.3 })
kind_taken key links moment word (Down conn) le fits piece = ((le, refl), tt)
kind_taken key links moment word Beat le fits piece = ((le, refl), tt)
kind_taken key links moment word Time le fits piece = ((le, refl), tt)
