-- The inputs that the records of a tape stand for.
use Rattle.std.specs.Prelude.{ℕ, List, [], ◌∷◌, ◌++◌, Option, Some, None, option_map, option_to_list, if◌then◌else◌}
use Rattle.std.specs.List.{flat_map}
use Rattle.cluster_types.specs.declared.config.Channel.{Channel}
use Rattle.cluster_types.specs.declared.entry.Input.{Input as InputType}
use Rattle.cluster_types.specs.declared.entry.Input.TheVariants.{Down as DownInput, In, Beat as BeatInput, Time as TimeInput}
use Rattle.jupyter_parts.specs.Signed.{read_parts}
use Rattle.link_messages.specs.Identity.{up_of}
use Rattle.link_messages.specs.Message.{signed}
use Rattle.zmtp_peer.specs.declared.fault.PeerFault.{PeerFault}
use Rattle.zmtp_peer.specs.declared.phase.PeerFed.{PeerFed}
use Rattle.tape.specs.declared.record.TapeRecord.{TapeRecord}
use Rattle.tape.specs.declared.record.TapeKind.{TapeKind}
use Rattle.tape.specs.declared.record.TapeKind.TheVariants.{Up, Piece, Down, Beat, Time, Message as MessageKind}
use Rattle.tape_drive.specs.Links.{Link, link_on, given_on}

-- frames that come in are an input where they are signed
abbrev pub in_of : List ℕ → ℕ → ℕ → ℕ → List (List ℕ) → List InputType
in_of key conn moment word frames = option_to_list (option_map (λ m. In conn moment word m) (signed (read_parts key frames)))

abbrev pub up_where : ℕ → Channel → ℕ → ℕ → Option (List ℕ) → List InputType
up_where conn channel moment word identity = option_to_list (option_map (up_of conn channel moment word) identity)

abbrev pub down_where : ℕ → ℕ → ℕ → Option PeerFault → List InputType
down_where conn moment word fault = option_to_list (option_map (λ f. DownInput conn moment word) fault)

-- octets of a stream: its READY brings the connection up, then its messages come in, and its fault takes it down
abbrev pub stream_inputs : List ℕ → ℕ → ℕ → ℕ → Option (Channel × PeerFed) → List InputType
stream_inputs key conn moment word None = []
stream_inputs key conn moment word (Some g) =
    up_where conn g.0 moment word g.1.ready ++ flat_map (in_of key conn moment word) g.1.messages ++ down_where conn moment word g.1.fault

-- the inputs of a record, in order, each with its moment and word; `links` are those before it
abbrev pub kind_inputs : List ℕ → List Link → ℕ → ℕ → TapeKind → List InputType
kind_inputs key links moment word (Up conn channel bare identity) = if bare then up_of conn channel moment word identity ∷ [] else []
kind_inputs key links moment word (Piece conn octets) = stream_inputs key conn moment word (given_on octets (link_on links conn))
kind_inputs key links moment word (MessageKind conn frames) = in_of key conn moment word frames
kind_inputs key links moment word (Down conn) = DownInput conn moment word ∷ []
kind_inputs key links moment word Beat = BeatInput moment word ∷ []
kind_inputs key links moment word Time = TimeInput moment word ∷ []

abbrev pub inputs_of : List ℕ → List Link → TapeRecord → List InputType
inputs_of key links r = kind_inputs key links r.moment r.word r.kind
