-- No input of a tape is an Open.
use Rattle.std.proofs.Common.{ℕ, List, [], ◌∷◌, ◌++◌, true, false, Option, Some, None, refl}
use Rattle.std.specs.Prelude.{option_map, option_to_list}
use Rattle.std.specs.List.{flat_map}
use Rattle.cluster_types.specs.declared.config.Channel.{Channel}
use Rattle.cluster_types.specs.declared.message.Message.{Message}
use Rattle.cluster_types.specs.declared.entry.Input.{Input as InputType}
use Rattle.cluster_types.specs.declared.entry.Input.TheVariants.{In}
use Rattle.cluster_defs.specs.Histories.{History}
use Rattle.cluster_core.specs.declared.size.HistorySize.{HistorySize}
use Rattle.jupyter_parts.specs.Signed.{read_parts}
use Rattle.zmtp_peer.specs.declared.phase.PeerFed.{PeerFed}
use Rattle.zmtp_peer.specs.declared.fault.PeerFault.{PeerFault}
use Rattle.tape.specs.declared.record.TapeRecord.{TapeRecord}
use Rattle.tape.specs.declared.record.TapeKind.{TapeKind}
use Rattle.tape.specs.declared.record.TapeKind.TheVariants.{Up, Piece, Down, Beat, Time, Message as MessageKind}
use Rattle.tape_drive.specs.declared.drive.TapeStop.{TapeStop}
use Rattle.tape_drive.specs.Drive.{Stand}
use Rattle.link_messages.specs.Message.{signed}
use Rattle.tape_drive.specs.Inputs.{in_of, up_where, down_where, stream_inputs, kind_inputs, inputs_of}
use Rattle.tape_drive.specs.Links.{Link, given_on, link_on}
use Rattle.tape_drive.specs.Rules.{stop_of}
use Rattle.tape_drive.specs.Served.{inputs_where, inputs_taken}
use Rattle.tape_drive.specs.Steps.{stepped, overfull, unless_full, fitting}
use Rattle.tape_drive.proofs.Stepping.{NoOpens}

joined : (xs ys : List InputType) → NoOpens xs → NoOpens ys → NoOpens (xs ++ ys)
joined [] ys h k = k
joined (x ∷ xs) ys h k = (h.0, joined xs ys h.1 k)

in_none : (conn moment word : ℕ) (message : Option Message) → NoOpens (option_to_list (option_map (λ m. In conn moment word m) message))
in_none conn moment word None = tt
in_none conn moment word (Some m) = (refl, tt)

ins_none : (key : List ℕ) (conn moment word : ℕ) (messages : List (List (List ℕ))) → NoOpens (flat_map (in_of key conn moment word) messages)
ins_none key conn moment word [] = tt
ins_none key conn moment word (m ∷ ms) =
    joined (in_of key conn moment word m) (flat_map (in_of key conn moment word) ms) (in_none conn moment word (signed (read_parts key m))) (ins_none key conn moment word ms)

up_none : (conn : ℕ) (channel : Channel) (moment word : ℕ) (identity : Option (List ℕ)) → NoOpens (up_where conn channel moment word identity)
up_none conn channel moment word None = tt
up_none conn channel moment word (Some identity) = (refl, tt)

down_none : (conn moment word : ℕ) (fault : Option PeerFault) → NoOpens (down_where conn moment word fault)
down_none conn moment word None = tt
down_none conn moment word (Some fault) = (refl, tt)

stream_none : (key : List ℕ) (conn moment word : ℕ) (given : Option (Channel × PeerFed)) → NoOpens (stream_inputs key conn moment word given)
stream_none key conn moment word None = tt
stream_none key conn moment word (Some g) =
    joined (up_where conn g.0 moment word g.1.ready ++ flat_map (in_of key conn moment word) g.1.messages) (down_where conn moment word g.1.fault)
    (joined (up_where conn g.0 moment word g.1.ready) (flat_map (in_of key conn moment word) g.1.messages) (up_none conn g.0 moment word g.1.ready) (ins_none key conn moment word g.1.messages))
    (down_none conn moment word g.1.fault)

kind_none : (key : List ℕ) (links : List Link) (moment word : ℕ) (kind : TapeKind) → NoOpens (kind_inputs key links moment word kind)
kind_none key links moment word (Up conn channel false identity) = tt
kind_none key links moment word (Up conn channel true identity) = (refl, tt)
kind_none key links moment word (Piece conn octets) = stream_none key conn moment word (given_on octets (link_on links conn))
kind_none key links moment word (MessageKind conn frames) = in_none conn moment word (signed (read_parts key frames))
kind_none key links moment word (Down conn) = (refl, tt)
kind_none key links moment word Beat = (refl, tt)
kind_none key links moment word Time = (refl, tt)

where_none : (stop : Option TapeStop) (fault : Option ℕ) (inputs : List InputType) → NoOpens inputs → NoOpens (inputs_where stop fault inputs)
where_none None None inputs none = none
where_none None (Some place) inputs none = tt
where_none (Some stop) fault inputs none = tt

pub taken_none : (key : List ℕ) (s : Stand) (r : TapeRecord) → NoOpens (inputs_taken key s r)
taken_none key s r = where_none s.stop (stop_of s.links s.least s.at r) (inputs_of key s.links r) (kind_none key s.links r.moment r.word r.kind)

pub fitting_none : (limits : HistorySize) (h : History) (inputs : List InputType) → NoOpens inputs → NoOpens (fitting limits h inputs)
fitting_none limits h [] none = tt
fitting_none limits h (input ∷ inputs) none = by (fitting_none limits (stepped h input) inputs none.1) (overfull limits h input)
  where
    by : NoOpens (fitting limits (stepped h input) inputs) → (o : Option HistorySize) → NoOpens (unless_full o (input ∷ fitting limits (stepped h input) inputs))
    by rest None = (none.0, rest)
    by rest (Some size) = tt
