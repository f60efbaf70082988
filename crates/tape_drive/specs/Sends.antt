-- What is sent while a record of a tape is served, as records.
use Rattle.std.specs.Prelude.{ℕ, Bool, true, false, nat_le, List, [], ◌∷◌, ◌++◌, length, drop, map, Option, Some, None, if◌then◌else◌}
use Rattle.cluster_types.specs.declared.entry.Input.{Input as InputType}
use Rattle.cluster_types.specs.declared.out.Out.{Out}
use Rattle.cluster_defs.specs.Words.{begins_with}
use Rattle.cluster_defs.specs.Histories.{History}
use Rattle.cluster_defs.specs.Outs.{conn_of}
use Rattle.link_messages.specs.Outs.{out_frames}
use Rattle.zmtp_frames.specs.Greeting.{own_greeting}
use Rattle.zmtp_frames.specs.Written.{own_ready}
use Rattle.zmtp_peer.specs.declared.phase.PeerFed.{PeerFed}
use Rattle.cluster_types.specs.declared.config.Channel.{Channel}
use Rattle.zmtp_peer.specs.Message.{message_written}
use Rattle.tape.specs.declared.record.TapeRecord.{TapeRecord}
use Rattle.tape.specs.declared.record.TapeKind.{TapeKind}
use Rattle.tape.specs.declared.record.TapeKind.TheVariants.{Up, Piece, Message}
use Rattle.tape_drive.specs.Links.{Link, link_on, is_zmtp, given_on}
use Rattle.tape_drive.specs.Steps.{stepped, step_outs}

-- THE OCTETS OF A STREAM

abbrev pub where_any : List ℕ → List (List ℕ)
where_any [] = []
where_any (x ∷ xs) = (x ∷ xs) ∷ []

-- READY is one sending, and what stands behind it, an ERROR, is another
abbrev pub sendings : List ℕ → List (List ℕ)
sendings octets = if begins_with own_ready octets then own_ready ∷ where_any (drop (length own_ready) octets) else where_any octets

abbrev pub given_sendings : Option (Channel × PeerFed) → List (List ℕ)
given_sendings None = []
given_sendings (Some g) = sendings g.1.send

-- a stream is greeted as it comes up, and its pieces are answered; `links` are those before the record
abbrev pub stream_sends : List Link → TapeKind → List TapeKind
stream_sends links (Up conn channel bare identity) = if bare then [] else Piece conn own_greeting ∷ []
stream_sends links (Piece conn octets) = map (Piece conn) (given_sendings (given_on octets (link_on links conn)))
stream_sends links _ = []

-- THE OUTS OF STEPS

-- an out goes before the first one to the same or a greater connection
abbrev pub placed : Out → List Out → List Out
placed out [] = out ∷ []
placed out (o ∷ outs) = if nat_le (conn_of out) (conn_of o) then out ∷ o ∷ outs else o ∷ placed out outs

-- outs in ascending number of their connection; those to one connection stay in order
abbrev pub by_connection : List Out → List Out
by_connection [] = []
by_connection (out ∷ outs) = placed out (by_connection outs)

-- frames are sent as octets of a stream, or as a bare message
abbrev pub frames_sent : Bool → ℕ → List (List ℕ) → TapeKind
frames_sent true conn frames = Piece conn (message_written frames)
frames_sent false conn frames = Message conn frames

abbrev pub out_sent : List ℕ → List Link → Out → TapeKind
out_sent key links out = frames_sent (is_zmtp (link_on links (conn_of out))) (conn_of out) (out_frames key out)

abbrev pub step_sends : List ℕ → List Link → History → InputType → List TapeKind
step_sends key links history input = map (out_sent key links) (by_connection (step_outs history input))

-- each input is served before the next one
abbrev pub steps_send : List ℕ → List Link → History → List InputType → List TapeKind
steps_send key links history [] = []
steps_send key links history (input ∷ inputs) = step_sends key links history input ++ steps_send key links (stepped history input) inputs

-- what is sent has the moment of the record that is served, and the word 0
abbrev pub sent_at : ℕ → TapeKind → TapeRecord
sent_at moment kind = record { moment = moment; word = 0; kind = kind }
