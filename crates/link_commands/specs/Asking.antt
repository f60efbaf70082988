-- A request over a link, and its answer.
use Rattle.std.specs.Prelude.{◌≡◌, ℕ, Bool, false, List, [], ◌∷◌, ◌++◌, Option, Some, None, bytes_eq, if◌then◌else◌, option_map}
use Rattle.std.specs.Option.{unwrap_or}
use Rattle.std.specs.Result.{result_ok}
use Rattle.client_core.specs.Taking.{task_in}
use Rattle.link_commands.specs.declared.finding.Conclusion.{Conclusion}
use Rattle.link_commands.specs.declared.finding.Conclusion.TheVariants.{Answer, Fault, Nothing}
use Rattle.cluster_types.specs.declared.message.Message.{Message}
use Rattle.edges.specs.Streams.{Took, Added, AddedFront}
use Rattle.link_messages.specs.Message.{signed}
use Rattle.jupyter_parts.specs.Signed.{message_frames, read_parts}
use Rattle.cluster_defs.specs.Header.{read_header}
use Rattle.cluster_defs.specs.Reply.{read_status}
use Rattle.zmtp_peer.specs.declared.fault.PeerFault.{PeerFault}
use Rattle.zmtp_peer.specs.Message.{message_written}
use Rattle.zmtp_peer.specs.PeerStream.{Talk, sent, identity, messages, peer_stream}

-- THE ANSWER

-- the id that the header of a request gives, where it reads
unfoldable pub id_in : List ℕ → Option (List ℕ)
id_in header = option_map (λ h. h.msg_id) (result_ok (read_header header))

-- both are there, and the same
abbrev pub are_same : Option (List ℕ) → Option (List ℕ) → Bool
are_same (Some one) (Some other) = bytes_eq one other
are_same (Some one) None = false
are_same None other = false

-- a message answers the request whose id its parent header names
abbrev pub answer_as : Option (List ℕ) → Option Message → Option Message
answer_as id (Some message) = if are_same id (task_in message.parent) then Some message else None
answer_as id None = None

-- the answer that frames are, where they are signed under the key
abbrev pub answer_of : List ℕ → Option (List ℕ) → List (List ℕ) → Option Message
answer_of key id frames = answer_as id (signed (read_parts key frames))

abbrev pub or_next : Option Message → Option Message → Option Message
or_next (Some message) next = Some message
or_next None next = next

-- the first answer among the frames of messages
unfoldable pub answer_in : List ℕ → Option (List ℕ) → List (List (List ℕ)) → Option Message
answer_in key id [] = None
answer_in key id (frames ∷ more) = or_next (answer_of key id frames) (answer_in key id more)

-- the first answer to a request in the octets of a stream
abbrev pub answer_to : List ℕ → Message → List ℕ → Option Message
answer_to key request octets = answer_in key (id_in request.header) (peer_stream octets).messages

-- THE STATUS OF AN ANSWER

-- whether a content is a JSON object whose `status` is the text `ok`
abbrev pub is_ok : List ℕ → Bool
is_ok content = unwrap_or (result_ok (read_status content)) false

-- WHAT IS WRITTEN

-- the octets of a message, signed under a key
abbrev pub request_octets : List ℕ → Message → List ℕ
request_octets key request = message_written (message_frames key request)

-- the request is written once the handshake is done, when the other side has an identity
abbrev pub opened : List ℕ → Message → Option (List ℕ) → List ℕ
opened key request None = []
opened key request (Some identity) = request_octets key request

-- what is written for the octets of a stream: the octets that they call for, the greeting first, and the request
abbrev pub due : List ℕ → Message → List ℕ → List ℕ
due key request octets = (peer_stream octets).send ++ opened key request (peer_stream octets).identity

-- THE SESSION

-- octets were read, all that is due for them was written, and this is the first answer among them
pub record IsAnswered (key : List ℕ) (request : Message) (left rest old new : Option (List ℕ)) (answer : Message) : Type 0 where
  pub octets : List ℕ
  pub took : Took octets left rest
  pub added : Added (due key request octets) old new
  pub answer_is : answer_to key request octets ≡ Some answer

-- octets were read, all that is due for them was written, and none of their messages is an answer; their stream has this
-- fault, or none
pub record IsUnanswered (key : List ℕ) (request : Message) (left rest old new : Option (List ℕ)) (fault : Option PeerFault) : Type 0 where
  pub octets : List ℕ
  pub took : Took octets left rest
  pub added : Added (due key request octets) old new
  pub no_answer : answer_to key request octets ≡ None
  pub fault_is : (peer_stream octets).fault ≡ fault

-- octets were read, and a front was written of what is due for them
pub record AskedFront (key : List ℕ) (request : Message) (left rest old new : Option (List ℕ)) : Type 0 where
  pub octets : List ℕ
  pub took : Took octets left rest
  pub added : AddedFront (due key request octets) old new

-- THE PARTS OF A SESSION, for the code's own contracts

-- what is written for a piece of a stream
abbrev pub due_for : List ℕ → Message → Talk → List ℕ → List ℕ
due_for key request t piece = sent t piece ++ opened key request (identity t piece)

-- the first answer to the request of an id in a piece
abbrev pub answer_by : List ℕ → Option (List ℕ) → Talk → List ℕ → Option Message
answer_by key id t piece = answer_in key id (messages t piece)

-- what ends a session: an answer, else a fault
abbrev pub taken_by : Option Message → Option PeerFault → Conclusion
taken_by (Some answer) fault = Answer answer
taken_by None (Some fault) = Fault fault
taken_by None None = Nothing
