-- How a client ends.
use Rattle.std.specs.Prelude.{◌≡◌, List, ℕ, [], ◌∷◌, ◌++◌, Option, Some, None}
use Rattle.link_commands.specs.Asking.{is_ok, IsAnswered, IsUnanswered}
use Rattle.cluster_types.specs.declared.message.Message.{Message}
use Rattle.edges.specs.Streams.{Added, AddedFront, IsAtEnd}
use Rattle.link_commands.specs.declared.client.ClientEnd.{ClientEnd}
use Rattle.link_commands.specs.declared.client.ClientEnd.TheVariants.{Answered, Unanswered, NotDialled, LinkFault, ZmtpFault, OutputFault, OutOfMemory}
use Rattle.link_commands.specs.Links.{Dials, Dialled, DialledAtMost, Prints, IsDialled, HasFailed}
use Rattle.zmtp_peer.specs.declared.fault.PeerFault.{PeerFault}

-- a request was answered over a link that was dialled
pub record HasAsked {I O : Type 0} (links : Dials I O) (key : List ℕ) (requests : Message → Type 0) (answer : Message) (i : I) (o : O) : Type 0 where
  pub reader : I
  pub writer : O
  pub request : Message
  pub link : IsDialled links reader writer
  pub request_is : requests request
  pub answered : IsAnswered key request (links.tells.left reader) (links.tells.left i) (links.tells.written writer) (links.tells.written o) answer

-- a request wasn't answered over a link that was dialled, whose stream has this fault, or none
pub record HasNoAnswer {I O : Type 0} (links : Dials I O) (key : List ℕ) (requests : Message → Type 0) (fault : Option PeerFault) (i : I) (o : O) : Type 0 where
  pub reader : I
  pub writer : O
  pub request : Message
  pub link : IsDialled links reader writer
  pub request_is : requests request
  pub unanswered : IsUnanswered key request (links.tells.left reader) (links.tells.left i) (links.tells.written writer) (links.tells.written o) fault

-- the content of an answer was printed, and a line feed
abbrev pub IsPrinted : Message → (old new : Option (List ℕ)) → Type 0
IsPrinted answer old new = Added (answer.content ++ 10 ∷ []) old new

-- no more than a front of it was printed
abbrev pub IsPrintedInPart : Message → (old new : Option (List ℕ)) → Type 0
IsPrintedInPart answer old new = AddedFront (answer.content ++ 10 ∷ []) old new

-- nothing was printed
abbrev pub IsUnprinted : Prints → Type 0
IsUnprinted output = output.now ≡ output.before

-- how a client ended: each end with its cause. It dials this channel, once, and prints nothing but the content of an answer. At Answered the content of the answer was printed, and `ok` says whether its
-- status is `ok`.
abbrev pub ClientEnds : {I O : Type 0} → Dials I O → (channel : ℕ) → (key : List ℕ) → (requests : Message → Type 0) → Prints → ClientEnd I O → Type 0
ClientEnds links channel key requests output (Answered ok i o) =
    Dialled channel links × (answer : Message) × HasAsked links key requests answer i o × IsPrinted answer output.before output.now × (ok ≡ is_ok answer.content)
ClientEnds links channel key requests output (Unanswered i o) = Dialled channel links × IsUnprinted output × HasNoAnswer links key requests None i o × IsAtEnd (links.tells.left i)
ClientEnds links channel key requests output (ZmtpFault fault i o) = Dialled channel links × IsUnprinted output × HasNoAnswer links key requests (Some fault) i o
ClientEnds links channel key requests output (LinkFault i o) = Dialled channel links × IsUnprinted output × HasFailed links.tells i o
ClientEnds links channel key requests output NotDialled = Dialled channel links × IsUnprinted output × links.failed
ClientEnds links channel key requests output (OutputFault i o) =
    Dialled channel links × (answer : Message) × HasAsked links key requests answer i o × IsPrintedInPart answer output.before output.now × output.failed
ClientEnds links channel key requests output OutOfMemory = DialledAtMost channel links × IsUnprinted output
