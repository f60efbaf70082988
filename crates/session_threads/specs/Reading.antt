-- What a reading session enters.
use Rattle.std.specs.Prelude.{◌≡◌, ⊤, ℕ, List, [], ◌∷◌, ◌++◌, Option, Some, None, Result, Ok, Err, false}
use Rattle.cluster_types.specs.declared.message.Message.{Message}
use Rattle.cluster_types.specs.declared.event.Event.{Event}
use Rattle.cluster_types.specs.declared.event.Reason.{Reason}
use Rattle.cluster_types.specs.declared.entry.Input.{Input as InputType}
use Rattle.cluster_types.specs.declared.entry.Input.TheVariants.{Down, In}
use Rattle.cluster_types.specs.declared.entry.Entry.{Entry}
use Rattle.cluster_store.specs.Stores.{is_live}
use Rattle.controller_desk.specs.Readings.{heard}
use Rattle.edges.specs.Streams.{Took}
use Rattle.history_lock.specs.declared.known.Content.{Content}
use Rattle.history_lock.specs.declared.known.View.{View}
use Rattle.history_lock.specs.History.{Extends}
use Rattle.link_messages.specs.Message.{signed}
use Rattle.jupyter_parts.specs.Signed.{read_parts}
use Rattle.zmtp_peer.specs.declared.fault.PeerFault.{PeerFault}
use Rattle.zmtp_peer.specs.PeerStream.{Talk, talked, messages, fault_of}
use Rattle.session_threads.specs.Passes.{AddsBehind, inputs_among}

-- WHAT IS ENTERED OF MESSAGES

-- Of what a message means on its connection: its In where it means something, nothing where it is junk. One whose
-- connection isn't live is not entered.
abbrev pub IsEnteredAs : ℕ → Message → Option (Result Event Reason) → List InputType → Type 0
IsEnteredAs conn message None inputs = ⊥
IsEnteredAs conn message (Some (Err reason)) inputs = inputs ≡ []
IsEnteredAs conn message (Some (Ok event)) inputs = (moment : ℕ) × (word : ℕ) × (inputs ≡ In conn moment word message ∷ [])

-- of a signed message, in one turn behind a history that the pass then saw
pub record IsEntered (conn : ℕ) (old : Content) (message : Message) (inputs : List InputType) (new : Content) : Type 0 where
  pub before : Content
  pub later : Extends old before
  pub meant : IsEnteredAs conn message (heard before.list conn message) inputs
  pub extends : Extends before new

-- of frames: what isn't signed with the key is passed over
abbrev pub HearsAs : ℕ → Content → Option Message → List InputType → Content → Type 0
HearsAs conn old (Some message) inputs new = IsEntered conn old message inputs new
HearsAs conn old None inputs new = (inputs ≡ []) × Extends old new

abbrev pub Hears : List ℕ → ℕ → Content → List (List ℕ) → List InputType → Content → Type 0
Hears key conn old frames inputs new = HearsAs conn old (signed (read_parts key frames)) inputs new

-- of the frames of messages, one after another; the inputs stand with the newest first
abbrev pub HearAll : List ℕ → ℕ → Content → List (List (List ℕ)) → List InputType → Content → Type 0
HearAll key conn old [] inputs new = (inputs ≡ []) × Extends old new
HearAll key conn old (frames ∷ more) inputs new =
    (mid : Content) × (first : List InputType) × (rest : List InputType) × Hears key conn old frames first mid × HearAll key conn mid more rest new × (inputs ≡ rest ++ first)

-- A pass entered messages, in order and each once, and behind them these further inputs; and no others.
pub record Entered (key : List ℕ) (conn : ℕ) (messages : List (List (List ℕ))) (further : List InputType) (old new : View) : Type 0 where
  pub entries : List (ℕ × Entry)
  pub inputs : List InputType
  pub adds : AddsBehind entries old new
  pub inputs_are : inputs_among entries ≡ further ++ inputs
  pub hears : HearAll key conn old.seen messages inputs new.seen

-- it entered the first of them, and no others
pub record EnteredFront (key : List ℕ) (conn : ℕ) (messages : List (List (List ℕ))) (old new : View) : Type 0 where
  pub first : List (List (List ℕ))
  pub others : List (List (List ℕ))
  pub parts : messages ≡ first ++ others
  pub entered : Entered key conn first [] old new

-- THE SESSION

-- a Down of the connection, or nothing
abbrev pub IsDown : ℕ → List InputType → Type 0
IsDown conn [] = ⊤
IsDown conn (Down c moment word ∷ []) = c ≡ conn
IsDown conn _ = ⊥

-- a pass took the connection down, or added nothing
pub record TakesDown (conn : ℕ) (old new : View) : Type 0 where
  pub entries : List (ℕ × Entry)
  pub adds : AddsBehind entries old new
  pub is_down : IsDown conn (inputs_among entries)

-- the messages of a session: those that came with the handshake, and those that the octets read end
abbrev pub session_messages : List (List (List ℕ)) → Talk → List ℕ → List (List (List ℕ))
session_messages early talk octets = early ++ messages talk octets

-- Octets were read, and a pass entered the first of the session's messages, and then a Down or nothing.
pub record ReadsFront (key : List ℕ) (conn : ℕ) (early : List (List (List ℕ))) (talk : Talk) (left rest : Option (List ℕ)) (old new : View) : Type 0 where
  pub octets : List ℕ
  pub first : List (List (List ℕ))
  pub others : List (List (List ℕ))
  pub down : List InputType
  pub took : Took octets left rest
  pub parts : session_messages early talk octets ≡ first ++ others
  pub is_down : IsDown conn down
  pub entered : Entered key conn first down old new

-- Octets were read, whose stream has this fault or none; a pass entered all messages of the session, and then a Down or
-- nothing; and the connection isn't live.
pub record ReadsWhole (key : List ℕ) (conn : ℕ) (early : List (List (List ℕ))) (talk : Talk) (fault : Option PeerFault) (left rest : Option (List ℕ)) (old new : View) : Type 0 where
  pub octets : List ℕ
  pub down : List InputType
  pub took : Took octets left rest
  pub fault_is : fault_of (talked talk octets).phase ≡ fault
  pub is_down : IsDown conn down
  pub entered : Entered key conn (session_messages early talk octets) down old new
  pub gone : is_live new.seen.list conn ≡ false

-- THE PARTS OF A SESSION, for the code's own contracts

-- octets were read, and all messages of the session were entered
pub record Heard (key : List ℕ) (conn : ℕ) (early : List (List (List ℕ))) (talk now : Talk) (left rest : Option (List ℕ)) (old new : View) : Type 0 where
  pub octets : List ℕ
  pub took : Took octets left rest
  pub talk_is : now ≡ talked talk octets
  pub entered : Entered key conn (session_messages early talk octets) [] old new

-- octets were read, whose stream has this fault or none, and all messages of the session were entered
abbrev pub HeardWith : List ℕ → ℕ → List (List (List ℕ)) → Talk → Option PeerFault → (left rest : Option (List ℕ)) → (old new : View) → Type 0
HeardWith key conn early talk fault left rest old new = (now : Talk) × Heard key conn early talk now left rest old new × (fault_of now.phase ≡ fault)

-- octets were read, and the first messages of the session were entered
pub record HeardFront (key : List ℕ) (conn : ℕ) (early : List (List (List ℕ))) (talk : Talk) (left rest : Option (List ℕ)) (old new : View) : Type 0 where
  pub octets : List ℕ
  pub took : Took octets left rest
  pub entered : EnteredFront key conn (session_messages early talk octets) old new
