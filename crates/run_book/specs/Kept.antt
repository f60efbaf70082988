-- What the engines of a book have said: since the last Open each message on an engine's connection is an engine's registration, or
-- its answer to a request that had been passed on to that connection.
use Rattle.std.specs.Prelude.{◌≡◌, ◌≢◌, ◌⊎◌, ℕ, List, [], ◌∷◌, Option, Some, None, slice_get}
use Rattle.cluster_types.specs.declared.message.Message.{Message}
use Rattle.cluster_types.specs.declared.out.Out.TheVariants.{Pass, Made}
use Rattle.cluster_types.specs.declared.entry.Input.TheVariants.{Open, In}
use Rattle.cluster_types.specs.declared.entry.Entry.TheVariants.{Input}
use Rattle.cluster_defs.specs.Histories.{History}
use Rattle.cluster_defs.specs.Lives.{Sending, sendings_to}
use Rattle.cluster_store.specs.declared.taken.Taken.{Taken}
use Rattle.cluster_store.specs.declared.taken.Taken.TheVariants.{Out as Hands, NothingYet, Closed}
use Rattle.engine_core.specs.Answer.{Answers, registration}
use Rattle.engine_core.specs.State.{Standing}

-- the connection of the client; all others are engines'
abbrev pub client_conn : ℕ
client_conn = 1

-- since its last Open a history passed a message on to a connection
pub record WasPassed (history : History) (conn : ℕ) (message : Message) : Type 0 where
  pub place : ℕ
  pub sending : Sending
  pub sent : slice_get (sendings_to history conn) place ≡ Some sending
  pub to : ℕ
  pub is : sending.1 ≡ Pass to message

-- some engine answers a request so, at the moment 0
pub record IsAnswerTo (request reply : Message) : Type 0 where
  pub before : Standing
  pub after : Standing
  pub answers : Answers before request 0 (Some reply) after

-- a message answers a request that was passed on to its connection
pub record AnswersPassed (history : History) (conn : ℕ) (message : Message) : Type 0 where
  pub request : Message
  pub passed : WasPassed history conn request
  pub answer : IsAnswerTo request message

-- the registration of some engine, at the moment 0
abbrev pub IsRegistration : Message → Type 0
IsRegistration message = (uuid : List ℕ) × (message ≡ registration uuid 0)

-- a message that an engine sends on a connection behind a history
abbrev pub IsFromEngine : History → ℕ → Message → Type 0
IsFromEngine history conn message = IsRegistration message ⊎ AnswersPassed history conn message

-- a message may come on a connection behind a history: any on the client's, and on another what an engine sends
abbrev pub MayCome : History → ℕ → Message → Type 0
MayCome history conn message = conn ≢ client_conn → IsFromEngine history conn message

-- each message since the last Open might come where it did
abbrev pub AreSaid : History → Type 0
AreSaid [] = Unit {0}
AreSaid (Input (Open moment scheme hwm misses) ∷ older) = Unit {0}
AreSaid (Input (In conn moment word message) ∷ older) = MayCome older conn message × AreSaid older
AreSaid (_ ∷ older) = AreSaid older

-- the message that is passed on, where one was taken
abbrev pub passed_in : Taken → Option Message
passed_in (Hands (Pass conn message)) = Some message
passed_in (Hands (Made conn moment msg_id msg_type parent content buffers)) = None
passed_in NothingYet = None
passed_in Closed = None
