-- Requests that were accepted.
use Rattle.std.specs.Prelude.{ℕ, ◌+◌, ◌*◌, ◌==◌, List, [], ◌++◌, map, Option, Some, None, Bool, not, ◌||◌, if◌then◌else◌, filter, bytes_eq}
use Rattle.std.specs.List.{list_any}
use Rattle.std.specs.Option.{is_some}
use Rattle.cluster_types.specs.declared.message.Message.{Message}
use Rattle.cluster_types.specs.declared.event.Dep.{Dep}
use Rattle.cluster_defs.specs.declared.engine.Engine.{Engine}
use Rattle.cluster_defs.specs.Words.{Id, is_empty, is_listed}
use Rattle.cluster_defs.specs.declared.connection.Owner.{Owner}

-- what an accepted request says, without what is passed on unread
pub record Request : Type 0 where
  pub owner : Option Owner  -- the channel and identity that submitted it
  pub direct_to : Option ℕ  -- of a direct request its engine, of any other none
  pub target : List ℕ  -- the identity frame
  pub msg_type : List ℕ
  pub session : List ℕ
  pub username : List ℕ
  pub header : List ℕ  -- as it is handed out
  pub parent : List ℕ
  pub metadata : List ℕ
  pub after : Dep
  pub follow : Dep
  pub listed : List (List ℕ)  -- the uuids of its targets
  pub targets : List ℕ  -- the engines live at acceptance whose uuid is listed
  pub accepted_at : ℕ  -- the moment of the entry that accepted it
  pub timeout : ℕ  -- in seconds; 0 is none
  pub retries : ℕ
  pub invalid : Bool  -- a dependency lists its own id, or one that wasn't known before

-- what is passed on unread
pub record Body : Type 0 where
  pub content : List ℕ
  pub buffers : List (List ℕ)

-- an accepted request with what it passes on
pub record WholeRequest : Type 0 where
  pub request : Request
  pub body : Body

abbrev pub is_direct : Request → Bool
is_direct r = is_some r.direct_to

-- whether its targets are listed: a request that lists none may run anywhere
abbrev pub is_bound : Request → Bool
is_bound r = not (is_empty r.listed)

abbrev pub is_target : ℕ → Request → Bool
is_target n r = not (is_bound r) || list_any (λ m. m == n) r.targets

-- the engines live at acceptance whose uuid is listed
abbrev pub targets_of : List Engine → List (List ℕ) → List ℕ
targets_of live uuids = map (λ e. e.number) (filter (λ e. is_listed e.uuid uuids) live)

-- whether a dependency lists the task's own id, or an id that wasn't known before
abbrev pub is_invalid : List Id → Id → Dep → Dep → Bool
is_invalid known id after follow = list_any (λ i. bytes_eq i id || not (is_listed i known)) (after.ids ++ follow.ids)

-- the moment from which on it is timed out
abbrev pub deadline : Request → Option ℕ
deadline r = if r.timeout == 0 then None else Some (r.accepted_at + 1000 * r.timeout)

abbrev pub body_of : Message → Body
body_of message = record { content = message.content; buffers = message.buffers }

-- the parts of a message as they came, without identity frames
abbrev pub parts_of : Message → Message
parts_of message = record message { target = [] }
