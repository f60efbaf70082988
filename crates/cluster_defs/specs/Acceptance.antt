-- Which Submits and Directs are accepted, and the requests that they make.
use Rattle.std.specs.Prelude.{ℕ, nat_le, List, [], ◌∷◌, length, Option, Some, None, Bool, true, false, ◌&&◌, if◌then◌else◌, bytes_eq, codes, option_map}
use Rattle.std.specs.Option.{is_none, option_and_then}
use Rattle.cluster_types.specs.declared.message.Message.{Message}
use Rattle.cluster_types.specs.declared.event.Dep.{Dep}
use Rattle.cluster_types.specs.declared.event.Submission.{Submission}
use Rattle.cluster_types.specs.declared.event.Event.{Event}
use Rattle.cluster_types.specs.declared.event.Event.TheVariants.{Submit, Direct}
use Rattle.cluster_types.specs.Limits.{most_ids}
use Rattle.cluster_defs.specs.declared.acceptance.Acceptance.{Acceptance}
use Rattle.cluster_defs.specs.declared.acceptance.Acceptance.TheVariants.{Reserved, Purged, Again, NoSuchEngine, Full, Accepted}
use Rattle.cluster_defs.specs.Words.{Id, is_listed, same_lists, begins_with, alike}
use Rattle.cluster_defs.specs.Connections.{peer_on}
use Rattle.cluster_defs.specs.Engines.{engine_named}
use Rattle.cluster_defs.specs.Requests.{Request, Body, is_direct, is_invalid, targets_of, body_of}
use Rattle.cluster_defs.specs.Facts.{Facts}

-- a Submit or a Direct
pub record Demand : Type 0 where
  pub direct : Bool
  pub submission : Submission

abbrev pub demanded : Option Event → Option Demand
demanded (Some (Submit s)) = Some (record { direct = false; submission = s })
demanded (Some (Direct s)) = Some (record { direct = true; submission = s })
demanded _ = None

-- ids that begin so are those of resubmissions
unfoldable pub reserved_front : List ℕ
reserved_front = codes "resubmit:"

-- whether kind, target, type, metadata, content and buffers are those of the request that has the id
abbrev pub is_same : Demand → Message → Option Request → Option Body → Bool
is_same d m (Some r) (Some b) =
    alike d.direct (is_direct r) && bytes_eq r.target m.target && bytes_eq r.msg_type d.submission.msg_type
    && bytes_eq r.metadata m.metadata && bytes_eq b.content m.content && same_lists b.buffers m.buffers
is_same d m _ _ = false

abbrev pub is_repeat : Facts → Demand → Message → Bool
is_repeat f d m = is_same d m (f.request_of d.submission.id) (f.body_of d.submission.id)

-- of an id that isn't known
abbrev pub acceptance_new : Facts → Demand → Message → Acceptance
acceptance_new f d m =
    if d.direct && is_none (engine_named f.engines.live m.target) then NoSuchEngine
    else (if nat_le most_ids (length f.known) then Full else Accepted)

-- of an id that isn't reserved
abbrev pub acceptance_open : Facts → Demand → Message → Acceptance
acceptance_open f d m =
    if f.purged d.submission.id then Purged
    else (if is_listed d.submission.id f.known then Again (is_repeat f d m) else acceptance_new f d m)

-- the first case that fits a Submit or Direct
abbrev pub acceptance : Facts → Demand → Message → Acceptance
acceptance f d m = if begins_with reserved_front d.submission.id then Reserved else acceptance_open f d m

abbrev pub is_accepted : Acceptance → Bool
is_accepted Accepted = true
is_accepted _ = false

abbrev pub accepted_as : Facts → Message → Demand → Option Demand
accepted_as f m d = if is_accepted (acceptance f d m) then Some d else None

-- the Submit or Direct of an event, where it is accepted
abbrev pub accepted : Facts → Message → Option Event → Option Demand
accepted f m event = option_and_then (accepted_as f m) (demanded event)

-- the empty dependency
abbrev pub no_dependency : Dep
no_dependency = record { ids = []; all = true; success = true; failure = false }

-- what both kinds have: the owner is the channel and identity of the connection
abbrev pub request_plain : Facts → ℕ → ℕ → Message → Submission → Request
request_plain f conn moment m s = record {
  owner = peer_on f.connections conn;
  direct_to = None;
  target = m.target;
  msg_type = s.msg_type;
  session = s.session;
  username = s.username;
  header = m.header;
  parent = m.parent;
  metadata = m.metadata;
  after = no_dependency;
  follow = no_dependency;
  listed = [];
  targets = [];
  accepted_at = moment;
  timeout = 0;
  retries = 0;
  invalid = false;
}

-- a Submit's targets are the engines live now whose uuid it lists
abbrev pub request_submit : Facts → ℕ → ℕ → Message → Submission → Request
request_submit f conn moment m s = record (request_plain f conn moment m s) {
  after = s.after;
  follow = s.follow;
  listed = s.targets;
  targets = targets_of f.engines.live s.targets;
  timeout = s.timeout;
  retries = s.retries;
  invalid = is_invalid f.known s.id s.after s.follow;
}

-- a Direct has the one engine whose uuid is its target, and neither dependencies nor retries
abbrev pub request_direct : Facts → ℕ → ℕ → Message → Submission → Request
request_direct f conn moment m s = record (request_plain f conn moment m s) {
  direct_to = option_map (λ e. e.number) (engine_named f.engines.live m.target);
}

abbrev pub request_made : Facts → ℕ → ℕ → Message → Demand → Request
request_made f conn moment m d = if d.direct then request_direct f conn moment m d.submission else request_submit f conn moment m d.submission

-- what an accepted request adds to the known ids
abbrev pub accepted_id : Option Demand → List Id
accepted_id None = []
accepted_id (Some d) = d.submission.id ∷ []

-- the request and the body of an id, where an accepted request makes them
abbrev pub request_from : Facts → ℕ → ℕ → Message → Id → Option Demand → Option Request
request_from f conn moment m id None = None
request_from f conn moment m id (Some d) = if bytes_eq d.submission.id id then Some (request_made f conn moment m d) else None

abbrev pub body_from : Message → Id → Option Demand → Option Body
body_from m id None = None
body_from m id (Some d) = if bytes_eq d.submission.id id then Some (body_of m) else None
