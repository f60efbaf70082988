-- What is seen of an id, put together of the pieces that a history says of it.
use Rattle.std.proofs.Common.{◌≡◌, ℕ, Bool, false, refl, Option, Some, None}
use Rattle.std.specs.Prelude.{option_map, if◌then◌else◌}
use Rattle.std.specs.Option.{option_and_then}
use Rattle.cluster_types.specs.declared.message.Message.{Message}
use Rattle.cluster_types.specs.declared.verdict.Cause.{Cause}
use Rattle.cluster_types.specs.declared.verdict.Cause.TheVariants.{Reply, EngineError, ImpossibleDependency, InvalidDependency, TaskTimeout, Abort}
use Rattle.cluster_defs.specs.Words.{Id}
use Rattle.cluster_defs.specs.declared.settled.Settled.{Settled}
use Rattle.cluster_defs.specs.Tasks.{Task, engine_of, runs}
use Rattle.cluster_defs.specs.Requests.{Request, Body, is_direct}
use Rattle.cluster_defs.specs.Facts.{Facts, is_direct_id}
use Rattle.cluster_defs.specs.Outcomes.{number_of, made_outcome, outcome_by}
use Rattle.task_table.specs.Seen.{Seen}
use Rattle.cluster_state.specs.Plain.{look}

abbrev pub outcome_with : ℕ → Option Request → Option Message → Settled → Cause → Option Message
outcome_with number request reply s Reply = reply
outcome_with number request reply s _ = option_map (made_outcome number s) request

abbrev pub outcome_from : ℕ → Option Request → Option Message → Option Settled → Option Message
outcome_from number request reply None = None
outcome_from number request reply (Some s) = outcome_with number request reply s s.cause

abbrev pub direct_in : Option Request → Bool
direct_in None = false
direct_in (Some r) = is_direct r

abbrev pub seen_from : Id → ℕ → Option Request → Option Body → Task → Option Message → Option Settled → Bool → Seen
seen_from id number request body task reply settled purged = record {
  row = record {
    id = id;
    number = number;
    direct = direct_in request;
    engine = engine_of task.last;
    running = runs task.last;
    settled = option_map (λ s. (s.verdict, s.cause)) settled;
    purged = purged;
    outcome = if purged then None else outcome_from number request reply settled;
  };
  request = request;
  body = body;
  attempts = task;
  reply = reply;
  settled = settled;
}

by_cause : (f : Facts) (id : Id) (s : Settled) (c : Cause) → outcome_by f id s c ≡ outcome_with (number_of f id) (f.request_of id) (f.reply_of id) s c
by_cause f id s Reply = refl
by_cause f id s EngineError = refl
by_cause f id s ImpossibleDependency = refl
by_cause f id s InvalidDependency = refl
by_cause f id s TaskTimeout = refl
by_cause f id s Abort = refl

outcome_at : (f : Facts) (id : Id) (o : Option Settled) → option_and_then (λ s. outcome_by f id s s.cause) o ≡ outcome_from (number_of f id) (f.request_of id) (f.reply_of id) o
outcome_at f id None = refl
outcome_at f id (Some s) = by_cause f id s s.cause

direct_is : (f : Facts) (id : Id) → is_direct_id f id ≡ direct_in (f.request_of id)
direct_is f id = elim (f.request_of id) as (λ o. f.request_of id ≡ o → is_direct_id f id ≡ direct_in o) [
  | None ↦ λ is. rw is refl
  | (Some r) ↦ λ is. rw is refl
] refl

pub look_is : (f : Facts) (id : Id) → look f id ≡ seen_from id (number_of f id) (f.request_of id) (f.body_of id) (f.task id) (f.reply_of id) (f.settled id) (f.purged id)
look_is f id = rw (outcome_at f id (f.settled id), direct_is f id) refl
