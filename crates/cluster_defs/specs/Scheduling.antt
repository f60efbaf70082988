-- The decision that is due, and which entries may stand: read off the facts.
use Rattle.std.specs.Prelude.{◌≡◌, ℕ, suc, min, ◌+◌, ◌*◌, ◌/◌, ◌%◌, ◌^◌, ◌==◌, nat_lt, nat_le, List, length, map, slice_get, Option, Some, None, Bool, true, false, not, ◌&&◌, ◌||◌, if◌then◌else◌, filter, find, count_by, option_map}
use Rattle.std.specs.List.{list_any, list_all, position_or_len}
use Rattle.std.specs.Option.{is_some, is_none, option_and_then}
use Rattle.cluster_types.specs.declared.config.Scheme.{Scheme}
use Rattle.cluster_types.specs.declared.config.Scheme.TheVariants.{Lru, LeastLoad, PlainRandom, TwoBin}
use Rattle.cluster_types.specs.declared.verdict.Verdict.{Verdict}
use Rattle.cluster_types.specs.declared.verdict.Verdict.TheVariants.{Completed, Failed, Aborted}
use Rattle.cluster_types.specs.declared.verdict.Cause.{Cause}
use Rattle.cluster_types.specs.declared.verdict.Cause.TheVariants.{Reply, EngineError, ImpossibleDependency, InvalidDependency, TaskTimeout, Abort}
use Rattle.cluster_types.specs.declared.event.Event.{Event}
use Rattle.cluster_types.specs.declared.entry.Input.{Input as InputType}
use Rattle.cluster_types.specs.declared.entry.Input.TheVariants.{Open, Up, Down, In, Beat, Time}
use Rattle.cluster_types.specs.declared.entry.Entry.{Entry}
use Rattle.cluster_types.specs.declared.entry.Entry.TheVariants.{Input, Hand, Settle, Lose}
use Rattle.cluster_defs.specs.declared.attempt.Attempt.{Attempt}
use Rattle.cluster_defs.specs.declared.attempt.Attempt.TheVariants.{EndedOk, EndedBadly, Lost, Withdrawn}
use Rattle.cluster_defs.specs.Words.{Id, or_else, is_empty}
use Rattle.cluster_defs.specs.Connections.{connection_on}
use Rattle.cluster_defs.specs.Engines.{lists_number, missed}
use Rattle.cluster_defs.specs.declared.settled.Settled.{Settled}
use Rattle.cluster_defs.specs.Tasks.{runs, runs_at, is_never}
use Rattle.cluster_defs.specs.Dependencies.{asked, met, unreachable, on_engine, scattered}
use Rattle.cluster_defs.specs.Requests.{Request, is_direct, is_bound, is_target, deadline}
use Rattle.cluster_defs.specs.Facts.{Facts, event_in, is_settled, is_direct_id}
use Rattle.cluster_defs.specs.Steps.{changes}

-- (a) AN ENGINE THAT MISSED TOO MANY BEATS

-- lose the lowest live engine that missed more beats than it may
abbrev pub lose_due : Facts → Option Entry
lose_due f = option_map (λ e. Lose e.number) (find (λ e. nat_lt f.misses (missed f.beats e)) f.engines.live)

-- (b) A TASK WHOSE ATTEMPTS ARE OVER

abbrev pub retries : Facts → Id → ℕ
retries f id = retries_of (f.request_of id)
  where
    retries_of : Option Request → ℕ
    retries_of None = 0
    retries_of (Some r) = r.retries

-- what was taken back is aborted; an ok reply completes; an error reply or a loss fails where no retry is left
abbrev pub verdict_at : Bool → Attempt → Option (Verdict × Cause)
verdict_at over (EndedOk n) = Some (Completed, Reply)
verdict_at over (EndedBadly n) = if over then Some (Failed, Reply) else None
verdict_at over (Lost n) = if over then Some (Failed, EngineError) else None
verdict_at over (Withdrawn engine) = Some (Aborted, Abort)
verdict_at over _ = None

-- the verdict and cause of a final id: `over` says that more attempts were spent than retries are allowed
abbrev pub verdict : Facts → Id → Option (Verdict × Cause)
verdict f id = verdict_at (nat_lt (retries f id) (f.task id).spent) (f.task id).last

abbrev pub is_final : Facts → Id → Bool
is_final f id = is_some (verdict f id) && not (is_settled f id)

abbrev pub settle_as : Id → Option (Verdict × Cause) → Option Entry
settle_as id = option_map (λ v. Settle id v.0 v.1)

-- settle the lowest final number
abbrev pub settle_due : Facts → Option Entry
settle_due f = option_and_then (λ id. settle_as id (verdict f id)) (find (is_final f) f.known)

-- (c) A TASK THAT IS INVALID, DEAD OR TIMED OUT

-- unsettled, without a current attempt
abbrev pub rests : Facts → Id → Bool
rests f id = not (is_settled f id) && not (runs (f.task id).last)

abbrev pub excludes : Facts → Id → ℕ → Bool
excludes f id n = list_any (λ m. m == n) (f.task id).excluded

abbrev pub is_live : Facts → ℕ → Bool
is_live f n = lists_number n f.engines.live

-- an engine is usable where it is live, not excluded, and a target where targets are listed
abbrev pub usable : Facts → Id → Request → ℕ → Bool
usable f id r n = is_live f n && not (excludes f id n) && is_target n r

abbrev pub usable_on : Facts → Id → Request → Option ℕ → Bool
usable_on f id r None = false
usable_on f id r (Some n) = usable f id r n

-- targets are listed, and none of them is live and not excluded
abbrev pub no_target : Facts → Id → Request → Bool
no_target f id r = is_bound r && list_all (λ n. not (is_live f n && not (excludes f id n))) r.targets

-- a listed id that finished otherwise than asked, or on no engine or one that isn't usable
abbrev pub spoils : Facts → Id → Request → Option Settled → Bool
spoils f id r None = false
spoils f id r (Some s) = not (asked r.follow (Some s) && usable_on f id r s.engine)

-- with `all`: some listed id spoils, or two finished on different engines; without: every listed id has finished and spoils
abbrev pub follow_spoilt : Facts → Id → Request → Bool → Bool
follow_spoilt f id r true = list_any (λ i. spoils f id r (f.settled i)) r.follow.ids || scattered f.settled r.follow.ids
follow_spoilt f id r false = list_all (λ i. spoils f id r (f.settled i)) r.follow.ids

abbrev pub follow_dead : Facts → Id → Request → Bool
follow_dead f id r = not (is_empty r.follow.ids) && follow_spoilt f id r r.follow.all

-- a Submit that can't run for good
abbrev pub is_dead : Facts → Id → Request → Bool
is_dead f id r = unreachable r.after f.settled || no_target f id r || follow_dead f id r

abbrev pub is_past : ℕ → Option ℕ → Bool
is_past now None = false
is_past now (Some moment) = nat_le moment now

abbrev pub is_timed_out : Facts → Request → Bool
is_timed_out f r = is_past f.now (deadline r)

-- why a Submit fails without an attempt, by the order of the causes
abbrev pub failing : Facts → Id → Request → Option Cause
failing f id r =
    if r.invalid then Some InvalidDependency
    else (if is_dead f id r then Some ImpossibleDependency else (if is_timed_out f r then Some TaskTimeout else None))

abbrev pub failing_as : Facts → Id → Option Request → Option Cause
failing_as f id None = None
failing_as f id (Some r) = if is_direct r then None else failing f id r

abbrev pub failing_id : Facts → Id → Option Cause
failing_id f id = if rests f id then failing_as f id (f.request_of id) else None

-- settle as Failed the lowest unsettled Submit without a current attempt that is invalid, dead or timed out
abbrev pub fail_due : Facts → Option Entry
fail_due f = option_and_then (λ id. option_map (λ cause. Settle id Failed cause) (failing_id f id)) (find (λ id. is_some (failing_id f id)) f.known)

-- (d) A DIRECT REQUEST

abbrev pub hand_to : Id → Option ℕ → Option Entry
hand_to id = option_map (λ n. Hand id n)

abbrev pub direct_engine : Option Request → Option ℕ
direct_engine None = None
direct_engine (Some r) = r.direct_to

-- the engine of an unsettled Direct without an attempt
abbrev pub ready_for : Facts → Id → Option ℕ
ready_for f id = if not (is_settled f id) && is_never (f.task id).last then direct_engine (f.request_of id) else None

-- hand out the lowest unsettled Direct without an attempt
abbrev pub direct_due : Facts → Option Entry
direct_due f = option_and_then (λ id. hand_to id (ready_for f id)) (find (λ id. is_some (ready_for f id)) f.known)

-- (e) A SUBMIT THAT MAY RUN

-- the number of current attempts of Submits on an engine
abbrev pub load : Facts → ℕ → ℕ
load f n = count_by (λ id. runs_at n (f.task id).last && not (is_direct_id f id)) f.known

-- whether a load is below the bound `hwm`; 0 is no bound
abbrev pub leaves_room : ℕ → ℕ → Bool
leaves_room hwm load = hwm == 0 || nat_lt load hwm

abbrev pub has_room : Facts → ℕ → Bool
has_room f n = leaves_room f.hwm (load f n)

-- what its request says: a Submit with attempts left, what it waits for met, what it follows met there, a target
abbrev pub may_run_as : Facts → Id → ℕ → Option Request → Bool
may_run_as f id n None = false
may_run_as f id n (Some r) =
    not (is_direct r) && nat_le (f.task id).spent r.retries && met r.after f.settled && met r.follow (λ i. on_engine n (f.settled i)) && is_target n r

-- whether a Submit may run on an engine
abbrev pub may_run : Facts → Id → ℕ → Bool
may_run f id n = rests f id && may_run_as f id n (f.request_of id) && is_live f n && not (excludes f id n) && has_room f n

-- the engines where it may run, in ascending order of last use
abbrev pub candidates : Facts → Id → List ℕ
candidates f id = filter (may_run f id) f.by_use

-- the first place of the least load
abbrev pub least_place : List ℕ → ℕ
least_place loads = position_or_len (λ n. list_all (nat_le n) loads) loads

-- the place of one of some loads, by a word: the least recently used, the least loaded, a random one, the lesser of two
abbrev pub pick : Scheme → List ℕ → ℕ → ℕ
pick Lru loads word = 0
pick LeastLoad loads word = least_place loads
pick PlainRandom loads word = word % length loads
pick TwoBin loads word = min ((word % 2 ^ 32) % length loads) ((word / 2 ^ 32) % length loads)

-- the engine that is picked
abbrev pub engine_for : Facts → Id → Option ℕ
engine_for f id = slice_get (candidates f id) (pick f.scheme (map (load f) (candidates f id)) f.word)

-- hand out the lowest number that may run
abbrev pub hand_due : Facts → Option Entry
hand_due f = option_and_then (λ id. hand_to id (engine_for f id)) (find (λ id. not (is_empty (candidates f id))) f.known)

-- DUE AND LEGAL

-- the one decision that is due
abbrev pub due : Facts → Option Entry
due f = or_else (lose_due f) (or_else (settle_due f) (or_else (fail_due f) (or_else (direct_due f) (hand_due f))))

-- whether an input may come: In and Down on a live connection, Up on a number that isn't, no In is junk, an Open first
abbrev pub may_take : Facts → InputType → Option Event → Bool
may_take f (Open moment scheme hwm misses) event = true
may_take f (Up conn channel moment word identity) event = f.begun && is_none (connection_on f.connections conn)
may_take f (Down conn moment word) event = is_some (connection_on f.connections conn)
may_take f (In conn moment word message) event = is_some event
may_take f (Beat moment word) event = f.begun
may_take f (Time moment word) event = f.begun

-- an input, with its event, may stand where no decision is due, and a decision where it is the due one
abbrev pub AllowedAs : Facts → Entry → Option Event → Type 0
AllowedAs f (Input input) event = (due f ≡ None) × (may_take f input event ≡ true)
AllowedAs f decision event = due f ≡ Some decision

abbrev pub Allowed : Facts → Entry → Type 0
Allowed f e = AllowedAs f e (event_in f e)

-- whether a crash leaves an entry: all are kept but a message that changes nothing
abbrev pub is_kept_as : Facts → Entry → Option Event → Bool
is_kept_as f (Input (In conn moment word message)) event = changes f conn message event
is_kept_as f _ event = true

abbrev pub is_kept : Facts → Entry → Bool
is_kept f e = is_kept_as f e (event_in f e)

-- how many decisions may still come, at most: an engine less weighs more than all tasks
abbrev pub open_work : Facts → ℕ
open_work f =
    length f.engines.live * suc (length f.known) + count_by (λ id. not (runs (f.task id).last)) f.known
    + count_by (λ id. not (is_settled f id)) f.known
