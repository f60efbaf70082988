-- What holds of every legal history: the statements, each ready to be the contract of a law.
use Rattle.std.specs.Prelude.{◌≡◌, ◌<◌, ◌↔◌, ℕ, nat_lt, true, false, not, ◌&&◌, ◌==◌, List, [], ◌∷◌, ◌++◌, Some, None, is_some, Bool, map, bytes_eq}
use Rattle.std.specs.List.{list_any, list_all}
use Rattle.cluster_types.specs.declared.config.Channel.{Channel}
use Rattle.cluster_types.specs.declared.message.Message.{Message}
use Rattle.cluster_types.specs.declared.event.Query.{Query}
use Rattle.cluster_types.specs.Records.{AreRecords}
use Rattle.cluster_types.specs.declared.out.Out.TheVariants.{Pass}
use Rattle.cluster_types.specs.declared.verdict.Verdict.{Verdict}
use Rattle.cluster_types.specs.declared.verdict.Cause.{Cause}
use Rattle.cluster_types.specs.declared.verdict.Cause.TheVariants.{ImpossibleDependency}
use Rattle.cluster_types.specs.declared.entry.Entry.{Entry}
use Rattle.cluster_types.specs.declared.entry.Entry.TheVariants.{Input, Hand, Settle}
use Rattle.cluster_types.specs.declared.entry.Input.TheVariants.{Open}
use Rattle.cluster_types.specs.declared.config.Scheme.{Scheme}
use Rattle.cluster_defs.specs.declared.engine.Engine.{Engine}
use Rattle.cluster_defs.specs.Words.{Id, is_listed, once}
use Rattle.cluster_defs.specs.Engines.{conn_in}
use Rattle.cluster_defs.specs.declared.settled.Settled.{Settled}
use Rattle.cluster_defs.specs.Tasks.{engine_of}
use Rattle.cluster_defs.specs.Facts.{is_settled}
use Rattle.cluster_types.specs.Limits.{most_ids}
use Rattle.cluster_defs.specs.Aborts.{aborting}
use Rattle.cluster_defs.specs.Purges.{purge_list, purging, resubmitting}
use Rattle.cluster_defs.specs.Scheduling.{due, may_run, open_work, is_live}
use Rattle.cluster_defs.specs.Histories.{History, facts, Legal, kept, decide_all}
use Rattle.cluster_defs.specs.Outcomes.{hand_out, outcome}
use Rattle.cluster_defs.specs.Outs.{outs}
use Rattle.cluster_defs.specs.Queries.{answer}
use Rattle.cluster_defs.specs.TaskRecords.{records_of}
use Rattle.cluster_defs.specs.RecordAnswers.{answer_in}
use Rattle.cluster_defs.specs.RecordPlans.{purge_list_in, purge_in, resubmit_in, abort_in}
use Rattle.cluster_defs.specs.Uses.{last_use, Ascends, newest_word, newest_moment}
use Rattle.cluster_defs.specs.Thin.{thin}
use Rattle.cluster_defs.specs.Safety.{Safe}
use Rattle.cluster_defs.specs.Lives.{Move, Life, Belongs, IsFront, world}

-- DUE DECISIONS COME TO AN END

-- each due decision leaves less to decide
abbrev pub DueFalls : Type 0
DueFalls = (history : History) (d : Entry) → due (facts history) ≡ Some d → open_work (facts (d ∷ history)) < open_work (facts history)

-- all due decisions are those after one more
abbrev pub DecidesMore : Type 0
DecidesMore = (history : History) (d : Entry) → due (facts history) ≡ Some d → decide_all history ≡ decide_all (d ∷ history)

-- and none where none is due
abbrev pub DecidesNone : Type 0
DecidesNone = (history : History) → due (facts history) ≡ None → decide_all history ≡ history

-- SAFETY

-- every legal history has the five safe words
abbrev pub IsSafe : Type 0
IsSafe = (history : History) → Legal history → Safe history

-- KEPT ENTRIES

abbrev pub KeptIsLegal : Type 0
KeptIsLegal = (history : History) → Legal history → Legal (kept history)

abbrev pub KeptIsOwn : Type 0
KeptIsOwn = (history : History) → kept (kept history) ≡ kept history

-- all that is read off the kept entries is what is read off all entries
abbrev pub KeptReadsSame : Type 0
KeptReadsSame = (history : History) → facts (kept history) ≡ facts history

-- the places of last use differ, but not their order
abbrev pub KeptOrder : Type 0
KeptOrder =
    (history : History) (a b : ℕ) →
    nat_lt (last_use (kept history) a) (last_use (kept history) b) ≡ nat_lt (last_use history a) (last_use history b)

-- THE ORDER OF USES, THE WORD AND THE MOMENT

-- the order of the engines ascends by the places of their last use, and has each live engine
abbrev pub UseAscends : Type 0
UseAscends = (history : History) → Ascends (last_use history) (facts history).by_use

abbrev pub UseHasLive : Type 0
UseHasLive = (history : History) (n : ℕ) → is_live (facts history) n ≡ true → list_any (λ m. m == n) (facts history).by_use ≡ true

-- a Hand draws by the word of the newest input, kept or not, and the next after each Hand
abbrev pub DrawsByWord : Type 0
DrawsByWord = (history : History) (id : Id) (n : ℕ) → Legal (Hand id n ∷ history) → (facts history).word ≡ newest_word history

-- a Settle has the moment of the newest input, kept or not
abbrev pub SettlesAtMoment : Type 0
SettlesAtMoment =
    (history : History) (id : Id) (verdict : Verdict) (cause : Cause) →
    Legal (Settle id verdict cause ∷ history) → (facts history).moment ≡ newest_moment history

-- IMPOSSIBLE FOR GOOD

-- what is settled as impossible could not have run on any engine later on, whatever comes
abbrev pub ImpossibleStays : Type 0
ImpossibleStays =
    (history : History) (id : Id) (verdict : Verdict) → Legal (Settle id verdict ImpossibleDependency ∷ history) →
    (later : List Entry) (n : ℕ) → may_run (facts (later ++ history)) id n ≡ false

-- ONE HISTORY OVER EVERY LIFE

abbrev pub LifeIsLegal : Type 0
LifeIsLegal = (moves : List Move) → Life moves → Legal (world moves).history

-- what was ever sent belongs to the history
abbrev pub SentBelongs : Type 0
SentBelongs = (moves : List Move) → Life moves → Belongs (world moves).history (world moves).sent

-- an outcome that was sent stays the outcome
abbrev pub AnsweredAlike : Type 0
AnsweredAlike =
    (old history : History) (id : Id) → Legal history → IsFront (kept old) (kept history) →
    is_settled (facts old) id ≡ true → outcome (facts history) id ≡ outcome (facts old) id

-- THIN

abbrev pub ThinIsLegal : Type 0
ThinIsLegal = (history : History) → Legal history → Legal (thin history)

abbrev pub ThinIsKept : Type 0
ThinIsKept = (history : History) → Legal history → kept history ≡ history → kept (thin history) ≡ thin history

abbrev pub ThinDue : Type 0
ThinDue = (history : History) → Legal history → due (facts (thin history)) ≡ due (facts history)

-- the same further entries, beginning with an Open, are legal after both
abbrev pub ThinGoesOn : Type 0
ThinGoesOn =
    (history : History) (entries : List Entry) (moment : ℕ) (scheme : Scheme) (hwm misses : ℕ) → Legal history →
    Legal (entries ++ Input (Open moment scheme hwm misses) ∷ history) ↔ Legal (entries ++ Input (Open moment scheme hwm misses) ∷ thin history)

-- and send the same
abbrev pub ThinSendsSame : Type 0
ThinSendsSame =
    (history : History) (entries : List Entry) (moment : ℕ) (scheme : Scheme) (hwm misses : ℕ) → Legal history →
    Legal (entries ++ Input (Open moment scheme hwm misses) ∷ history) →
    outs (entries ++ Input (Open moment scheme hwm misses) ∷ thin history) ≡ outs (entries ++ Input (Open moment scheme hwm misses) ∷ history)

-- WHAT IS THERE WHEN IT IS NEEDED

-- no id is known twice
abbrev pub EachOnce : List Id → Type 0
EachOnce [] = Unit {0}
EachOnce (id ∷ ids) = (is_listed id ids ≡ false) × EachOnce ids

abbrev pub KnownOnce : Type 0
KnownOnce = (history : History) → EachOnce (facts history).known

-- what was known when something was sent is known still
abbrev pub KnownStays : Type 0
KnownStays =
    (old history : History) (id : Id) → IsFront (kept old) (kept history) → is_listed id (facts old).known ≡ true → is_listed id (facts history).known ≡ true

-- the live engines ascend by number, and no two have one connection or one uuid
abbrev pub EnginesAscend : List Engine → Type 0
EnginesAscend [] = Unit {0}
EnginesAscend (e ∷ engines) =
    (list_all (λ d. nat_lt e.number d.number && not (d.conn == e.conn) && not (bytes_eq d.uuid e.uuid)) engines ≡ true) × EnginesAscend engines

abbrev pub LiveAscend : Type 0
LiveAscend = (history : History) → EnginesAscend (facts history).engines.live

-- a Hand sends the request to the connection of its engine
abbrev pub HandsSend : Type 0
HandsSend =
    (history : History) (id : Id) (n : ℕ) → Legal (Hand id n ∷ history) →
    (conn : ℕ) × (message : Message) × (conn_in n (facts history).engines.live ≡ Some conn) × (hand_out (facts history) id ≡ Some message)
    × (outs (Hand id n ∷ history) ≡ Pass conn message ∷ [])

-- what is settled has an outcome
abbrev pub SettledAnswered : Type 0
SettledAnswered = (history : History) (id : Id) → Legal history → is_settled (facts history) id ≡ true → is_some (outcome (facts history) id) ≡ true

-- the records of all tasks are what a table of records keeps to
abbrev pub RecordsHold : Type 0
RecordsHold = (history : History) → Legal history → AreRecords (records_of (facts history))

-- what is settled was settled on the engine of its last attempt, and has had no attempt since
abbrev pub SettledEngine : Type 0
SettledEngine =
    (history : History) (id : Id) (s : Settled) → Legal history → (facts history).settled id ≡ Some s → s.engine ≡ engine_of ((facts history).task id).last

-- a question's answer can be told off the records and the live engines
abbrev pub RecordsAnswer : Type 0
RecordsAnswer =
    (history : History) (channel : Channel) (query : Query) (msg_type : List ℕ) → Legal history →
    answer_in (records_of (facts history)) (map (λ e. (e.number, e.uuid)) (facts history).engines.live) channel query msg_type
    ≡ answer (facts history) channel query msg_type

-- and what a Purge, a Resubmit and an Abort come to, off the records alone
abbrev pub RecordsPlan : Type 0
RecordsPlan =
    (history : History) (all : Bool) (ids : List Id) → Legal history →
    (purge_in (records_of (facts history)) (purge_list_in (records_of (facts history)) all ids) ≡ purging (facts history) (purge_list (facts history) all ids))
    × (resubmit_in (records_of (facts history)) most_ids (once ids) ≡ resubmitting (facts history) (once ids))
    × (abort_in (records_of (facts history)) (once ids) ≡ aborting (facts history) (once ids))
