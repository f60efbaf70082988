-- The definition Filter: which records a query finds.
use Rattle.std.specs.Prelude.{ℕ, ◌==◌, nat_lt, List, Bool, true, false, not, ◌&&◌, Option, Some, None, filter, bytes_eq, codes, if◌then◌else◌}
use Rattle.std.specs.Cmp.Lexicographic.{slice_cmp}
use Rattle.std.specs.List.{list_any}
use Rattle.std.specs.Ordering.{is_lt, nat_cmp}
use Rattle.cluster_types.specs.declared.record.Record.{Record}
use Rattle.cluster_types.specs.declared.verdict.Cause.{Cause as CauseType}
use Rattle.cluster_types.specs.declared.verdict.Verdict.{Verdict}
use Rattle.cluster_types.specs.Verdicts.{verdict_name, cause_name}
use Rattle.cluster_defs.specs.declared.filter.Conditions.{Conditions}
use Rattle.cluster_defs.specs.declared.filter.Field.{Field}
use Rattle.cluster_defs.specs.declared.filter.Field.TheVariants.{MsgId, Number as NumberField, Kind, Engine, State, Cause}
use Rattle.cluster_defs.specs.declared.filter.Scalar.{Scalar}
use Rattle.cluster_defs.specs.declared.filter.Scalar.TheVariants.{Null, Text, Number}
use Rattle.cluster_defs.specs.declared.filter.Test.{Test}
use Rattle.cluster_defs.specs.declared.filter.Test.TheVariants.{Is, Meets}
use Rattle.cluster_defs.specs.declared.filter.Tests.{Tests}

-- WHAT A RECORD HAS

-- whether a task was sent to one engine
abbrev pub kind_name : Bool → List ℕ
kind_name direct = if direct then codes "direct" else codes "task"

-- how a task ended, or else whether an attempt is under way
abbrev pub state_name : Option (Verdict × CauseType) → Bool → List ℕ
state_name (Some ended) running = verdict_name ended.0
state_name None running = if running then codes "running" else codes "pending"

abbrev pub engine_value : Option ℕ → Scalar
engine_value None = Null
engine_value (Some engine) = Number engine

abbrev pub cause_value : Option (Verdict × CauseType) → Scalar
cause_value None = Null
cause_value (Some ended) = Text (cause_name ended.1)

-- what a record has in a field
abbrev pub value_of : Field → Record → Scalar
value_of MsgId r = Text r.id
value_of NumberField r = Number r.number
value_of Kind r = Text (kind_name r.direct)
value_of Engine r = engine_value r.engine
value_of State r = Text (state_name r.settled r.running)
value_of Cause r = cause_value r.settled

-- TESTS

-- whether two values are equal
abbrev pub is_same : Scalar → Scalar → Bool
is_same Null Null = true
is_same (Text text) (Text other) = bytes_eq text other
is_same (Number number) (Number other) = number == other
is_same _ _ = false

-- whether a value is below another: of two numbers, or of two texts by their octets
abbrev pub is_below : Scalar → Scalar → Bool
is_below (Text text) (Text other) = is_lt (slice_cmp nat_cmp text other)
is_below (Number number) (Number other) = nat_lt number other
is_below _ _ = false

-- what isn't there holds
abbrev pub where_there : {A : Type 0} → (A → Bool) → Option A → Bool
where_there p None = true
where_there p (Some x) = p x

-- whether a value meets all conditions
abbrev pub meets : Scalar → Conditions → Bool
meets value c =
    where_there (list_any (λ choice. is_same choice value)) c.among && where_there (λ other. not (is_same other value)) c.other_than
    && where_there (λ bound. is_below value bound) c.below && where_there (λ bound. is_below bound value) c.above

abbrev pub holds : Scalar → Test → Bool
holds value (Is wanted) = is_same wanted value
holds value (Meets conditions) = meets value conditions

abbrev pub holds_of : Field → Record → Option Test → Bool
holds_of field r = where_there (holds (value_of field r))

-- whether each test holds of its field
abbrev pub matches : Tests → Record → Bool
matches t r =
    holds_of MsgId r t.msg_id && holds_of NumberField r t.number && holds_of Kind r t.kind
    && holds_of Engine r t.engine && holds_of State r t.state && holds_of Cause r t.cause

-- THE RECORDS

-- a record that isn't purged and matches
abbrev pub is_found : Tests → Record → Bool
is_found t r = not r.purged && matches t r

-- the records that a query finds, by number
abbrev pub found : Tests → List Record → List Record
found t records = filter (λ r. is_found t r) records
