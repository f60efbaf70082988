-- The words of a query: the fields of a record, and the operators of a test.
use Rattle.std.specs.Prelude.{ℕ, List, [], ◌∷◌, ◌++◌, Bool, ◌||◌, if◌then◌else◌, Option, Some, None, is_some, bytes_eq, codes, fold}
use Rattle.std.specs.List.{list_any}
use Rattle.cluster_defs.specs.declared.filter.Field.{Field}
use Rattle.cluster_defs.specs.declared.filter.Field.TheVariants.{MsgId, Number, Kind, Engine, State, Cause}
use Rattle.cluster_defs.specs.declared.filter.Vocabulary.{Vocabulary}
use Rattle.cluster_defs.specs.declared.filter.Vocabulary.TheVariants.{Fields, Operators}

-- the name of a field
abbrev pub field_name : Field → List ℕ
field_name MsgId = codes "msg_id"
field_name Number = codes "number"
field_name Kind = codes "kind"
field_name Engine = codes "engine"
field_name State = codes "state"
field_name Cause = codes "cause"

-- the field that a name names
unfoldable pub field_of : List ℕ → Option Field
field_of name =
    if bytes_eq name (codes "msg_id") then Some MsgId
    else (if bytes_eq name (codes "number") then Some Number
    else (if bytes_eq name (codes "kind") then Some Kind
    else (if bytes_eq name (codes "engine") then Some Engine
    else (if bytes_eq name (codes "state") then Some State
    else (if bytes_eq name (codes "cause") then Some Cause else None)))))

-- the fields in the order in which they stand where none is listed
abbrev pub all_fields : List Field
all_fields = MsgId ∷ Number ∷ Kind ∷ Engine ∷ State ∷ Cause ∷ []

-- whether two fields are the same
abbrev pub is_field : Field → Field → Bool
is_field field other = bytes_eq (field_name field) (field_name other)

-- the fields in order, each at its first place alone
abbrev pub with_new : List Field → Field → List Field
with_new found field = if list_any (λ other. is_field other field) found then found else found ++ field ∷ []

abbrev pub once : List Field → List Field
once fields = fold with_new [] fields

-- whether a text is an operator
unfoldable pub is_operator : List ℕ → Bool
is_operator name =
    bytes_eq name (codes "$in") || bytes_eq name (codes "$ne") || bytes_eq name (codes "$lt") || bytes_eq name (codes "$gt")

-- whether a text is one of some words
abbrev pub is_word : Vocabulary → List ℕ → Bool
is_word Fields name = is_some (field_of name)
is_word Operators name = is_operator name
