-- What an `execute_request` asks for (Jupyter messaging 5.3, "Execute"), or the first fault of its content.
use Rattle.std.specs.Prelude.{ℕ, true, false, List, [], ◌∷◌, Option, Some, None, Ok, Err, map, option_map, option_and_then, codes}
use Rattle.serde_json.specs.Data.{Data, Members, no_members, member}
use Rattle.serde_json.specs.Find.{get, as_str, as_object}
use Rattle.cluster_defs.specs.declared.fault.ReadError.TheVariants.{Missing}
use Rattle.cluster_defs.specs.Json.{Reading, reading_then, read_object}
use Rattle.cluster_defs.specs.Fields.{or_bad, flag_from}
use Rattle.engine_core.specs.declared.request.Expression.{Expression}
use Rattle.engine_core.specs.declared.request.ExecuteRequest.{ExecuteRequest}

-- a field that has to be there, and has to be a text
abbrev pub code_from : List ℕ → Option Data → Reading (List ℕ)
code_from field None = Err (Missing field)
code_from field (Some value) = or_bad field (as_str value)

abbrev pub expression : List ℕ → List ℕ → Expression
expression name code = record { name = name; code = code }

-- the expression that a member of an object is, where its value is a text
abbrev pub expression_in : List ℕ → Data → Option Expression
expression_in name value = option_map (expression name) (as_str value)

-- the members of an object, where each is a text; an object has each name once, and its names ascend
abbrev pub expressions_of : Members → Option (List Expression)
expressions_of no_members = Some []
expressions_of (member name value members) =
    option_and_then (λ first. option_map (λ rest. first ∷ rest) (expressions_of members)) (expression_in name value)

abbrev pub names_of : List Expression → List (List ℕ)
names_of expressions = map (λ e. e.name) expressions

-- the texts that an object is
abbrev pub expressions_in : Data → Option (List Expression)
expressions_in value = option_and_then expressions_of (as_object value)

-- a field that may be absent, and otherwise is an object of texts
abbrev pub expressions_from : List ℕ → Option Data → Reading (List Expression)
expressions_from field None = Ok []
expressions_from field (Some value) = or_bad field (expressions_in value)

abbrev pub execute_from : Data → Reading ExecuteRequest
execute_from value =
    reading_then (code_from (codes "code") (get (codes "code") value)) (λ code.
    reading_then (flag_from (codes "silent") false (get (codes "silent") value)) (λ silent.
    reading_then (flag_from (codes "store_history") true (get (codes "store_history") value)) (λ store_history.
    reading_then (expressions_from (codes "user_expressions") (get (codes "user_expressions") value)) (λ user_expressions.
    Ok (record { code = code; silent = silent; store_history = store_history; user_expressions = user_expressions })))))

unfoldable pub read_execute : List ℕ → Reading ExecuteRequest
read_execute content = reading_then (read_object content) execute_from
