-- The contents of an engine's messages, written without blanks.
use Rattle.std.specs.Prelude.{ℕ, ℤ, List, ◌∷◌, ◌++◌, map, Result, Ok, Err, codes, decimal}
use Rattle.std.specs.Fmt.{signed_decimal}
use Rattle.json.specs.Print.{quoted}
use Rattle.cluster_defs.specs.Texts.{object_text, outcome_content}
use Rattle.engine_core.specs.declared.fault.Fault.{Fault}
use Rattle.engine_core.specs.declared.evaluation.Shown.{Shown}
use Rattle.engine_core.specs.Faults.{ename, evalue}

-- of a registration, with the engine's uuid
unfoldable pub registration_content : List ℕ → List ℕ
registration_content uuid = codes "{\"uuid\":" ++ quoted uuid ++ codes "}"

-- of a request that failed: the execution count, the name of the fault, and what it is about
unfoldable pub failed_content : ℕ → List ℕ → List ℕ → List ℕ
failed_content count name about =
    codes "{\"status\":\"error\",\"execution_count\":" ++ decimal count ++ codes ",\"ename\":" ++ quoted name
    ++ codes ",\"evalue\":" ++ quoted about ++ codes ",\"traceback\":[]}"

-- of a value, as text
unfoldable pub value_content : ℤ → List ℕ
value_content value = codes "{\"status\":\"ok\",\"data\":{\"text/plain\":\"" ++ signed_decimal value ++ codes "\"},\"metadata\":{}}"

-- of what a user expression gave
abbrev pub shown_content : Result ℤ Fault → List ℕ
shown_content (Ok value) = value_content value
shown_content (Err fault) = outcome_content (ename fault) (evalue fault)

abbrev pub shown_member : Shown → List ℕ
shown_member shown = quoted shown.name ++ 58 ∷ shown_content shown.value

-- of a request whose code has a value: the execution count, what the user expressions gave, and the value
unfoldable pub executed_content : ℕ → List Shown → ℤ → List ℕ
executed_content count shown value =
    codes "{\"status\":\"ok\",\"execution_count\":" ++ decimal count ++ codes ",\"user_expressions\":" ++ object_text (map shown_member shown)
    ++ codes ",\"result\":\"" ++ signed_decimal value ++ codes "\"}"
