-- What a command line asks for that runs codes on engines of its own.
use Rattle.std.specs.Prelude.{ℕ, ℤ, pos, ◌≤◌, ◌==◌, ◌&&◌, Bool, true, not, List, [], ◌∷◌, length, nat_le, Option, Some, None, bytes_eq, codes, if◌then◌else◌, option_map}
use Rattle.std.specs.List.{list_all, filter_map}
use Rattle.std.specs.Option.{is_some}
use Rattle.command_words.specs.Values.{number_from}
use Rattle.run_words.specs.declared.command.RunCommand.{RunCommand}
use Rattle.run_words.specs.declared.command.RunCommand.TheVariants.{Run, Map, Job}

-- THE WORDS OF THE COMMANDS

unfoldable pub run_word : List ℕ
run_word = codes "run"

unfoldable pub map_word : List ℕ
map_word = codes "map"

unfoldable pub job_word : List ℕ
job_word = codes "job"

-- SINGLE WORDS

-- it doesn't begin with a dash
abbrev pub is_plain : List ℕ → Bool
is_plain [] = true
is_plain (c ∷ cs) = not (c == 45)

-- from 1 to 64 engines
abbrev pub engines_from : List ℕ → Option ℕ
engines_from word = number_from 1 64 word

-- a code has at most 65,536 octets
abbrev pub is_code : List ℕ → Bool
is_code word = nat_le (length word) 65536

-- a body has at most 65,514, so that a code of it has no more than others
abbrev pub is_body : List ℕ → Bool
is_body word = nat_le (length word) 65514

-- a value from 0 to 2^63 - 1
abbrev pub value_from : List ℕ → Option ℤ
value_from word = option_map pos (number_from 0 9223372036854775807 word)

abbrev pub is_value : List ℕ → Bool
is_value word = is_some (value_from word)

-- LISTS OF WORDS

-- from 1 to 4,096 of them
abbrev pub are_within : List (List ℕ) → Bool
are_within words = nat_le 1 (length words) && nat_le (length words) 4096

abbrev pub codes_in : List (List ℕ) → Option (List (List ℕ))
codes_in words = if are_within words && list_all is_code words then Some words else None

abbrev pub values_in : List (List ℕ) → Option (List ℤ)
values_in words = if are_within words && list_all is_value words then Some (filter_map value_from words) else None

-- THE COMMANDS

abbrev pub run_with : Option ℕ → Option (List (List ℕ)) → Option RunCommand
run_with (Some engines) (Some codes) = Some (Run engines codes)
run_with _ _ = None

-- a number of engines and codes stand behind `run`
abbrev pub run_behind : List (List ℕ) → Option RunCommand
run_behind [] = None
run_behind (engines ∷ codes) = run_with (engines_from engines) (codes_in codes)

abbrev pub map_with : Option ℕ → Bool → List ℕ → Option (List ℤ) → Option RunCommand
map_with (Some engines) true body (Some values) = Some (Map engines body values)
map_with _ _ body _ = None

-- a number of engines, a body and values stand behind `map`
abbrev pub map_behind : List (List ℕ) → Option RunCommand
map_behind (engines ∷ body ∷ values) = map_with (engines_from engines) (is_body body) body (values_in values)
map_behind _ = None

abbrev pub job_with : Option ℕ → List ℕ → Option RunCommand
job_with (Some engines) text = Some (Job engines text)
job_with None text = None

-- a number of engines and a text stand behind `job`
abbrev pub job_behind : List (List ℕ) → Option RunCommand
job_behind (engines ∷ text ∷ []) = job_with (engines_from engines) text
job_behind _ = None

-- what a command asks for with the words behind it
abbrev pub asked_by : List ℕ → List (List ℕ) → Option RunCommand
asked_by command words =
    if bytes_eq command run_word then run_behind words
    else if bytes_eq command map_word then map_behind words
    else if bytes_eq command job_word then job_behind words
    else None

-- what words ask for, where they have a reading: the first one is the command, and none behind it begins with a dash
abbrev pub run_reading : List (List ℕ) → Option RunCommand
run_reading [] = None
run_reading (command ∷ words) = if list_all is_plain words then asked_by command words else None

-- how many engines a command asks for
abbrev pub engines_of : RunCommand → ℕ
engines_of (Run engines codes) = engines
engines_of (Map engines body values) = engines
engines_of (Job engines text) = engines

-- there are from 1 to 64 engines
abbrev pub IsInRange : RunCommand → Type 0
IsInRange command = (1 ≤ engines_of command) × (engines_of command ≤ 64)
