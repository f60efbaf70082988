-- What a line of a job says.
use Rattle.std.specs.Prelude.{ℕ, ◌==◌, nat_le, Bool, true, false, not, ◌&&◌, ◌||◌, if◌then◌else◌, List, [], ◌∷◌, length, drop, Option, Some, None, bytes_eq, codes, option_map}
use Rattle.std.specs.List.{list_all, slice_split}
use Rattle.std.specs.Option.{option_and_then}
use Rattle.std.specs.Char.{is_ascii_digit}
use Rattle.std.specs.Str.Parse.{digits_value}
use Rattle.arith_syntax.specs.Tree.{begins_name, is_word}
use Rattle.cluster_defs.specs.Words.{is_listed}
use Rattle.job_graph.specs.declared.task.JobTask.{JobTask}

-- NAMES AND NUMBERS

-- a letter or `_`, then letters, digits and `_`, at most 255
abbrev pub is_name : List ℕ → Bool
is_name name = begins_name name && list_all is_word name && nat_le (length name) 255

-- whether no text stands in a list twice
abbrev pub are_apart : List (List ℕ) → Bool
are_apart [] = true
are_apart (text ∷ texts) = not (is_listed text texts) && are_apart texts

abbrev pub apart_names : List (List ℕ) → Option (List (List ℕ))
apart_names names = if list_all is_name names && are_apart names then Some names else None

-- names with commas between them, none of them twice
abbrev pub names_in : List ℕ → Option (List (List ℕ))
names_in word = apart_names (slice_split (λ c. c == 44) word)

-- decimal digits alone, with a 0 ahead only where it is the whole number
abbrev pub is_number : List ℕ → Bool
is_number [] = false
is_number (digit ∷ digits) = list_all is_ascii_digit (digit ∷ digits) && (not (digit == 48) || length digits == 0)

abbrev pub at_most_1000 : ℕ → Option ℕ
at_most_1000 number = if nat_le number 1000 then Some number else None

-- a number from 0 to 1,000
abbrev pub retries_in : List ℕ → Option ℕ
retries_in word = if is_number word then at_most_1000 (digits_value 10 word) else None

-- THE PARTS OF A LINE

-- what stands behind a keyword, where the words begin with it, and the words behind that
abbrev pub part : List ℕ → List (List ℕ) → Option (List ℕ) × List (List ℕ)
part keyword [] = (None, [])
part keyword (word ∷ []) = (None, word ∷ [])
part keyword (word ∷ value ∷ words) = if bytes_eq word keyword then (Some value, words) else (None, word ∷ value ∷ words)

-- a part that is left out lists no names
abbrev pub names_said : Option (List ℕ) → Option (List (List ℕ))
names_said None = Some []
names_said (Some word) = names_in word

-- and says no retries
abbrev pub retries_said : Option (List ℕ) → Option ℕ
retries_said None = Some 0
retries_said (Some word) = retries_in word

-- nothing stands between the last blank and the colon
abbrev pub is_end : List (List ℕ) → Bool
is_end (last ∷ []) = length last == 0
is_end _ = false

-- the task of a name, its parts and a code
abbrev pub task_with : List ℕ → List ℕ → Option (List (List ℕ)) → Option (List (List ℕ)) → Option ℕ → Option JobTask
task_with name code (Some before) (Some beside) (Some retries) = Some (record { name = name; after = before; follow = beside; retries = retries; code = code })
task_with name code _ _ _ = None

-- its parts in their order, each left out or not, behind its name
abbrev pub after_part : List (List ℕ) → Option (List ℕ) × List (List ℕ)
after_part words = part (codes "after") words

abbrev pub follow_part : List (List ℕ) → Option (List ℕ) × List (List ℕ)
follow_part words = part (codes "follow") (after_part words).1

abbrev pub retries_part : List (List ℕ) → Option (List ℕ) × List (List ℕ)
retries_part words = part (codes "retries") (follow_part words).1

-- the task that words and a code say: a name, the parts, and nothing behind them
abbrev pub task_of : List (List ℕ) → List ℕ → Option JobTask
task_of [] code = None
task_of (name ∷ words) code =
    if is_name name && is_end (retries_part words).1
    then task_with name code (names_said (after_part words).0) (names_said (follow_part words).0) (retries_said (retries_part words).0)
    else None

-- THE LINE

abbrev pub begins_code : List ℕ → Bool
begins_code (c ∷ d ∷ more) = c == 58 && d == 32
begins_code _ = false

-- a line up to its first `: `, and what stands behind that
abbrev pub cut : List ℕ → Option (List ℕ × List ℕ)
cut [] = None
cut (c ∷ cs) = if begins_code (c ∷ cs) then Some ([], drop 2 (c ∷ cs)) else option_map (λ p. (c ∷ p.0, p.1)) (cut cs)

-- words parted by single blanks, and a code of at most 65,536 octets
abbrev pub task_in : List ℕ × List ℕ → Option JobTask
task_in p = if nat_le (length p.1) 65536 then task_of (slice_split (λ c. c == 32) p.0) p.1 else None

-- the task of a line, where it is formed as `NAME [after NAME,..] [follow NAME,..] [retries N] : CODE`
abbrev pub line_task : List ℕ → Option JobTask
line_task line = option_and_then task_in (cut line)
