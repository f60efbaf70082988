-- What a command line asks for.
use Rattle.std.specs.Prelude.{ℕ, ◌≤◌, List, [], ◌∷◌, Option, Some, None, bytes_eq, codes, if◌then◌else◌, option_and_then, option_map}
use Rattle.cluster_types.specs.declared.config.Scheme.{Scheme}
use Rattle.cluster_types.specs.declared.config.Scheme.TheVariants.{LeastLoad}
use Rattle.cluster_types.specs.Limits.{most_entries, most_record_octets}
use Rattle.command_words.specs.declared.command.Command.{Command}
use Rattle.command_words.specs.declared.command.Command.TheVariants.{Replay, Dump, Check, Compact, Work, Follow}
use Rattle.command_words.specs.declared.command.ReplayOptions.{ReplayOptions}
use Rattle.command_words.specs.Items.{Item, known_items, places, values}
use Rattle.command_words.specs.Values.{needed, optional, key_from, scheme_from, number_from}

-- THE WORDS OF THE COMMANDS

unfoldable pub replay_word : List ℕ
replay_word = codes "replay"

unfoldable pub dump_word : List ℕ
dump_word = codes "dump"

unfoldable pub check_word : List ℕ
check_word = codes "check"

unfoldable pub compact_word : List ℕ
compact_word = codes "compact"

unfoldable pub work_word : List ℕ
work_word = codes "work"

unfoldable pub follow_word : List ℕ
follow_word = codes "follow"

-- THE NAMES OF OPTIONS, WITHOUT THEIR DASHES

unfoldable pub key_name : List ℕ
key_name = codes "key"

unfoldable pub scheme_name : List ℕ
scheme_name = codes "scheme"

unfoldable pub hwm_name : List ℕ
hwm_name = codes "hwm"

unfoldable pub misses_name : List ℕ
misses_name = codes "misses"

unfoldable pub entries_name : List ℕ
entries_name = codes "entries"

unfoldable pub bytes_name : List ℕ
bytes_name = codes "bytes"

-- THE RANGES

-- the greatest bound of a load; the least is 0, which is no bound
abbrev pub greatest_hwm : ℕ
greatest_hwm = 1000000

-- the most missed beats that an engine may be granted; the fewest are 1
abbrev pub greatest_misses : ℕ
greatest_misses = 1000

-- the greatest seed of generated work; the least is 0
abbrev pub greatest_seed : ℕ
greatest_seed = 2147483647

-- the most tasks of generated work; the fewest are 0
abbrev pub greatest_tasks : ℕ
greatest_tasks = 500000

-- THE DATABASE

-- the one positional word
abbrev pub only_word : List (List ℕ) → Option (List ℕ)
only_word (word ∷ []) = Some word
only_word _ = None

abbrev pub database_items : List Item → Option (List ℕ)
database_items items = only_word (places items)

-- the database behind a command that has no options
abbrev pub database_in : List (List ℕ) → Option (List ℕ)
database_in words = option_and_then database_items (known_items [] words)

-- the database that a command is about, where it is about one
abbrev pub database_of : Command → Option (List ℕ)
database_of (Replay database options) = Some database
database_of (Dump database) = Some database
database_of (Check database) = Some database
database_of (Compact database) = Some database
database_of (Work seed tasks) = None
database_of (Follow database) = Some database

-- THE COMMANDS

abbrev pub replay_names : List (List ℕ)
replay_names = key_name ∷ scheme_name ∷ hwm_name ∷ misses_name ∷ entries_name ∷ bytes_name ∷ []

abbrev pub replay_with : Option (List ℕ) → Option Scheme → Option ℕ → Option ℕ → Option ℕ → Option ℕ → Option ReplayOptions
replay_with (Some key) (Some scheme) (Some hwm) (Some misses) (Some entries) (Some bytes) =
    Some (record { key = key; scheme = scheme; hwm = hwm; misses = misses; entries = entries; bytes = bytes })
replay_with _ _ _ _ _ _ = None

-- the options of `replay`, by the values of each
abbrev pub replay_options : (List ℕ → List (List ℕ)) → Option ReplayOptions
replay_options values_under =
    replay_with (needed key_from (values_under key_name)) (optional LeastLoad scheme_from (values_under scheme_name))
    (optional 1 (number_from 0 greatest_hwm) (values_under hwm_name))
    (optional 10 (number_from 1 greatest_misses) (values_under misses_name))
    (optional most_entries (number_from 1 most_entries) (values_under entries_name))
    (optional most_record_octets (number_from 1 most_record_octets) (values_under bytes_name))

-- one positional word stands behind `replay`
abbrev pub replay_behind : List (List ℕ) → (List ℕ → List (List ℕ)) → Option Command
replay_behind (database ∷ []) values_under = option_map (Replay database) (replay_options values_under)
replay_behind _ values_under = None

abbrev pub replay_items : List Item → Option Command
replay_items items = replay_behind (places items) (λ name. values name items)

abbrev pub replay_of : List (List ℕ) → Option Command
replay_of words = option_and_then replay_items (known_items replay_names words)

abbrev pub dump_of : List (List ℕ) → Option Command
dump_of words = option_map Dump (database_in words)

abbrev pub check_of : List (List ℕ) → Option Command
check_of words = option_map Check (database_in words)

abbrev pub compact_of : List (List ℕ) → Option Command
compact_of words = option_map Compact (database_in words)

abbrev pub follow_of : List (List ℕ) → Option Command
follow_of words = option_map Follow (database_in words)

abbrev pub work_with : Option ℕ → Option ℕ → Option Command
work_with (Some seed) (Some tasks) = Some (Work seed tasks)
work_with _ _ = None

-- a seed and a number of tasks stand behind `work`
abbrev pub work_behind : List (List ℕ) → Option Command
work_behind (seed ∷ tasks ∷ []) = work_with (number_from 0 greatest_seed seed) (number_from 0 greatest_tasks tasks)
work_behind _ = None

abbrev pub work_items : List Item → Option Command
work_items items = work_behind (places items)

abbrev pub work_of : List (List ℕ) → Option Command
work_of words = option_and_then work_items (known_items [] words)

-- what a command asks for with the words behind it
abbrev pub asked_by : List ℕ → List (List ℕ) → Option Command
asked_by command words =
    if bytes_eq command replay_word then replay_of words
    else if bytes_eq command dump_word then dump_of words
    else if bytes_eq command check_word then check_of words
    else if bytes_eq command compact_word then compact_of words
    else if bytes_eq command work_word then work_of words
    else if bytes_eq command follow_word then follow_of words
    else None

-- what words ask for, where they have a reading: the first one is the command
abbrev pub reading : List (List ℕ) → Option Command
reading [] = None
reading (command ∷ words) = asked_by command words

-- the numbers of a command are in their ranges
abbrev pub IsInRange : Command → Type 0
IsInRange (Work seed tasks) = (seed ≤ greatest_seed) × (tasks ≤ greatest_tasks)
IsInRange _ = Unit {0}
