-- What a command line asks for that is about a cluster which stands at its ports.
use Rattle.std.specs.Prelude.{ℕ, ◌&&◌, List, [], ◌∷◌, length, nat_lt, nat_le, Option, Some, None, bytes_eq, codes, if◌then◌else◌, option_and_then, option_map}
use Rattle.command_words.specs.declared.command.ReplayOptions.{ReplayOptions}
use Rattle.command_words.specs.declared.standing.Action.{Action}
use Rattle.command_words.specs.declared.standing.Action.TheVariants.{Run, Result, Purge, Resubmit, Abort, Queue, History, Shutdown}
use Rattle.command_words.specs.declared.standing.StandingCommand.{StandingCommand}
use Rattle.command_words.specs.declared.standing.StandingCommand.TheVariants.{Serve, Engine, Client}
use Rattle.command_words.specs.Items.{Item, known_items, places, values}
use Rattle.command_words.specs.Reading.{key_name, only_word, replay_names, replay_options}
use Rattle.command_words.specs.Values.{needed, key_from, number_from}

-- THE WORDS OF THE COMMANDS AND ACTIONS

unfoldable pub serve_word : List ℕ
serve_word = codes "serve"

unfoldable pub engine_word : List ℕ
engine_word = codes "engine"

unfoldable pub client_word : List ℕ
client_word = codes "client"

unfoldable pub run_word : List ℕ
run_word = codes "run"

unfoldable pub result_word : List ℕ
result_word = codes "result"

unfoldable pub purge_word : List ℕ
purge_word = codes "purge"

unfoldable pub resubmit_word : List ℕ
resubmit_word = codes "resubmit"

unfoldable pub abort_word : List ℕ
abort_word = codes "abort"

unfoldable pub queue_word : List ℕ
queue_word = codes "queue"

unfoldable pub history_word : List ℕ
history_word = codes "history"

unfoldable pub shutdown_word : List ℕ
shutdown_word = codes "shutdown"

-- THE RANGES

-- the greatest first port; the three behind it are ports too. The least is 1.
abbrev pub greatest_port : ℕ
greatest_port = 65532

abbrev pub port_from : List ℕ → Option ℕ
port_from = number_from 1 greatest_port

-- a word of at least one octet, and so many at most
abbrev pub filled_from : ℕ → List ℕ → Option (List ℕ)
filled_from most word = if nat_lt 0 (length word) && nat_le (length word) most then Some word else None

-- the uuid of an engine has 1 to 200 octets
abbrev pub uuid_from : List ℕ → Option (List ℕ)
uuid_from = filled_from 200

-- the id of a task has 1 to 255 octets
abbrev pub id_from : List ℕ → Option (List ℕ)
id_from = filled_from 255

-- THE ACTIONS OF A CLIENT

abbrev pub action_alone : List ℕ → Option Action
action_alone word =
    if bytes_eq word queue_word then Some Queue
    else if bytes_eq word history_word then Some History
    else if bytes_eq word shutdown_word then Some Shutdown
    else None

abbrev pub action_about : (word argument : List ℕ) → Option Action
action_about word argument =
    if bytes_eq word run_word then Some (Run argument)
    else if bytes_eq word result_word then option_map Result (id_from argument)
    else if bytes_eq word purge_word then option_map Purge (id_from argument)
    else if bytes_eq word resubmit_word then option_map Resubmit (id_from argument)
    else if bytes_eq word abort_word then option_map Abort (id_from argument)
    else None

-- an action, with what it is about behind it where it is about something
abbrev pub action_of : List (List ℕ) → Option Action
action_of (word ∷ []) = action_alone word
action_of (word ∷ argument ∷ []) = action_about word argument
action_of _ = None

-- THE COMMANDS

abbrev pub serve_with : List ℕ → Option ℕ → Option (List ℕ) → Option ReplayOptions → Option StandingCommand
serve_with host (Some port) (Some database) (Some options) = Some (Serve host port database options)
serve_with _ _ _ _ = None

abbrev pub engine_with : List ℕ → Option ℕ → Option (List ℕ) → Option (List ℕ) → Option StandingCommand
engine_with host (Some port) (Some uuid) (Some key) = Some (Engine host port uuid key)
engine_with _ _ _ _ = None

abbrev pub client_with : List ℕ → Option ℕ → Option Action → Option (List ℕ) → Option StandingCommand
client_with host (Some port) (Some action) (Some key) = Some (Client host port action key)
client_with _ _ _ _ = None

-- a host, a port and the path of a database stand behind `serve`
abbrev pub serve_behind : List (List ℕ) → (List ℕ → List (List ℕ)) → Option StandingCommand
serve_behind (host ∷ port ∷ words) values_under = serve_with host (port_from port) (only_word words) (replay_options values_under)
serve_behind _ values_under = None

-- a host, a port and a uuid stand behind `engine`
abbrev pub engine_behind : List (List ℕ) → (List ℕ → List (List ℕ)) → Option StandingCommand
engine_behind (host ∷ port ∷ words) values_under = engine_with host (port_from port) (option_and_then uuid_from (only_word words)) (needed key_from (values_under key_name))
engine_behind _ values_under = None

-- a host, a port and an action stand behind `client`
abbrev pub client_behind : List (List ℕ) → (List ℕ → List (List ℕ)) → Option StandingCommand
client_behind (host ∷ port ∷ words) values_under = client_with host (port_from port) (action_of words) (needed key_from (values_under key_name))
client_behind _ values_under = None

abbrev pub key_alone : List (List ℕ)
key_alone = key_name ∷ []

-- what positional words and the values of options ask for, read off the words that have these options
abbrev pub read_of : (List (List ℕ) → (List ℕ → List (List ℕ)) → Option StandingCommand) → List Item → Option StandingCommand
read_of behind items = behind (places items) (λ name. values name items)

abbrev pub serve_of : List (List ℕ) → Option StandingCommand
serve_of words = option_and_then (read_of serve_behind) (known_items replay_names words)

abbrev pub engine_of : List (List ℕ) → Option StandingCommand
engine_of words = option_and_then (read_of engine_behind) (known_items key_alone words)

abbrev pub client_of : List (List ℕ) → Option StandingCommand
client_of words = option_and_then (read_of client_behind) (known_items key_alone words)

-- what a command asks for with the words behind it
abbrev pub standing_by : List ℕ → List (List ℕ) → Option StandingCommand
standing_by command words =
    if bytes_eq command serve_word then serve_of words
    else if bytes_eq command engine_word then engine_of words
    else if bytes_eq command client_word then client_of words
    else None

-- what words ask for, where they have a reading: the first one is the command
abbrev pub standing_reading : List (List ℕ) → Option StandingCommand
standing_reading [] = None
standing_reading (command ∷ words) = standing_by command words
