-- The simple commands by which `clap` reads the words behind a command.
use Rattle.std.specs.Prelude.{◌≡◌, ℕ, List, [], ◌∷◌, ◌++◌, Bool, true, Some, map, codes, option_map, unwrap_or}
use Rattle.std.specs.List.{list_any}
use Rattle.std.specs.Str.{bytes_eq}
use Rattle.clap.specs.Words.{App, Rule, matched_of, found_of, raw_values, new_rule}
use Rattle.clap.specs.Simple.{new_shape}
use Rattle.clap.specs.declared.builder.action.ArgAction.TheVariants.{Append}
use Rattle.clap.specs.declared.parser.matches.ArgMatches.{ArgMatches}
use Rattle.command_words.specs.Items.{Item, places, values}

-- the id of the positional words
abbrev pub word_id : List ℕ
word_id = codes "WORD"

-- an option `--name`, each time with one value
abbrev pub option_rule : List ℕ → Rule
option_rule name = record (new_rule name) { long = Some name; action = Some Append }

-- positional words, as many as come
abbrev pub word_rule : Rule
word_rule = record (new_rule word_id) { action = Some Append }

-- a command with these rules alone, whose words don't begin with its name
abbrev pub simple_with : List ℕ → List Rule → App
simple_with name rules = record {
  top = record (new_shape name) { rules = rules; no_binary_name = true; disable_help_flag = true };
  subs = [];
}

-- the command of these options, and of positional words
abbrev pub simple_of : List ℕ → List (List ℕ) → App
simple_of name options = simple_with name (map option_rule options ++ word_rule ∷ [])

-- an option has this name
abbrev pub has_option : List (List ℕ) → List ℕ → Bool
has_option options name = list_any (λ option. bytes_eq option name) options

-- the values of an id, of all its uses
abbrev pub values_of : ArgMatches → List ℕ → List (List ℕ)
values_of matches id = unwrap_or (option_map raw_values (matched_of (found_of matches) id)) []

-- the matches of these options have the positional words and the values of the items
pub record HasItems (options : List (List ℕ)) (matches : ArgMatches) (items : List Item) : Type 0 where
  pub placed : values_of matches word_id ≡ places items
  pub named : (name : List ℕ) → has_option options name ≡ true → values_of matches name ≡ values name items
