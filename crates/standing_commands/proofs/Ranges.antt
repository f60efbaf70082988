-- What words ask for is within its limits.
use Rattle.std.proofs.Common.{◌≡◌, ◌≤◌, ℕ, List, [], ◌∷◌, Bool, true, false, cond, ◌&&◌, refl, ap, subst, arith, Option, Some, None}
use Rattle.std.specs.Prelude.{nat_le, bytes_eq}
use Rattle.std.specs.Option.{option_and_then}
use Rattle.std.specs.Str.Parse.{digits_value}
use Rattle.std.proofs.lemmas.Bool.{leb-true, and_parts}
use Rattle.cluster_types.specs.Limits.{most_entries, most_record_octets}
use Rattle.cluster_types.specs.declared.config.Scheme.{Scheme}
use Rattle.cluster_types.specs.declared.config.Scheme.TheVariants.{LeastLoad}
use Rattle.command_words.specs.declared.command.ReplayOptions.{ReplayOptions}
use Rattle.command_words.specs.declared.standing.Action.{Action}
use Rattle.command_words.specs.declared.standing.StandingCommand.{StandingCommand}
use Rattle.command_words.specs.declared.standing.StandingCommand.TheVariants.{Serve, Engine, Client}
use Rattle.command_words.specs.Items.{Item, known_items, places, values}
use Rattle.command_words.specs.Reading.{key_name, scheme_name, hwm_name, misses_name, entries_name, bytes_name, greatest_hwm, greatest_misses, only_word, replay_names, replay_options, replay_with}
use Rattle.command_words.specs.Standing.{action_of, client_behind, client_of, client_with, client_word, engine_behind, engine_of, engine_with, engine_word, filled_from, key_alone, port_from, read_of, serve_behind, serve_of, serve_with, serve_word, standing_by, standing_reading, uuid_from}
use Rattle.command_words.specs.Values.{is_number, needed, key_from, number_from, optional, scheme_from, within}
use Rattle.engine_core.specs.State.{is_uuid}
use Rattle.standing_commands.specs.Commands.{IsInRange}

within_most : (low high m n : ℕ) → within low high m ≡ Some n → n ≤ high
within_most low high m n is = by (nat_le low m && nat_le m high) refl is
  where
    by : (b : Bool) → (nat_le low m && nat_le m high) ≡ b → cond b (Some m) None ≡ Some n → n ≤ high
    by true at h =
        let same : m ≡ n = cc in
        subst (λ k. k ≤ high) same (leb-true m high (and_parts (nat_le low m) (nat_le m high) at).1)
    by false at h = cc

number_most : (low high : ℕ) (value : List ℕ) (n : ℕ) → number_from low high value ≡ Some n → n ≤ high
number_most low high value n is = by (is_number value) is
  where
    by : (b : Bool) → cond b (within low high (digits_value 10 value)) None ≡ Some n → n ≤ high
    by true h = within_most low high (digits_value 10 value) n h
    by false h = cc

optional_most : (default low high : ℕ) (given : List (List ℕ)) (n : ℕ) → default ≤ high → optional default (number_from low high) given ≡ Some n → n ≤ high
optional_most default low high [] n le is =
    let same : default ≡ n = cc in
    subst (λ k. k ≤ high) same le
optional_most default low high (value ∷ []) n le is = number_most low high value n is
optional_most default low high (value ∷ next ∷ more) n le is = cc

entries_are : (key : Option (List ℕ)) (scheme : Option Scheme) (hwm misses entries bytes : Option ℕ) (o : ReplayOptions) → replay_with key scheme hwm misses entries bytes ≡ Some o → entries ≡ Some o.entries
entries_are (Some k) (Some s) (Some h) (Some m) (Some e) (Some b) o is =
    let whole : ReplayOptions = record { key = k; scheme = s; hwm = h; misses = m; entries = e; bytes = b } in
    let same : whole ≡ o = cc in
    ap (λ (p : ReplayOptions). Some p.entries) same
entries_are None s h m e b o is = cc
entries_are (Some k) None h m e b o is = cc
entries_are (Some k) (Some s) None m e b o is = cc
entries_are (Some k) (Some s) (Some h) None e b o is = cc
entries_are (Some k) (Some s) (Some h) (Some m) None b o is = cc
entries_are (Some k) (Some s) (Some h) (Some m) (Some e) None o is = cc

entries_most : (under : List ℕ → List (List ℕ)) (o : ReplayOptions) → replay_options under ≡ Some o → o.entries ≤ most_entries
entries_most under o is =
    optional_most most_entries 1 most_entries (under entries_name) o.entries (omega arith)
    (entries_are (needed key_from (under key_name)) (optional LeastLoad scheme_from (under scheme_name)) (optional 1 (number_from 0 greatest_hwm) (under hwm_name)) (optional 10 (number_from 1 greatest_misses) (under misses_name))
    (optional most_entries (number_from 1 most_entries) (under entries_name)) (optional most_record_octets (number_from 1 most_record_octets) (under bytes_name)) o is)

serve_in : (host : List ℕ) (port : Option ℕ) (database : Option (List ℕ)) (options : Option ReplayOptions) (c : StandingCommand) → ((o : ReplayOptions) → options ≡ Some o → o.entries ≤ most_entries) → serve_with host port database options ≡ Some c → IsInRange c
serve_in host (Some p) (Some d) (Some o) c most is =
    let same : Serve host p d o ≡ c = cc in
    subst IsInRange same (most o refl)
serve_in host None d o c most is = cc
serve_in host (Some p) None o c most is = cc
serve_in host (Some p) (Some d) None c most is = cc

serve_behind_in : (words : List (List ℕ)) (under : List ℕ → List (List ℕ)) (c : StandingCommand) → serve_behind words under ≡ Some c → IsInRange c
serve_behind_in [] under c is = cc
serve_behind_in (host ∷ []) under c is = cc
serve_behind_in (host ∷ port ∷ words) under c is = serve_in host (port_from port) (only_word words) (replay_options under) c (entries_most under) is

filled_is : (word uuid : List ℕ) → filled_from 200 word ≡ Some uuid → is_uuid uuid ≡ true
filled_is word uuid is = by (is_uuid word) refl is
  where
    by : (b : Bool) → is_uuid word ≡ b → cond b (Some word) None ≡ Some uuid → is_uuid uuid ≡ true
    by true at h =
        let same : word ≡ uuid = cc in
        subst (λ w. is_uuid w ≡ true) same at
    by false at h = cc

uuid_is : (word : Option (List ℕ)) (uuid : List ℕ) → option_and_then uuid_from word ≡ Some uuid → is_uuid uuid ≡ true
uuid_is None uuid is = cc
uuid_is (Some word) uuid is = filled_is word uuid is

engine_in : (host : List ℕ) (port : Option ℕ) (uuid key : Option (List ℕ)) (c : StandingCommand) → ((u : List ℕ) → uuid ≡ Some u → is_uuid u ≡ true) → engine_with host port uuid key ≡ Some c → IsInRange c
engine_in host (Some p) (Some u) (Some k) c fits is =
    let same : Engine host p u k ≡ c = cc in
    subst IsInRange same (fits u refl)
engine_in host None u k c fits is = cc
engine_in host (Some p) None k c fits is = cc
engine_in host (Some p) (Some u) None c fits is = cc

engine_behind_in : (words : List (List ℕ)) (under : List ℕ → List (List ℕ)) (c : StandingCommand) → engine_behind words under ≡ Some c → IsInRange c
engine_behind_in [] under c is = cc
engine_behind_in (host ∷ []) under c is = cc
engine_behind_in (host ∷ port ∷ words) under c is =
    engine_in host (port_from port) (option_and_then uuid_from (only_word words)) (needed key_from (under key_name)) c (uuid_is (only_word words)) is

client_in : (host : List ℕ) (port : Option ℕ) (action : Option Action) (key : Option (List ℕ)) (c : StandingCommand) → client_with host port action key ≡ Some c → IsInRange c
client_in host (Some p) (Some a) (Some k) c is =
    let same : Client host p a k ≡ c = cc in
    subst IsInRange same tt
client_in host None a k c is = cc
client_in host (Some p) None k c is = cc
client_in host (Some p) (Some a) None c is = cc

client_behind_in : (words : List (List ℕ)) (under : List ℕ → List (List ℕ)) (c : StandingCommand) → client_behind words under ≡ Some c → IsInRange c
client_behind_in [] under c is = cc
client_behind_in (host ∷ []) under c is = cc
client_behind_in (host ∷ port ∷ words) under c is = client_in host (port_from port) (action_of words) (needed key_from (under key_name)) c is

items_in : (behind : List (List ℕ) → (List ℕ → List (List ℕ)) → Option StandingCommand) (items : Option (List Item)) (c : StandingCommand) → ((words : List (List ℕ)) (under : List ℕ → List (List ℕ)) → behind words under ≡ Some c → IsInRange c) →
    option_and_then (read_of behind) items ≡ Some c → IsInRange c
items_in behind None c each is = cc
items_in behind (Some items) c each is = each (places items) (λ name. values name items) is

by_in : (command : List ℕ) (words : List (List ℕ)) (c : StandingCommand) → standing_by command words ≡ Some c → IsInRange c
by_in command words c is = first (bytes_eq command serve_word) is
  where
    third : (b : Bool) → cond b (client_of words) None ≡ Some c → IsInRange c
    third true h = items_in client_behind (known_items key_alone words) c (λ ws under. client_behind_in ws under c) h
    third false h = cc

    second : (b : Bool) → cond b (engine_of words) (cond (bytes_eq command client_word) (client_of words) None) ≡ Some c → IsInRange c
    second true h = items_in engine_behind (known_items key_alone words) c (λ ws under. engine_behind_in ws under c) h
    second false h = third (bytes_eq command client_word) h

    first : (b : Bool) → cond b (serve_of words) (cond (bytes_eq command engine_word) (engine_of words) (cond (bytes_eq command client_word) (client_of words) None)) ≡ Some c → IsInRange c
    first true h = items_in serve_behind (known_items replay_names words) c (λ ws under. serve_behind_in ws under c) h
    first false h = second (bytes_eq command engine_word) h

-- what words ask for is within its limits
pub reading_in : (words : List (List ℕ)) (c : StandingCommand) → standing_reading words ≡ Some c → IsInRange c
reading_in [] c is = cc
reading_in (command ∷ words) c is = by_in command words c is
