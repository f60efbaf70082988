-- What the functions that read a command about a host and a port cite.
use Rattle.std.proofs.Common.{◌≡◌, ◌∙◌, ◌<◌, refl, ap, sym, subst, arith, length, true, List, [], ◌∷◌, Option, Some, None}
use Rattle.std.specs.Prelude.{IsSomeAnd, option_and_then}
use Rattle.std.specs.Borrow.{Bor}
use Rattle.clap.specs.Walk.{Text}
use Rattle.clap.specs.declared.parser.matches.ArgMatches.{ArgMatches}
use Rattle.command_words.specs.declared.standing.StandingCommand.{StandingCommand}
use Rattle.command_words.specs.Items.{Item, known_items, places, values}
use Rattle.command_words.specs.Reading.{key_name, only_word, replay_names}
use Rattle.command_words.specs.Simple.{HasItems, has_option, values_of, word_id}
use Rattle.command_words.specs.Standing.{action_of, client_behind, client_of, client_with, engine_behind, engine_of, engine_with, key_alone, port_from, read_of, serve_behind, serve_of, serve_with, uuid_from}
use Rattle.command_words.specs.Values.{key_from, needed}
use Rattle.command_words.proofs.Steps.{options_same, texts}

-- FEWER THAN TWO WORDS

pub serve_few : (given : List (Bor Text)) (words : List Text) (v : Text → List Text) → texts given ≡ words → length given < 2 → serve_behind words v ≡ None
serve_few [] words v is few = ap (λ (ws : List Text). serve_behind ws v) (sym is)
serve_few (a ∷ []) words v is few = ap (λ (ws : List Text). serve_behind ws v) (sym is)
serve_few (a ∷ b ∷ more) words v is few = absurd (omega (arith, few))

pub engine_few : (given : List (Bor Text)) (words : List Text) (v : Text → List Text) → texts given ≡ words → length given < 2 → engine_behind words v ≡ None
engine_few [] words v is few = ap (λ (ws : List Text). engine_behind ws v) (sym is)
engine_few (a ∷ []) words v is few = ap (λ (ws : List Text). engine_behind ws v) (sym is)
engine_few (a ∷ b ∷ more) words v is few = absurd (omega (arith, few))

pub client_few : (given : List (Bor Text)) (words : List Text) (v : Text → List Text) → texts given ≡ words → length given < 2 → client_behind words v ≡ None
client_few [] words v is few = ap (λ (ws : List Text). client_behind ws v) (sym is)
client_few (a ∷ []) words v is few = ap (λ (ws : List Text). client_behind ws v) (sym is)
client_few (a ∷ b ∷ more) words v is few = absurd (omega (arith, few))

-- THE MATCHES OF THE WORDS

-- values of the names that are known
abbrev Agree : List Text → (f g : Text → List Text) → Type 0
Agree names f g = (name : Text) → has_option names name ≡ true → f name ≡ g name

abbrev Behind : Type 0
Behind = List Text → (Text → List Text) → Option StandingCommand

key_same : (f g : Text → List Text) → Agree key_alone f g → needed key_from (f key_name) ≡ needed key_from (g key_name)
unfolding key_name
key_same f g is = ap (needed key_from) (is key_name refl)

serve_same : (words : List Text) (f g : Text → List Text) → Agree replay_names f g → serve_behind words f ≡ serve_behind words g
serve_same [] f g is = refl
serve_same (host ∷ []) f g is = refl
serve_same (host ∷ port ∷ words) f g is = ap (serve_with host (port_from port) (only_word words)) (options_same f g is)

engine_same : (words : List Text) (f g : Text → List Text) → Agree key_alone f g → engine_behind words f ≡ engine_behind words g
engine_same [] f g is = refl
engine_same (host ∷ []) f g is = refl
engine_same (host ∷ port ∷ words) f g is = ap (engine_with host (port_from port) (option_and_then uuid_from (only_word words))) (key_same f g is)

client_same : (words : List Text) (f g : Text → List Text) → Agree key_alone f g → client_behind words f ≡ client_behind words g
client_same [] f g is = refl
client_same (host ∷ []) f g is = refl
client_same (host ∷ port ∷ words) f g is = ap (client_with host (port_from port) (action_of words)) (key_same f g is)

-- the reading, by the matches of the words
reads_by : (names : List Text) (behind : Behind) → ((words : List Text) (f g : Text → List Text) → Agree names f g → behind words f ≡ behind words g)
    → (m : ArgMatches) (words : List Text) → IsSomeAnd (known_items names words) (HasItems names m)
    → option_and_then (read_of behind) (known_items names words) ≡ behind (values_of m word_id) (values_of m)
reads_by names behind same m words h = go (known_items names words) h
  where
    go : (o : Option (List Item)) → IsSomeAnd o (HasItems names m) → option_and_then (read_of behind) o ≡ behind (values_of m word_id) (values_of m)
    go None h = absurd h
    go (Some items) h = same (places items) (λ name. values name items) (values_of m) (λ name k. sym (h.named name k)) ∙ ap (λ (ps : List Text). behind ps (values_of m)) (sym h.placed)

-- what has no known items has no reading
none_by : (names : List Text) (behind : Behind) (words others : List Text) → words ≡ others → known_items names words ≡ None → option_and_then (read_of behind) (known_items names others) ≡ None
none_by names behind words others is e = ap (option_and_then (read_of behind)) (ap (known_items names) (sym is) ∙ e)

abbrev Found : List Text → ArgMatches → List Text → Type 0
Found names m words = IsSomeAnd (known_items names words) (HasItems names m)

pub serve_is : (words others : List Text) (m : ArgMatches) → words ≡ others → Found replay_names m words → serve_of others ≡ serve_behind (values_of m word_id) (values_of m)
serve_is words others m is h = reads_by replay_names serve_behind serve_same m others (subst (Found replay_names m) is h)

pub serve_none : (words others : List Text) → words ≡ others → known_items replay_names words ≡ None → serve_of others ≡ None
serve_none words others is e = none_by replay_names serve_behind words others is e

pub engine_is : (words others : List Text) (m : ArgMatches) → words ≡ others → Found key_alone m words → engine_of others ≡ engine_behind (values_of m word_id) (values_of m)
engine_is words others m is h = reads_by key_alone engine_behind engine_same m others (subst (Found key_alone m) is h)

pub engine_none : (words others : List Text) → words ≡ others → known_items key_alone words ≡ None → engine_of others ≡ None
engine_none words others is e = none_by key_alone engine_behind words others is e

pub client_is : (words others : List Text) (m : ArgMatches) → words ≡ others → Found key_alone m words → client_of others ≡ client_behind (values_of m word_id) (values_of m)
client_is words others m is h = reads_by key_alone client_behind client_same m others (subst (Found key_alone m) is h)

pub client_none : (words others : List Text) → words ≡ others → known_items key_alone words ≡ None → client_of others ≡ None
client_none words others is e = none_by key_alone client_behind words others is e
