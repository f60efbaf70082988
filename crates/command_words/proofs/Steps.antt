-- What the functions that read a command cite.
use Rattle.std.proofs.Common.{◌≡◌, ◌∙◌, refl, sym, ap, ap₂, subst, ℕ, ◌+◌, ◌<◌, length, take, get_or, map, Bool, true, false, List, [], ◌∷◌, true≢false, Option, Some, None, Result, Ok, Err, IsErrAnd}
use Rattle.std.specs.Prelude.{IsSomeAnd, option_and_then, option_map}
use Rattle.std.specs.Borrow.{Bor}
use Rattle.std.proofs.lemmas.List.{map_push, take_more}
use Rattle.clap.specs.Walk.{Rule, Text}
use Rattle.clap.specs.Simple.{App, with_rule}
use Rattle.clap.specs.declared.parser.matches.ArgMatches.{ArgMatches}
use Rattle.command_words.specs.declared.command.Command.TheVariants.{Replay}
use Rattle.command_words.specs.declared.command.CommandError.{CommandError}
use Rattle.command_words.specs.declared.command.CommandError.TheVariants.{OutOfMemory, Usage}
use Rattle.command_words.specs.Items.{Item, known_items, places, values}
use Rattle.command_words.specs.Simple.{HasItems, has_option, option_rule, simple_with, values_of, word_id}
use Rattle.command_words.specs.Values.{key_from, needed, number_from, optional, scheme_from}
use Rattle.cluster_types.specs.declared.config.Scheme.TheVariants.{LeastLoad}
use Rattle.cluster_types.specs.Limits.{most_entries, most_record_octets}
use Rattle.command_words.specs.Reading.{bytes_name, entries_name, greatest_hwm, greatest_misses, hwm_name, key_name, misses_name, database_items, database_in, only_word, replay_behind, replay_items, replay_names, replay_of, replay_options, replay_with, scheme_name, work_behind, work_items, work_of}

abbrev pub texts : List (Bor Text) → List Text
texts = map (λ t. t.now)

-- one more option
pub options_more : (name : Text) (options : List (Bor Text)) (i : ℕ) (o : Bor Text) → i < length options → (old new : App) (rule : Rule)
    → old ≡ simple_with name (map option_rule (texts (take i options))) → new ≡ with_rule old rule → rule ≡ option_rule (get_or options i o).now
    → new ≡ simple_with name (map option_rule (texts (take (i + 1) options)))
options_more name options i o lt old new rule old-is new-is rule-is =
    new-is ∙ ap₂ with_rule old-is rule-is
    ∙ ap (simple_with name) (sym (ap (λ (xs : List (Bor Text)). map option_rule (texts xs)) (take_more options i o lt)
    ∙ ap (map option_rule) (map_push (λ (t : Bor Text). t.now) (take i options) (get_or options i o)) ∙ map_push option_rule (texts (take i options)) (get_or options i o).now))

-- REPLAY

pub options_same : (f g : Text → List Text) → ((name : Text) → has_option replay_names name ≡ true → f name ≡ g name) → replay_options f ≡ replay_options g
unfolding key_name scheme_name hwm_name misses_name entries_name bytes_name
options_same f g is =
    let a = is key_name refl in
    let b = is scheme_name refl in
    let c = is hwm_name refl in
    let d = is misses_name refl in
    let e = is entries_name refl in
    let h = is bytes_name refl in
    λ i. replay_with (needed key_from (a i)) (optional LeastLoad scheme_from (b i)) (optional 1 (number_from 0 greatest_hwm) (c i))
    (optional 10 (number_from 1 greatest_misses) (d i)) (optional most_entries (number_from 1 most_entries) (e i)) (optional most_record_octets (number_from 1 most_record_octets) (h i))

behind_same : (places : List Text) (f g : Text → List Text) → ((name : Text) → has_option replay_names name ≡ true → f name ≡ g name) → replay_behind places f ≡ replay_behind places g
behind_same [] f g is = refl
behind_same (p ∷ []) f g is = ap (option_map (Replay p)) (options_same f g is)
behind_same (p ∷ q ∷ ps) f g is = refl

-- the reading, by the matches of the words
replay_by : (m : ArgMatches) (words : List Text) → IsSomeAnd (known_items replay_names words) (HasItems replay_names m) → replay_of words ≡ replay_behind (values_of m word_id) (values_of m)
replay_by m words h = go (known_items replay_names words) h
  where
    go : (o : Option (List Item)) → IsSomeAnd o (HasItems replay_names m) → option_and_then replay_items o ≡ replay_behind (values_of m word_id) (values_of m)
    go None h = absurd h
    go (Some items) h = behind_same (places items) (λ name. values name items) (values_of m) (λ name k. sym (h.named name k)) ∙ ap (λ (ps : List Text). replay_behind ps (values_of m)) (sym h.placed)

pub replay_is : (words behind : List Text) (m : ArgMatches) → words ≡ behind → IsSomeAnd (known_items replay_names words) (HasItems replay_names m)
    → replay_of behind ≡ replay_behind (values_of m word_id) (values_of m)
replay_is words behind m is h = replay_by m behind (subst (λ (ws : List Text). IsSomeAnd (known_items replay_names ws) (HasItems replay_names m)) is h)

pub replay_none : (words behind : List Text) → words ≡ behind → known_items replay_names words ≡ None → replay_of behind ≡ None
replay_none words behind is e = ap (option_and_then replay_items) (ap (known_items replay_names) (sym is) ∙ e)

-- COMMANDS WITHOUT OPTIONS

-- the database, by the matches of the words
database_by : (m : ArgMatches) (words : List Text) → IsSomeAnd (known_items [] words) (HasItems [] m) → database_in words ≡ only_word (values_of m word_id)
database_by m words h = go (known_items [] words) h
  where
    go : (o : Option (List Item)) → IsSomeAnd o (HasItems [] m) → option_and_then database_items o ≡ only_word (values_of m word_id)
    go None h = absurd h
    go (Some items) h = ap only_word (sym h.placed)

pub database_is : (words behind : List Text) (m : ArgMatches) → words ≡ behind → IsSomeAnd (known_items [] words) (HasItems [] m) → database_in behind ≡ only_word (values_of m word_id)
database_is words behind m is h = database_by m behind (subst (λ (ws : List Text). IsSomeAnd (known_items [] ws) (HasItems [] m)) is h)

pub database_none : (words behind : List Text) → words ≡ behind → known_items [] words ≡ None → database_in behind ≡ None
database_none words behind is e = ap (option_and_then database_items) (ap (known_items []) (sym is) ∙ e)

-- no work is read of other than two words
pub not_two : (given : List (Bor Text)) (words : List Text) → texts given ≡ words → (length given ≡ 2 → ⊥) → work_behind words ≡ None
not_two [] words is other = ap work_behind (sym is)
not_two (a ∷ []) words is other = ap work_behind (sym is)
not_two (a ∷ b ∷ []) words is other = absurd (other refl)
not_two (a ∷ b ∷ c ∷ more) words is other = ap work_behind (sym is)

-- the work, by the matches of the words
work_by : (m : ArgMatches) (words : List Text) → IsSomeAnd (known_items [] words) (HasItems [] m) → work_of words ≡ work_behind (values_of m word_id)
work_by m words h = go (known_items [] words) h
  where
    go : (o : Option (List Item)) → IsSomeAnd o (HasItems [] m) → option_and_then work_items o ≡ work_behind (values_of m word_id)
    go None h = absurd h
    go (Some items) h = ap work_behind (sym h.placed)

pub work_is : (words behind : List Text) (m : ArgMatches) → words ≡ behind → IsSomeAnd (known_items [] words) (HasItems [] m) → work_of behind ≡ work_behind (values_of m word_id)
work_is words behind m is h = work_by m behind (subst (λ (ws : List Text). IsSomeAnd (known_items [] ws) (HasItems [] m)) is h)

pub work_none : (words behind : List Text) → words ≡ behind → known_items [] words ≡ None → work_of behind ≡ None
work_none words behind is e = ap (option_and_then work_items) (ap (known_items []) (sym is) ∙ e)

-- ERRORS

abbrev is_usage : CommandError → Bool
is_usage Usage = true
is_usage OutOfMemory = false

abbrev error_in : {X : Type 0} → Result X CommandError → CommandError
error_in (Ok x) = OutOfMemory
error_in (Err e) = e

-- want of memory is no usage
pub memory_apart : {X : Type 0} (r : Result X CommandError) (P N : Type 0) → IsErrAnd r (λ e. (P → e ≡ OutOfMemory) × (N → e ≡ Usage)) → P → r ≡ Err Usage → ⊥
memory_apart (Ok x) P N given p is = absurd given
memory_apart (Err e) P N given p is = true≢false (ap is_usage (sym (ap error_in is) ∙ given.0 p))
