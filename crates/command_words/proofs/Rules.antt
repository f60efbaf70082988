-- A simple command of options and positional words, and what its matches have.
use Rattle.std.proofs.Common.{◌≡◌, ◌∙◌, refl, sym, ap, ap₂, subst, arith, ℕ, ◌+◌, Bool, true, false, cond, not, ◌&&◌, ◌||◌, true≢false, eqb, List, [], ◌∷◌, ◌++◌, map, Option, Some, None}
use Rattle.std.specs.Prelude.{is_some}
use Rattle.std.specs.Option.{option_map_or}
use Rattle.std.specs.List.{count_by, find, fold, list_all, list_any}
use Rattle.std.specs.Str.{bytes_eq}
use Rattle.std.proofs.lemmas.Slice.Eq.{bytes_eq-Decides}
use Rattle.clap.specs.Kinds.{Kinds, or_else}
use Rattle.clap.specs.Walk.{Row, Rule, Text, Walk, idle, has_row, is_early_multiple, nothing_held, settled, walk, with_default}
use Rattle.clap.specs.Simple.{Shape, built, entered, filled_from}
use Rattle.clap.specs.Takes.{is_given}
use Rattle.clap.specs.Faults.{check_fault, defaults_fault, entered_fault, fault_of, is_simple_and_free, settle_fault, walk_fault}
use Rattle.command_words.specs.Simple.{has_option, option_rule, simple_of, word_id, word_rule}
use Rattle.command_words.proofs.Walk.{IsRead, IsWell, fault_from, first_nil, second_nil, option_filled, stand, word_filled}
use Rattle.cluster_types.proofs.Booleans.{or_false, or_true}

-- ITS RULES

abbrev rules_for : List Text → List Rule
rules_for options = map option_filled options ++ word_filled ∷ []

rules_filled : (options : List Text) → filled_from 1 (map option_rule options ++ word_rule ∷ []) ≡ rules_for options
rules_filled [] = refl
rules_filled (o ∷ os) = ap (λ (rs : List Rule). option_filled o ∷ rs) (rules_filled os)

both_same : {X : Type 0} (b : Bool) (x : X) → cond b x x ≡ x
both_same true x = refl
both_same false x = refl

-- an option's name, by a test that finds it
found : (o name : Text) → bytes_eq o name ≡ true → Some (option_filled o) ≡ Some (option_filled name)
found o name e = ap (λ (t : Text). Some (option_filled t)) ((bytes_eq-Decides o name).0 e)

-- a search goes to the first option of the name
finds : (p : Rule → Bool) (name : Text) → ((o : Text) → p (option_filled o) ≡ bytes_eq o name) → (options : List Text) → has_option options name ≡ true
    → find p (rules_for options) ≡ Some (option_filled name)
finds p name is [] k = absurd (true≢false (sym k))
finds p name is (o ∷ os) k = go (bytes_eq o name) refl (finds p name is os)
  where
    go : (b : Bool) → bytes_eq o name ≡ b → (has_option os name ≡ true → find p (rules_for os) ≡ Some (option_filled name)) → find p (rules_for (o ∷ os)) ≡ Some (option_filled name)
    go true e rest = ap (λ (b : Bool). cond b (Some (option_filled o)) (find p (rules_for os))) (is o ∙ e) ∙ found o name e
    go false e rest = ap (λ (b : Bool). cond b (Some (option_filled o)) (find p (rules_for os))) (is o ∙ e)
        ∙ rest (ap (λ (b : Bool). b || has_option os name) (sym e) ∙ k)

-- a search that no option ends goes to the positional words
passes_by : (p : Rule → Bool) → (options : List Text) → ((o : Text) → list_any (λ x. bytes_eq x o) options ≡ true → p (option_filled o) ≡ false) → find p (rules_for options) ≡ find p (word_filled ∷ [])
passes_by p [] fails = refl
passes_by p (o ∷ os) fails =
    ap (λ (b : Bool). cond b (Some (option_filled o)) (find p (rules_for os))) (fails o (ap (λ (b : Bool). b || has_option os o) ((bytes_eq-Decides o o).1 refl)))
    ∙ passes_by p os (λ x k. fails x (ap (λ (b : Bool). bytes_eq o x || b) k ∙ or_true (bytes_eq o x)))

-- no option has a name that none has
pub apart : (options : List Text) (name : Text) → has_option options name ≡ false → (o : Text) → has_option options o ≡ true → bytes_eq o name ≡ false
apart options name none o k = go (bytes_eq o name) refl
  where
    go : (b : Bool) → bytes_eq o name ≡ b → bytes_eq o name ≡ false
    go false e = e
    go true e = absurd (true≢false (sym k ∙ ap (has_option options) ((bytes_eq-Decides o name).0 e) ∙ none))

is_read : (options : List Text) → has_option options word_id ≡ false → IsRead (rules_for options) options
is_read options none = record {
  known = λ name k. finds (λ a. not (is_some a.index) && (option_map_or (λ s. bytes_eq s name) a.long false || list_any (λ alias. bytes_eq alias name) a.aliases)) name (λ o. or_false (bytes_eq o name)) options k;
  unknown = λ name k. passes_by (λ a. not (is_some a.index) && (option_map_or (λ s. bytes_eq s name) a.long false || list_any (λ alias. bytes_eq alias name) a.aliases)) options
      (λ o h. or_false (bytes_eq o name) ∙ apart options name k o h);
  by_id = λ name k. finds (λ a. bytes_eq a.id name) name (λ o. refl) options k;
  place = passes_by (λ a. option_map_or (λ n. eqb n 1) a.index false) options (λ o h. refl);
  place_by_id = passes_by (λ a. bytes_eq a.id word_id) options (λ o h. apart options word_id none o h);
}

-- NO DEFAULTS, AND NOTHING THAT IS NEEDED

no_defaults : (options : List Text) (rows : List Row) → defaults_fault rows (rules_for options) ≡ []
unfolding defaults_fault
no_defaults [] rows = rw (or_true (has_row word_id rows)) refl
no_defaults (o ∷ os) rows = rw (or_true (has_row o rows)) (no_defaults os (with_default rows (option_filled o)))

none_added : (options : List Text) (rows : List Row) → fold with_default rows (rules_for options) ≡ rows
none_added [] rows = both_same (has_row word_id rows) rows
none_added (o ∷ os) rows = ap (λ (rs : List Row). fold with_default rs (rules_for os)) (both_same (has_row o rows) rows) ∙ none_added os rows

none_needed : (p : Rule → Bool) (options : List Text) → list_any (λ a. a.required && p a) (rules_for options) ≡ false
none_needed p [] = refl
none_needed p (o ∷ os) = none_needed p os

all_simple : (p : Rule → Bool) → ((o : Text) → p (option_filled o) ≡ true) → p word_filled ≡ true → (options : List Text) → list_all p (rules_for options) ≡ true
all_simple p each last [] = ap (λ (b : Bool). b && true) last
all_simple p each last (o ∷ os) = ap (λ (b : Bool). b && list_all p (rules_for os)) (each o) ∙ all_simple p each last os

one_place : (options : List Text) (n : ℕ) → fold (λ a x. a + cond (is_some x.index) 1 0) n (rules_for options) ≡ n + 1
one_place [] n = refl
one_place (o ∷ os) n = one_place os (n + 0) ∙ (let zero_added : n + 0 + 1 ≡ n + 1 = omega arith in zero_added)

in_order : (options : List Text) (n : ℕ) → n ≡ 1 → list_any (is_early_multiple n) (rules_for options) ≡ false
in_order [] n is = rw is refl
in_order (o ∷ os) n is = in_order os n is

unfilled_simple : (options : List Text) → list_all (λ (a : Rule). a.is_simple) (map option_rule options ++ word_rule ∷ []) ≡ true
unfilled_simple [] = refl
unfilled_simple (o ∷ os) = unfilled_simple os

-- `clap` says exactly what such a command makes of words
pub simple_and_free : (name : Text) (options : List Text) → is_simple_and_free (simple_of name options) ≡ true
simple_and_free name options = rw (
  unfilled_simple options,
  rules_filled options,
  all_simple (λ a. a.is_simple) (λ o. refl) refl options,
  all_simple (λ a. a.is_free) (λ o. refl) refl options,
  in_order options (count_by (λ a. is_some a.index) (rules_for options)) (one_place options 0),
) refl

-- THE FAULTS OF WORDS

abbrev pub shape_for : Text → List Text → Shape
shape_for name options = (built (simple_of name options)).top

pub read_for : (name : Text) (options : List Text) → has_option options word_id ≡ false → IsRead (shape_for name options).rules options
read_for name options none = subst (λ (rs : List Rule). IsRead rs options) (sym (rules_filled options)) (is_read options none)

abbrev stop_for : Text → List Text → List Text → Option (Text × List Text)
stop_for name options words = (walk (shape_for name options).rules [] nothing_held words).stopped

no_subcommand : (name : Text) (options : List Text) (stop : Option (Text × List Text)) → entered_fault (built (simple_of name options)) stop ≡ []
no_subcommand name options None = refl
no_subcommand name options (Some p) = refl

no_check : (name : Text) (options : List Text) (rows : List Row) → check_fault (shape_for name options) rows false ≡ []
no_check name options rows = rw (rules_filled options, none_needed (λ a. not (is_given a.id rows)) options) refl

no_defaults_for : (name : Text) (options : List Text) (rows : List Row) → defaults_fault rows (shape_for name options).rules ≡ []
no_defaults_for name options rows = ap (defaults_fault rows) (rules_filled options) ∙ no_defaults options rows

pub none_added_for : (name : Text) (options : List Text) (rows : List Row) → fold with_default rows (shape_for name options).rules ≡ rows
none_added_for name options rows = ap (fold with_default rows) (rules_filled options) ∙ none_added options rows

-- steps of a parse, none of which has a fault, and the two that have one
five_nil : (a b c d e : Kinds) → a ≡ [] → b ≡ [] → c ≡ [] → d ≡ [] → e ≡ [] → or_else a (or_else b (or_else c (or_else d e))) ≡ []
five_nil a b c d e p q r s t = λ i. or_else (p i) (or_else (q i) (or_else (r i) (or_else (s i) (t i))))

two_nil : (a b c d : Kinds) → or_else a (or_else b (or_else c d)) ≡ [] → or_else a c ≡ []
two_nil a b c d e = ap₂ or_else (first_nil a (or_else b (or_else c d)) e) (first_nil c d (second_nil b (or_else c d) (second_nil a (or_else b (or_else c d)) e)))

module _ (name : Text) (options : List Text) (none : has_option options word_id ≡ false) (words : List Text) where
  abbrev start : Walk
  start = stand nothing_held idle

  abbrev read : IsRead (shape_for name options).rules options
  read = read_for name options none

  abbrev pub rows_for : List Row
  rows_for = (settled (shape_for name options).rules (walk (shape_for name options).rules [] nothing_held words).held).rows

  abbrev faults_walked : Kinds
  faults_walked = walk_fault (shape_for name options) [] start words

  abbrev faults_below : Kinds
  faults_below = entered_fault (built (simple_of name options)) (stop_for name options words)

  abbrev faults_settled : Kinds
  faults_settled = settle_fault (shape_for name options).rules (shape_for name options).args_override_self (walk (shape_for name options).rules [] nothing_held words).held

  abbrev faults_default : Kinds
  faults_default = defaults_fault rows_for (shape_for name options).rules

  abbrev faults_checked : Kinds
  faults_checked = check_fault (shape_for name options) (fold with_default rows_for (shape_for name options).rules) (is_some (entered (built (simple_of name options)) (stop_for name options words)))

  pub faultless : (rows : List Row) → IsWell (shape_for name options) options read start words rows → fault_of (simple_of name options) words ≡ []
  faultless rows w = five_nil faults_walked faults_below faults_settled faults_default faults_checked (first_nil faults_walked faults_settled w.no_fault)
      (no_subcommand name options (stop_for name options words)) (second_nil faults_walked faults_settled w.no_fault) (no_defaults_for name options rows_for)
      (ap (λ (p : Option (Text × List Text)). check_fault (shape_for name options) (fold with_default rows_for (shape_for name options).rules) (is_some (entered (built (simple_of name options)) p))) w.no_stop
      ∙ no_check name options (fold with_default rows_for (shape_for name options).rules))

  pub faulty : (fault_from (shape_for name options) options read start words ≡ [] → ⊥) → fault_of (simple_of name options) words ≡ [] → ⊥
  faulty bad e = bad (two_nil faults_walked faults_below faults_settled (or_else faults_default faults_checked) e)
