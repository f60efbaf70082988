-- The walk of `clap` over words, for a command of options with one value each, and of positional words.
use Rattle.std.proofs.Common.{◌≡◌, ◌∙◌, refl, sym, ap, subst, Bool, true, false, ◌&&◌, true≢false, List, [], ◌∷◌, drop, Option, Some, None}
use Rattle.std.specs.Option.{option_map_or}
use Rattle.std.specs.List.{fold, list_all}
use Rattle.std.specs.Str.{bytes_eq}
use Rattle.std.proofs.lemmas.Slice.Eq.{bytes_eq-Decides}
use Rattle.clap.specs.Kinds.{Kinds, or_else}
use Rattle.clap.specs.Walk.{Held, Row, Rule, Text, Waiting, idle, option, positional, Walk, arg_by_id, arg_by_index, arg_by_long, is_pending, pushed, reacted, settled, used, used_by_id, walked}
use Rattle.clap.specs.Simple.{Shape, filled, with_index}
use Rattle.clap.specs.Faults.{settle_fault, turn_fault, use_fault, walk_fault}
use Rattle.command_words.specs.Items.{Item, place, choice, dashed, is_formed, is_known, ahead, items_of}
use Rattle.command_words.specs.Simple.{option_rule, word_id, word_rule, has_option}
use Rattle.command_words.proofs.Words.{Form, IsNamed, IsOption, IsPlain, IsWhole, form_of, items_alone, items_dashed, items_name, items_parted, named, plain, plain_item, plain_name, whole}
use Rattle.std.proofs.lemmas.Bool.{and_parts}
use Rattle.cluster_types.proofs.Booleans.{and_false}

-- an option and the positional words, as building leaves them
abbrev pub option_filled : Text → Rule
option_filled name = with_index 1 (filled (option_rule name))

abbrev pub word_filled : Rule
word_filled = with_index 1 (filled word_rule)

-- what the walk finds among the rules
pub record IsRead (rules : List Rule) (options : List Text) : Type 0 where
  pub known : (name : Text) → has_option options name ≡ true → arg_by_long rules name ≡ Some (option_filled name)
  pub unknown : (name : Text) → has_option options name ≡ false → arg_by_long rules name ≡ None
  pub by_id : (name : Text) → has_option options name ≡ true → arg_by_id rules name ≡ Some (option_filled name)
  pub place : arg_by_index rules 1 ≡ Some word_filled
  pub place_by_id : arg_by_id rules word_id ≡ Some word_filled

-- where the walk stands
abbrev pub stand : Held → Waiting → Walk
stand held waiting = record { held = held; waiting = waiting; position = 1; is_trailing = false; stopped = None }

-- no option waits for a value
abbrev pub rested : Bool → Waiting
rested true = idle
rested false = positional

-- an option waits for its value
abbrev pub pending_on : Text → Held → Held
pending_on name held = record held { pending = Some (name, []) }

-- one more value
abbrev pub put : Text → Text → List Row → List Row
put id value rows = used (option_filled id) (value ∷ []) rows

abbrev pub put_item : List Row → Item → List Row
put_item rows (place word) = put word_id word rows
put_item rows (choice name value) = put (drop 2 name) value rows

-- KINDS

abbrev is_cons : Kinds → Bool
is_cons [] = false
is_cons (k ∷ ks) = true

pub first_nil : (a b : Kinds) → or_else a b ≡ [] → a ≡ []
first_nil [] b e = refl
first_nil (k ∷ ks) b e = absurd (true≢false (ap is_cons e))

pub second_nil : (a b : Kinds) → or_else a b ≡ [] → b ≡ []
second_nil [] b e = e
second_nil (k ∷ ks) b e = absurd (true≢false (ap is_cons e))

pub same_bytes : (t : Text) → bytes_eq t t ≡ true
same_bytes t = (bytes_eq-Decides t t).1 refl

module _ (s : Shape) (options : List Text) (r : IsRead s.rules options) where
  -- what is pending is used, and these are the rows then
  pub record Settles (held : Held) (rows : List Row) : Type 0 where
    pub rows_are : (settled s.rules held).rows ≡ rows
    pub no_fault : settle_fault s.rules s.args_override_self held ≡ []

  -- the word is read without a fault
  abbrev Turns : Walk → Text → Walk → Type 0
  Turns from word to = (turn_fault s [] from word ≡ []) × (walked s.rules [] from word ≡ to)

  -- ONE WORD

  whole_turn : (b : Bool) (held : Held) (rows : List Row) → Settles held rows → (word name value : Text) → IsOption word name (Some value) → has_option options name ≡ true
      → Turns (stand held (rested b)) word (stand (reacted s.rules (option_filled name) (value ∷ []) held) idle)
  unfolding walked
  whole_turn true held rows S word name value o k = (rw (o.trailing, o.long, r.known name k, S.no_fault) refl, rw (o.trailing, o.long, r.known name k) refl)
  whole_turn false held rows S word name value o k = (rw (o.trailing, o.long, r.known name k, S.no_fault) refl, rw (o.trailing, o.long, r.known name k) refl)

  named_turn : (b : Bool) (held : Held) (rows : List Row) → Settles held rows → (word name : Text) → IsOption word name None → has_option options name ≡ true
      → Turns (stand held (rested b)) word (stand (pending_on name (settled s.rules held)) (option name))
  unfolding walked
  named_turn true held rows S word name o k = (rw (o.trailing, o.long, r.known name k, S.no_fault) refl, rw (o.trailing, o.long, r.known name k) refl)
  named_turn false held rows S word name o k = (rw (o.trailing, o.long, r.known name k, S.no_fault) refl, rw (o.trailing, o.long, r.known name k) refl)

  plain_turn : (b : Bool) (held : Held) (rows : List Row) → Settles held rows → (word : Text) → IsPlain word
      → Turns (stand held (rested b)) word (stand (pushed word_id word (settled s.rules held)) positional)
  unfolding walked
  plain_turn true held rows S word p = (rw (p.trailing, p.long, p.short, r.place, and_false (is_pending word_filled held.pending), S.no_fault) refl, rw (p.trailing, p.long, p.short, r.place, and_false (is_pending word_filled held.pending)) refl)
  plain_turn false held rows S word p = (rw (p.trailing, p.long, p.short, r.place, and_false (is_pending word_filled held.pending), S.no_fault) refl, rw (p.trailing, p.long, p.short, r.place, and_false (is_pending word_filled held.pending)) refl)

  value_turn : (held : Held) (name word : Text) → has_option options name ≡ true → IsPlain word
      → Turns (stand (pending_on name held) (option name)) word (stand (record held { pending = Some (name, word ∷ []) }) idle)
  unfolding walked
  value_turn held name word k p = (rw (p.trailing, p.long, p.short) refl, rw (p.trailing, p.long, p.short, r.by_id name k, same_bytes name) refl)

  unknown_faults : (waiting : Waiting) (held : Held) (word name : Text) (value : Option Text) → IsOption word name value → has_option options name ≡ false
      → turn_fault s [] (stand held waiting) word ≡ [] → ⊥
  unknown_faults idle held word name value o k e = true≢false (ap is_cons (rw (o.trailing, o.long, r.unknown name k) at e))
  unknown_faults (option t) held word name value o k e = true≢false (ap is_cons (rw (o.trailing, o.long, r.unknown name k) at e))
  unknown_faults positional held word name value o k e = true≢false (ap is_cons (rw (o.trailing, o.long, r.unknown name k) at e))

  -- no value came for an option
  pending_faults : (held : Held) (name : Text) → has_option options name ≡ true → settle_fault s.rules s.args_override_self (pending_on name held) ≡ [] → ⊥
  pending_faults held name k e = true≢false (ap is_cons (rw (r.by_id name k) at e))

  -- what is pending comes first at an option
  option_faults : (held : Held) (pending : Text) (word name : Text) (value : Option Text) → IsOption word name value → has_option options pending ≡ true
      → turn_fault s [] (stand (pending_on pending held) (option pending)) word ≡ [] → ⊥
  option_faults held pending word name value o k e = elim (has_option options name) as (λ b. has_option options name ≡ b → ⊥) [
    | true ↦ λ is. known value o is
    | false ↦ λ is. unknown_faults (option pending) (pending_on pending held) word name value o is e
  ] refl
    where
      known : (v : Option Text) → IsOption word name v → has_option options name ≡ true → ⊥
      known None o is = pending_faults held pending k (first_nil _ _ (rw (o.trailing, o.long, r.known name is) at e))
      known (Some v) o is = pending_faults held pending k (first_nil _ _ (first_nil _ _ (rw (o.trailing, o.long, r.known name is) at e)))

  -- WHAT THE WALK COMES TO

  abbrev pub end : Walk → List Text → Walk
  end from words = fold (walked s.rules []) from words

  abbrev pub fault_from : Walk → List Text → Kinds
  fault_from from words = or_else (walk_fault s [] from words) (settle_fault s.rules s.args_override_self (end from words).held)

  pub record IsWell (from : Walk) (words : List Text) (rows : List Row) : Type 0 where
    pub no_fault : fault_from from words ≡ []
    pub rows_are : (settled s.rules (end from words).held).rows ≡ rows
    pub no_stop : (end from words).stopped ≡ None

  abbrev pub Judged : Walk → List Text → List Row → List Item → Bool → Type 0
  Judged from words rows items true = IsWell from words (fold put_item rows items)
  Judged from words rows items false = fault_from from words ≡ [] → ⊥

  -- it is well where the words are items of these options, and has a fault elsewhere
  abbrev pub Verdict : Walk → List Text → List Row → Option (List Item) → Type 0
  Verdict from words rows None = fault_from from words ≡ [] → ⊥
  Verdict from words rows (Some items) = Judged from words rows items (list_all (is_known options) items)

  fault_moves : (from to : Walk) (word : Text) (rest : List Text) → Turns from word to → fault_from from (word ∷ rest) ≡ fault_from to rest
  unfolding walk_fault
  fault_moves from to word rest t = λ i. or_else (or_else (t.0 i) (walk_fault s [] (t.1 i) rest)) (settle_fault s.rules s.args_override_self (fold (walked s.rules []) (t.1 i) rest).held)

  judged_moves : (from to : Walk) (word : Text) (rest : List Text) → Turns from word to → (rows : List Row) (items : List Item) (b : Bool) → Judged to rest rows items b
      → Judged from (word ∷ rest) rows items b
  judged_moves from to word rest t rows items true j = record {
    no_fault = fault_moves from to word rest t ∙ j.no_fault;
    rows_are = ap (λ (w : Walk). (settled s.rules (fold (walked s.rules []) w rest).held).rows) t.1 ∙ j.rows_are;
    no_stop = ap (λ (w : Walk). (fold (walked s.rules []) w rest).stopped) t.1 ∙ j.no_stop;
  }
  judged_moves from to word rest t rows items false j = λ e. j (sym (fault_moves from to word rest t) ∙ e)

  moves : (from to : Walk) (word : Text) (rest : List Text) → Turns from word to → (rows : List Row) (items : Option (List Item)) → Verdict to rest rows items → Verdict from (word ∷ rest) rows items
  moves from to word rest t rows None v = λ e. v (sym (fault_moves from to word rest t) ∙ e)
  moves from to word rest t rows (Some items) v = judged_moves from to word rest t rows items (list_all (is_known options) items) v

  -- an item ahead
  gains : (from : Walk) (words : List Text) (rows : List Row) (item : Item) → is_known options item ≡ true → (items : Option (List Item)) → Verdict from words (put_item rows item) items
      → Verdict from words rows (ahead (Some item) items)
  gains from words rows item k None v = v
  gains from words rows item k (Some items) v = subst (λ (b : Bool). Judged from words rows (item ∷ items) (b && list_all (is_known options) items)) (sym k)
      (kept (list_all (is_known options) items) v)
    where
      kept : (b : Bool) → Judged from words (put_item rows item) items b → Judged from words rows (item ∷ items) b
      kept true j = record { no_fault = j.no_fault; rows_are = j.rows_are; no_stop = j.no_stop }
      kept false j = j

  -- an item that isn't known
  spoils : (from : Walk) (words : List Text) (rows : List Row) (item : Item) → is_known options item ≡ false → (fault_from from words ≡ [] → ⊥) → (items : Option (List Item))
      → Verdict from words rows (ahead (Some item) items)
  spoils from words rows item k f None = f
  spoils from words rows item k f (Some items) = subst (λ (b : Bool). Judged from words rows (item ∷ items) (b && list_all (is_known options) items)) (sym k) f

  -- a word at which a fault is
  faults : (from : Walk) (word : Text) (rest : List Text) → (turn_fault s [] from word ≡ [] → ⊥) → fault_from from (word ∷ rest) ≡ [] → ⊥
  unfolding walk_fault
  faults from word rest f e = f (first_nil _ _ (first_nil _ _ e))

  -- WHERE THE WALK STANDS BEHIND AN ITEM

  settles_place : (held : Held) (rows : List Row) → Settles held rows → (word : Text) → Settles (pushed word_id word (settled s.rules held)) (put word_id word rows)
  settles_place held rows S word = record {
    rows_are = ap (λ (o : Option Rule). used_by_id o (word ∷ []) (settled s.rules held).rows) r.place_by_id ∙ ap (put word_id word) S.rows_are;
    no_fault = ap (λ (o : Option Rule). option_map_or (λ a. use_fault s.args_override_self a (word ∷ []) (settled s.rules held).rows) o []) r.place_by_id;
  }

  settles_whole : (held : Held) (rows : List Row) → Settles held rows → (name value : Text) → Settles (reacted s.rules (option_filled name) (value ∷ []) held) (put name value rows)
  settles_whole held rows S name value = record { rows_are = ap (put name value) S.rows_are; no_fault = refl }

  settles_value : (held : Held) (rows : List Row) → held.rows ≡ rows → (name value : Text) → has_option options name ≡ true → Settles (record held { pending = Some (name, value ∷ []) }) (put name value rows)
  settles_value held rows is name value k = record {
    rows_are = ap (λ (o : Option Rule). used_by_id o (value ∷ []) held.rows) (r.by_id name k) ∙ ap (put name value) is;
    no_fault = ap (λ (o : Option Rule). option_map_or (λ a. use_fault s.args_override_self a (value ∷ []) held.rows) o []) (r.by_id name k);
  }

  -- ALL WORDS

  -- the verdict on words, from wherever no option waits
  abbrev Runs : List Text → Type 0
  Runs words = (b : Bool) (held : Held) (rows : List Row) → Settles held rows → Verdict (stand held (rested b)) words rows (items_of words)

  run_none : Runs []
  unfolding walk_fault
  run_none b held rows S = record { no_fault = S.no_fault; rows_are = S.rows_are; no_stop = refl }

  run_plain : (word : Text) (rest : List Text) → IsPlain word → Runs rest → Runs (word ∷ rest)
  run_plain word rest p runs b held rows S =
      subst (Verdict (stand held (rested b)) (word ∷ rest) rows) (sym (items_alone word rest (plain_name word p) ∙ ap (λ (x : Item). ahead (Some x) (items_of rest)) (plain_item word p)))
      (gains (stand held (rested b)) (word ∷ rest) rows (place word) refl (items_of rest)
      (moves (stand held (rested b)) (stand (pushed word_id word (settled s.rules held)) positional) word rest (plain_turn b held rows S word p) (put word_id word rows) (items_of rest)
      (runs false (pushed word_id word (settled s.rules held)) (put word_id word rows) (settles_place held rows S word))))

  run_whole : (word name value : Text) (rest : List Text) → IsWhole word name value → Runs rest → Runs (word ∷ rest)
  run_whole word name value rest p runs b held rows S =
      subst (Verdict (stand held (rested b)) (word ∷ rest) rows) (sym (items_alone word rest p.named ∙ ap (λ (x : Item). ahead (Some x) (items_of rest)) p.item))
      (elim (has_option options name) as (λ k. has_option options name ≡ k → Verdict (stand held (rested b)) (word ∷ rest) rows (ahead (Some (choice (dashed name) value)) (items_of rest))) [
        | true ↦ λ k. gains (stand held (rested b)) (word ∷ rest) rows (choice (dashed name) value) k (items_of rest)
            (moves (stand held (rested b)) (stand (reacted s.rules (option_filled name) (value ∷ []) held) idle) word rest (whole_turn b held rows S word name value p.option k) (put name value rows) (items_of rest)
            (runs true (reacted s.rules (option_filled name) (value ∷ []) held) (put name value rows) (settles_whole held rows S name value)))
        | false ↦ λ k. spoils (stand held (rested b)) (word ∷ rest) rows (choice (dashed name) value) k
            (faults (stand held (rested b)) word rest (unknown_faults (rested b) held word name (Some value) p.option k)) (items_of rest)
      ] refl)

  run_last : (word name : Text) → IsNamed word name → Runs (word ∷ [])
  unfolding walk_fault
  run_last word name p b held rows S =
      subst (Verdict (stand held (rested b)) (word ∷ []) rows) (sym (items_name word p.named))
      (elim (has_option options name) as (λ k. has_option options name ≡ k → fault_from (stand held (rested b)) (word ∷ []) ≡ [] → ⊥) [
        | true ↦ λ k e. pending_faults (settled s.rules held) name k
            (sym (fault_moves (stand held (rested b)) (stand (pending_on name (settled s.rules held)) (option name)) word [] (named_turn b held rows S word name p.option k)) ∙ e)
        | false ↦ λ k e. faults (stand held (rested b)) word [] (unknown_faults (rested b) held word name None p.option k) e
      ] refl)

  -- a name, and a word with dashes behind it
  run_dashed : (word name next : Text) (rest : List Text) → IsNamed word name → (other : Text) (value : Option Text) → IsOption next other value → Runs (word ∷ next ∷ rest)
  run_dashed word name next rest p other value o b held rows S =
      subst (Verdict (stand held (rested b)) (word ∷ next ∷ rest) rows) (sym (items_dashed word next rest p.named o.dashed))
      (elim (has_option options name) as (λ k. has_option options name ≡ k → fault_from (stand held (rested b)) (word ∷ next ∷ rest) ≡ [] → ⊥) [
        | true ↦ λ k e. faults (stand (pending_on name (settled s.rules held)) (option name)) next rest (option_faults (settled s.rules held) name next other value o k)
            (sym (fault_moves (stand held (rested b)) (stand (pending_on name (settled s.rules held)) (option name)) word (next ∷ rest) (named_turn b held rows S word name p.option k)) ∙ e)
        | false ↦ λ k e. faults (stand held (rested b)) word (next ∷ rest) (unknown_faults (rested b) held word name None p.option k) e
      ] refl)

  -- a name and its value
  run_parted : (word name next : Text) (rest : List Text) → IsNamed word name → IsPlain next → Runs rest → Runs (word ∷ next ∷ rest)
  run_parted word name next rest p q runs b held rows S =
      subst (Verdict (stand held (rested b)) (word ∷ next ∷ rest) rows) (sym (items_parted word next rest p.named q.dashed ∙ ap (λ (n : Text). ahead (Some (choice n next)) (items_of rest)) p.word_is))
      (elim (has_option options name) as (λ k. has_option options name ≡ k → Verdict (stand held (rested b)) (word ∷ next ∷ rest) rows (ahead (Some (choice (dashed name) next)) (items_of rest))) [
        | true ↦ λ k. gains (stand held (rested b)) (word ∷ next ∷ rest) rows (choice (dashed name) next) k (items_of rest)
            (moves (stand held (rested b)) (stand (pending_on name (settled s.rules held)) (option name)) word (next ∷ rest) (named_turn b held rows S word name p.option k) (put name next rows) (items_of rest)
            (moves (stand (pending_on name (settled s.rules held)) (option name)) (stand (record (settled s.rules held) { pending = Some (name, next ∷ []) }) idle) next rest
            (value_turn (settled s.rules held) name next k q) (put name next rows) (items_of rest)
            (runs true (record (settled s.rules held) { pending = Some (name, next ∷ []) }) (put name next rows) (settles_value (settled s.rules held) rows S.rows_are name next k))))
        | false ↦ λ k. spoils (stand held (rested b)) (word ∷ next ∷ rest) rows (choice (dashed name) next) k
            (faults (stand held (rested b)) word (next ∷ rest) (unknown_faults (rested b) held word name None p.option k)) (items_of rest)
      ] refl)

  run_one : (word : Text) → Form word → Runs (word ∷ [])
  run_one word (plain p) = run_plain word [] p run_none
  run_one word (named name p) = run_last word name p
  run_one word (whole name value p) = run_whole word name value [] p run_none

  run_two : (word name next : Text) (rest : List Text) → IsNamed word name → Form next → Runs rest → Runs (word ∷ next ∷ rest)
  run_two word name next rest p (plain q) runs = run_parted word name next rest p q runs
  run_two word name next rest p (named other q) runs = run_dashed word name next rest p other None q.option
  run_two word name next rest p (whole other value q) runs = run_dashed word name next rest p other (Some value) q.option

  run_more : (word next : Text) (rest : List Text) → Form word → Form next → Runs rest → Runs (next ∷ rest) → Runs (word ∷ next ∷ rest)
  run_more word next rest (plain p) q runs after = run_plain word (next ∷ rest) p after
  run_more word next rest (named name p) q runs after = run_two word name next rest p q runs
  run_more word next rest (whole name value p) q runs after = run_whole word name value (next ∷ rest) p after

  pub run : (words : List Text) → list_all is_formed words ≡ true → Runs words
  run [] f = run_none
  run (word ∷ []) f = run_one word (form_of word (and_parts (is_formed word) true f).0)
  run (word ∷ next ∷ rest) f =
      let g = and_parts (is_formed word) (is_formed next && list_all is_formed rest) f in
      let h = and_parts (is_formed next) (list_all is_formed rest) g.1 in
      run_more word next rest (form_of word g.0) (form_of next h.0) (run rest h.1) (run (next ∷ rest) g.1)
