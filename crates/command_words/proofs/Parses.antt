-- What the matches of a simple command have.
use Rattle.std.proofs.Common.{◌≡◌, ◌∙◌, ◌⊎◌, refl, sym, ap, subst, Bool, true, false, cond, ◌||◌, true≢false, List, [], ◌∷◌, ◌++◌, drop, append_assoc, append-nil, Option, Some, None, Result, Ok, Err, IfOk, IfErr, unwrap_or, inl, inr}
use Rattle.std.specs.Prelude.{IsSomeAnd, option_and_then, option_map, option_to_list}
use Rattle.std.specs.List.{cons_option, filter_map, find, fold, list_all, list_any}
use Rattle.std.specs.Str.{bytes_eq}
use Rattle.std.proofs.lemmas.Slice.Eq.{bytes_eq-Decides}
use Rattle.clap.specs.Kinds.{FailsBy, HasKind, Kinds}
use Rattle.clap.specs.Values.{kind_of}
use Rattle.clap.specs.Matches.{found_of}
use Rattle.clap.specs.Walk.{Row, Text, all_of, idle, nothing_held, rows_of}
use Rattle.clap.specs.Simple.{App, HasMatchesOf, built, is_simple}
use Rattle.clap.specs.Faults.{fault_of, is_free_app, is_simple_and_free}
use Rattle.clap.specs.declared.error.Error.{Error}
use Rattle.clap.specs.declared.error.kind.ErrorKind.TheVariants as kind
use Rattle.clap.specs.declared.parser.matches.ArgMatches.{ArgMatches}
use Rattle.clap.proofs.WalkLemmas.{raw_values-rows}
use Rattle.command_words.specs.Items.{Item, place, choice, dashed, is_formed, is_known, items_of, known, known_items, place_in, value_under}
use Rattle.command_words.specs.Simple.{HasItems, has_option, simple_of, values_of, word_id}
use Rattle.command_words.proofs.Walk.{IsWell, Judged, Verdict, put, put_item, run, same_bytes, stand}
use Rattle.command_words.proofs.Rules.{apart, faultless, faulty, none_added_for, read_for, rows_for, shape_for, simple_and_free}
use Rattle.std.proofs.lemmas.Bool.{and_parts}
use Rattle.cluster_types.proofs.Booleans.{or_true}

-- THE VALUES OF AN ID

abbrev pub values_at : Text → List Row → List Text
values_at id rows = unwrap_or (all_of id rows) []

one_row : (row : Row) (b : Bool) → unwrap_or (option_map (λ (r : Row). r.values) (cond b (Some row) None)) [] ≡ [] ++ cond b row.values []
one_row row true = refl
one_row row false = refl

-- a row that gains a value, and one that doesn't
gained : (now old : Row) (value : Text) → now.values ≡ old.values ++ value ∷ [] → (rest : Option Row) (b : Bool)
    → unwrap_or (option_map (λ (r : Row). r.values) (cond b (Some now) rest)) [] ≡ unwrap_or (option_map (λ (r : Row). r.values) (cond b (Some old) rest)) [] ++ cond b (value ∷ []) []
gained now old value is rest true = is
gained now old value is rest false = sym (append-nil (unwrap_or (option_map (λ (r : Row). r.values) rest) []))

kept : (row : Row) (value : Text) (now old : Option Row) (b c : Bool) → (b ≡ true → c ≡ false)
    → unwrap_or (option_map (λ (r : Row). r.values) now) [] ≡ unwrap_or (option_map (λ (r : Row). r.values) old) [] ++ cond c (value ∷ []) []
    → unwrap_or (option_map (λ (r : Row). r.values) (cond b (Some row) now)) [] ≡ unwrap_or (option_map (λ (r : Row). r.values) (cond b (Some row) old)) [] ++ cond c (value ∷ []) []
kept row value now old true c none is = sym (append-nil row.values) ∙ ap (λ (d : Bool). row.values ++ cond d (value ∷ []) []) (sym (none refl))
kept row value now old false c none is = is

pub put_values : (id name value : Text) (rows : List Row) → values_at id (put name value rows) ≡ values_at id rows ++ cond (bytes_eq name id) (value ∷ []) []
put_values id name value [] = one_row _ (bytes_eq name id)
put_values id name value (r ∷ rs) = go (bytes_eq r.id name) refl (put_values id name value rs)
  where
    go : (b : Bool) → bytes_eq r.id name ≡ b → values_at id (put name value rs) ≡ values_at id rs ++ cond (bytes_eq name id) (value ∷ []) []
        → values_at id (put name value (r ∷ rs)) ≡ values_at id (r ∷ rs) ++ cond (bytes_eq name id) (value ∷ []) []
    go true e rest = rw e (gained _ r value refl (find (λ x. bytes_eq x.id id) rs) (bytes_eq r.id id)
        ∙ ap (λ (n : Text). values_at id (r ∷ rs) ++ cond (bytes_eq n id) (value ∷ []) []) ((bytes_eq-Decides r.id name).0 e))
    go false e rest = rw e (kept r value (find (λ x. bytes_eq x.id id) (put name value rs)) (find (λ x. bytes_eq x.id id) rs) (bytes_eq r.id id) (bytes_eq name id) (other e) rest)
      where
        other : bytes_eq r.id name ≡ false → bytes_eq r.id id ≡ true → bytes_eq name id ≡ false
        other differs same = not_both (bytes_eq name id) refl
          where
            not_both : (c : Bool) → bytes_eq name id ≡ c → bytes_eq name id ≡ false
            not_both false is = is
            not_both true is = absurd (true≢false (sym ((bytes_eq-Decides r.id name).1 ((bytes_eq-Decides r.id id).0 same ∙ sym ((bytes_eq-Decides name id).0 is))) ∙ differs))

-- THE VALUES OF ITEMS

-- a known option has dashes ahead, and the name of an option behind them
known_name : (options : List Text) (given : Text) → list_any (λ o. bytes_eq (dashed o) given) options ≡ true → (given ≡ dashed (drop 2 given)) × (has_option options (drop 2 given) ≡ true)
known_name [] given k = absurd (true≢false (sym k))
known_name (o ∷ os) given k = go (bytes_eq (dashed o) given) refl (known_name os given)
  where
    go : (b : Bool) → bytes_eq (dashed o) given ≡ b → (list_any (λ x. bytes_eq (dashed x) given) os ≡ true → (given ≡ dashed (drop 2 given)) × (has_option os (drop 2 given) ≡ true))
        → (given ≡ dashed (drop 2 given)) × (has_option (o ∷ os) (drop 2 given) ≡ true)
    go true e rest =
        let is : dashed o ≡ given = (bytes_eq-Decides (dashed o) given).0 e in
        (sym is ∙ ap (λ (g : Text). dashed (drop 2 g)) is, ap (λ (g : Text). has_option (o ∷ os) (drop 2 g)) (sym is) ∙ ap (λ (b : Bool). b || has_option os o) (same_bytes o))
    go false e rest =
        let found = rest (ap (λ (b : Bool). b || list_any (λ x. bytes_eq (dashed x) given) os) (sym e) ∙ k) in
        (found.0, ap (λ (b : Bool). bytes_eq o (drop 2 given) || b) found.1 ∙ or_true (bytes_eq o (drop 2 given)))

one_value : (b : Bool) (value : Text) → cond b (value ∷ []) [] ≡ option_to_list (cond b (Some value) None)
one_value true value = refl
one_value false value = refl

gather : (xs ys : List Text) (o : Option Text) → (xs ++ option_to_list o) ++ ys ≡ xs ++ cons_option o ys
gather xs ys None = ap (λ (zs : List Text). zs ++ ys) (append-nil xs)
gather xs ys (Some x) = append_assoc xs (x ∷ []) ys

-- the rows of items have what each item adds
gathers : (options : List Text) (id : Text) (g : Item → Option Text)
    → ((rows : List Row) (item : Item) → is_known options item ≡ true → values_at id (put_item rows item) ≡ values_at id rows ++ option_to_list (g item))
    → (items : List Item) → list_all (is_known options) items ≡ true → (rows : List Row) → values_at id (fold put_item rows items) ≡ values_at id rows ++ filter_map g items
gathers options id g each [] k rows = sym (append-nil (values_at id rows))
gathers options id g each (item ∷ items) k rows =
    let parts = and_parts (is_known options item) (list_all (is_known options) items) k in
    gathers options id g each items parts.1 (put_item rows item) ∙ ap (λ (xs : List Text). xs ++ filter_map g items) (each rows item parts.0) ∙ gather (values_at id rows) (filter_map g items) (g item)

other_way : (a b : Text) → bytes_eq a b ≡ false → bytes_eq b a ≡ false
other_way a b e = go (bytes_eq b a) refl
  where
    go : (c : Bool) → bytes_eq b a ≡ c → bytes_eq b a ≡ false
    go false is = is
    go true is = absurd (true≢false (sym ((bytes_eq-Decides a b).1 (sym ((bytes_eq-Decides b a).0 is))) ∙ e))

-- an error of no kind is want of memory
memory_alone : (e : Error) (o : Option (List Item)) → HasKind [] e → (kind_of e ≡ kind.OutOfMemory) ⊎ (o ≡ None)
memory_alone e o (inl memory) = inl memory
memory_alone e o (inr never) = absurd never

module _ (options : List Text) (none : has_option options word_id ≡ false) where
  adds_value : (name : Text) → has_option options name ≡ true → (rows : List Row) (item : Item) → is_known options item ≡ true
      → values_at name (put_item rows item) ≡ values_at name rows ++ option_to_list (value_under name item)
  adds_value name k rows (place word) is = put_values name word_id word rows ∙ ap (λ (b : Bool). values_at name rows ++ cond b (word ∷ []) []) (other_way name word_id (apart options word_id none name k))
  adds_value name k rows (choice given value) is =
      subst (λ (g : Text). values_at name (put (drop 2 g) value rows) ≡ values_at name rows ++ option_to_list (cond (bytes_eq g (dashed name)) (Some value) None)) (sym (known_name options given is).0)
      (put_values name (drop 2 given) value rows ∙ ap (λ (xs : List Text). values_at name rows ++ xs) (one_value (bytes_eq (drop 2 given) name) value))

  adds_place : (rows : List Row) (item : Item) → is_known options item ≡ true → values_at word_id (put_item rows item) ≡ values_at word_id rows ++ option_to_list (place_in item)
  adds_place rows (place word) is = put_values word_id word_id word rows ∙ ap (λ (b : Bool). values_at word_id rows ++ cond b (word ∷ []) []) (same_bytes word_id)
  adds_place rows (choice given value) is =
      put_values word_id (drop 2 given) value rows ∙ ap (λ (b : Bool). values_at word_id rows ++ cond b (value ∷ []) []) (apart options word_id none (drop 2 given) (known_name options given is).1)

  from_rows : (m : ArgMatches) (items : List Item) → list_all (is_known options) items ≡ true → rows_of (found_of m) ≡ fold put_item [] items → HasItems options m items
  from_rows m items k is = record {
    placed = at_rows word_id ∙ gathers options word_id place_in adds_place items k [];
    named = λ name h. at_rows name ∙ gathers options name (value_under name) (adds_value name h) items k [];
  }
    where
      at_rows : (id : Text) → values_of m id ≡ values_at id (fold put_item [] items)
      at_rows id = ap (λ (o : Option (List Text)). unwrap_or o []) (raw_values-rows (found_of m) id) ∙ ap (values_at id) is

  -- WHAT A PARSE COMES TO

  module _ (name : Text) (words : List Text) (formed : list_all is_formed words ≡ true) where
    abbrev Comes : Result ArgMatches Error → Option (List Item) → Type 0
    Comes r items = IfOk r (λ m. IsSomeAnd items (HasItems options m)) × IfErr r (λ e. (kind_of e ≡ kind.OutOfMemory) ⊎ (items ≡ None))

    abbrev Parses : Result ArgMatches Error → Type 0
    Parses r = IfOk r (HasMatchesOf (simple_of name options) words) × FailsBy (fault_of (simple_of name options) words) r

    comes_faulty : (r : Result ArgMatches Error) → Parses r → (fault_of (simple_of name options) words ≡ [] → ⊥) → Comes r None
    comes_faulty (Ok m) p bad = (absurd (bad p.1), tt)
    comes_faulty (Err e) p bad = (tt, inr refl)

    comes_well : (r : Result ArgMatches Error) → Parses r → (items : List Item) → list_all (is_known options) items ≡ true
        → IsWell (shape_for name options) options (read_for name options none) (stand nothing_held idle) words (fold put_item [] items) → Comes r (Some items)
    comes_well (Ok m) p items k w =
        let simple = (and_parts (is_simple (simple_of name options)) (is_free_app (built (simple_of name options))) (simple_and_free name options)).0 in
        (from_rows m items k ((p.0 simple).0 ∙ none_added_for name options (rows_for name options none words) ∙ w.rows_are), tt)
    comes_well (Err e) p items k w = (tt, memory_alone e (Some items) (subst (λ (kinds : Kinds). HasKind kinds e) (faultless name options none words (fold put_item [] items) w) p.1))

    comes_judged : (r : Result ArgMatches Error) → Parses r → (items : List Item) (b : Bool) → list_all (is_known options) items ≡ b
        → Judged (shape_for name options) options (read_for name options none) (stand nothing_held idle) words [] items b → Comes r (cond b (Some items) None)
    comes_judged r p items true k w = comes_well r p items k w
    comes_judged r p items false k bad = comes_faulty r p (faulty name options none words bad)

    comes_to : (r : Result ArgMatches Error) → Parses r → (o : Option (List Item))
        → Verdict (shape_for name options) options (read_for name options none) (stand nothing_held idle) words [] o → Comes r (option_and_then (known options) o)
    comes_to r p None bad = comes_faulty r p (faulty name options none words bad)
    comes_to r p (Some items) v = comes_judged r p items (list_all (is_known options) items) refl v

    parse_comes : (r : Result ArgMatches Error) → Parses r → Comes r (known_items options words)
    parse_comes r p = subst (Comes r) (sym (ap (λ (b : Bool). cond b (option_and_then (known options) (items_of words)) None) formed))
        (comes_to r p (items_of words) (run (shape_for name options) options (read_for name options none) words formed true nothing_held [] (record { rows_are = refl; no_fault = refl })))

    -- what a parse of the words comes to
    pub parse_is : (app : App) → app ≡ simple_of name options → (r : Result ArgMatches Error) → IfOk r (HasMatchesOf app words) → (is_simple_and_free app ≡ true → FailsBy (fault_of app words) r)
        → IfOk r (λ m. IsSomeAnd (known_items options words) (HasItems options m)) × IfErr r (λ e. (kind_of e ≡ kind.OutOfMemory) ⊎ (known_items options words ≡ None))
    parse_is app is r matches kinds = parse_comes r (
      subst (λ (a : App). IfOk r (HasMatchesOf a words)) is matches,
      subst (λ (a : App). FailsBy (fault_of a words) r) is (kinds (ap is_simple_and_free is ∙ simple_and_free name options)),
    )
