-- What a word is to `clap`, and what it is as an item.
use Rattle.std.proofs.Common.{◌≡◌, ◌∙◌, ◌⊎◌, inl, inr, refl, sym, ap, subst, arith, ℕ, suc, ◌+◌, Bool, true, false, cond, not, ◌||◌, true≢false, eqb, eqb-true, eq-eqb, List, [], ◌∷◌, Option, Some, None}
use Rattle.std.specs.List.{position_or_len, before_first, after_first}
use Rattle.std.specs.Str.{bytes_eq}
use Rattle.clap.specs.Lexer.{long_of, short_of}
use Rattle.command_words.specs.Items.{place, choice, dash, dashes, dashed, is_dashed, is_formed, is_equals, has_equals, is_name, alone, ahead, items_of}
use Rattle.std.proofs.lemmas.Bool.{false_from_ne_true}

-- a word without a dash ahead
pub record IsPlain (word : List ℕ) : Type 0 where
  pub dashed : is_dashed word ≡ false
  pub trailing : bytes_eq word (45 ∷ 45 ∷ []) ≡ false
  pub long : long_of word ≡ None
  pub short : short_of word ≡ None

-- an option, with its value in the same word or not
pub record IsOption (word name : List ℕ) (value : Option (List ℕ)) : Type 0 where
  pub dashed : is_dashed word ≡ true
  pub trailing : bytes_eq word (45 ∷ 45 ∷ []) ≡ false
  pub long : long_of word ≡ Some (name, value)

pub record IsNamed (word name : List ℕ) : Type 0 where
  pub option : IsOption word name None
  pub named : is_name word ≡ true
  pub word_is : word ≡ dashed name

pub record IsWhole (word name value : List ℕ) : Type 0 where
  pub option : IsOption word name (Some value)
  pub named : is_name word ≡ false
  pub item : alone word ≡ choice (dashed name) value

-- what a word is
pub data Form (word : List ℕ) : Type 0 where
  plain : IsPlain word → Form word
  named : (name : List ℕ) → IsNamed word name → Form word
  whole : (name value : List ℕ) → IsWhole word name value → Form word

-- an octet is a dash, or no test finds one
dash_or : (c : ℕ) → (c ≡ 45) ⊎ ((eqb c 45 ≡ false) × (eqb 45 c ≡ false))
dash_or c = elim (eqb c 45) as (λ b. eqb c 45 ≡ b → (c ≡ 45) ⊎ ((eqb c 45 ≡ false) × (eqb 45 c ≡ false))) [
  | true ↦ λ e. inl (eqb-true c 45 e)
  | false ↦ λ e. inr (e, false_from_ne_true (eqb 45 c) (λ f. true≢false (sym (eq-eqb c 45 (sym (eqb-true 45 c f))) ∙ e)))
] refl

plain_at : (c : ℕ) (cs : List ℕ) → eqb c 45 ≡ false → eqb 45 c ≡ false → IsPlain (c ∷ cs)
unfolding dash
plain_at c cs e f = record { dashed = rw f refl; trailing = rw e refl; long = rw e refl; short = rw e refl }

plain_nil : IsPlain []
unfolding dash
plain_nil = record { dashed = refl; trailing = refl; long = refl; short = refl }

-- a first octet that is no equals sign stays ahead
before_cons : (c : ℕ) (cs : List ℕ) → is_equals c ≡ false → before_first is_equals (c ∷ cs) ≡ c ∷ before_first is_equals cs
before_cons c cs e = rw e (let one : 1 + position_or_len is_equals cs ≡ suc (position_or_len is_equals cs) = omega arith in rw one refl)

after_cons : (c : ℕ) (cs : List ℕ) → is_equals c ≡ false → after_first is_equals (c ∷ cs) ≡ after_first is_equals cs
after_cons c cs e = rw e (let one : 1 + position_or_len is_equals cs + 1 ≡ suc (position_or_len is_equals cs + 1) = omega arith in rw one refl)

-- without an equals sign all stands before it
all_before : (cs : List ℕ) → has_equals cs ≡ false → before_first is_equals cs ≡ cs
all_before [] e = refl
all_before (c ∷ cs) e = go (is_equals c) refl (all_before cs)
  where
    go : (b : Bool) → is_equals c ≡ b → (has_equals cs ≡ false → before_first is_equals cs ≡ cs) → before_first is_equals (c ∷ cs) ≡ c ∷ cs
    go true is rest = absurd (true≢false (sym (ap (λ (b : Bool). b || has_equals cs) is) ∙ e))
    go false is rest = before_cons c cs is ∙ ap (λ (ds : List ℕ). c ∷ ds) (rest (sym (ap (λ (b : Bool). b || has_equals cs) is) ∙ e))

option_named : (x : ℕ) (xs : List ℕ) → has_equals (x ∷ xs) ≡ false → IsNamed (dashed (x ∷ xs)) (x ∷ xs)
unfolding dash
option_named x xs e = record {
  option = record { dashed = refl; trailing = refl; long = ap (λ (b : Bool). Some (before_first is_equals (x ∷ xs), cond b (Some (after_first is_equals (x ∷ xs))) None)) e ∙ ap (λ (n : List ℕ). Some (n, None)) (all_before (x ∷ xs) e) };
  named = ap not e;
  word_is = refl;
}

option_whole : (x : ℕ) (xs : List ℕ) → has_equals (x ∷ xs) ≡ true → IsWhole (dashed (x ∷ xs)) (before_first is_equals (x ∷ xs)) (after_first is_equals (x ∷ xs))
unfolding dash
option_whole x xs e = record {
  option = record { dashed = refl; trailing = refl; long = ap (λ (b : Bool). Some (before_first is_equals (x ∷ xs), cond b (Some (after_first is_equals (x ∷ xs))) None)) e };
  named = ap not e;
  item = (λ i. choice ((before_cons 45 (45 ∷ x ∷ xs) refl ∙ ap (λ (ds : List ℕ). 45 ∷ ds) (before_cons 45 (x ∷ xs) refl)) i)
      ((after_cons 45 (45 ∷ x ∷ xs) refl ∙ after_cons 45 (x ∷ xs) refl) i));
}

option_form : (x : ℕ) (xs : List ℕ) (b : Bool) → has_equals (x ∷ xs) ≡ b → Form (dashed (x ∷ xs))
option_form x xs true e = whole _ _ (option_whole x xs e)
option_form x xs false e = named _ (option_named x xs e)

-- behind one dash
dashed_form : (cs : List ℕ) → is_formed (45 ∷ cs) ≡ true → Form (45 ∷ cs)
unfolding dash dashes
dashed_form [] e = absurd (true≢false (sym e))
dashed_form (d ∷ []) e = elim (dash_or d) [
  | inl is ↦ absurd (true≢false (sym e ∙ ap (λ (k : ℕ). is_formed (45 ∷ k ∷ [])) is))
  | inr isnt ↦ absurd (true≢false (sym e ∙ rw isnt.1 refl))
]
dashed_form (d ∷ x ∷ xs) e = elim (dash_or d) [
  | inl is ↦ subst (λ (k : ℕ). Form (45 ∷ k ∷ x ∷ xs)) (sym is) (option_form x xs (has_equals (x ∷ xs)) refl)
  | inr isnt ↦ absurd (true≢false (sym e ∙ rw isnt.1 refl))
]

pub form_of : (word : List ℕ) → is_formed word ≡ true → Form word
form_of [] e = plain plain_nil
form_of (c ∷ cs) e = elim (dash_or c) [
  | inl is ↦ subst (λ (k : ℕ). Form (k ∷ cs)) (sym is) (dashed_form cs (ap (λ (k : ℕ). is_formed (k ∷ cs)) (sym is) ∙ e))
  | inr isnt ↦ plain (plain_at c cs isnt.0 isnt.1)
]

-- ITEMS

pub items_alone : (word : List ℕ) (words : List (List ℕ)) → is_name word ≡ false → items_of (word ∷ words) ≡ ahead (Some (alone word)) (items_of words)
items_alone word [] e = rw e refl
items_alone word (next ∷ words) e = rw e refl

pub items_parted : (name value : List ℕ) (words : List (List ℕ)) → is_name name ≡ true → is_dashed value ≡ false → items_of (name ∷ value ∷ words) ≡ ahead (Some (choice name value)) (items_of words)
items_parted name value words e f = rw (e, f) refl

pub items_dashed : (name value : List ℕ) (words : List (List ℕ)) → is_name name ≡ true → is_dashed value ≡ true → items_of (name ∷ value ∷ words) ≡ None
items_dashed name value words e f = rw (e, f) refl

pub items_name : (name : List ℕ) → is_name name ≡ true → items_of (name ∷ []) ≡ None
items_name name e = rw e refl

pub plain_name : (word : List ℕ) → IsPlain word → is_name word ≡ false
plain_name word p = rw p.dashed refl

pub plain_item : (word : List ℕ) → IsPlain word → alone word ≡ place word
plain_item word p = rw p.dashed refl
