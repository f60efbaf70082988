-- What the programs of codes leave.
use Rattle.std.proofs.Common.{◌≡◌, ◌≢◌, ℕ, zero, suc, ℤ, pos, negsuc, ◌+◌, ◌^◌, ◌<◌, ◌≤◌, Bool, true, false, cond, Some, Ok, List, [], ◌∷◌, ◌++◌, length, get_or, FitsSigned, refl, sym, ap, ◌∙◌, append_assoc, length-append, arith, inl, inr}
use Rattle.std.specs.Prelude.{nat_le, ◌==◌, ◌&&◌, bytes_eq, codes, map}
use Rattle.std.specs.List.{list_all, AllByRecursion, range_with_len}
use Rattle.std.specs.Fmt.{decimal}
use Rattle.std.specs.Int.{w64, int_wrap}
use Rattle.std.proofs.lemmas.Bool.{cases_lt, and_parts, and_from}
use Rattle.std.proofs.lemmas.Bool.Decides.{nat_tests}
use Rattle.std.proofs.lemmas.Fmt.{decimal_injective}
use Rattle.std.proofs.lemmas.Int.{int_wrap_fits}
use Rattle.std.proofs.lemmas.List.{append_cancel_left}
use Rattle.std.proofs.lemmas.List.Folds.{list_all-append}
use Rattle.std.proofs.lemmas.Slice.Eq.{bytes_eq-Decides}
use Rattle.arith_syntax.specs.Tree.{Variable, IsName, is_word, begins_name}
use Rattle.arith_eval.specs.Names.{Environment, assign}
use Rattle.arith_eval.specs.Value.{Outcome, outcome, assignment, and_then, load, value_of, values_from, value_of_program}
use Rattle.array_maps.specs.Codes.{settings}
use Rattle.array_maps.specs.Names.{is_name, element, is_array_name}
use Rattle.array_maps.specs.Running.{IsAmongElements, Sets}
use Rattle.array_maps.proofs.Decimals.{all_words, digits_rise}
use Rattle.array_maps.proofs.Setting.{negative_tree, number_tree, element_tree, Settable, settings_program, name_program}

least_value : (names : Environment) → value_of (negative_tree true 9223372036854775807) names ≡ outcome (Ok (negsuc 9223372036854775807)) names
unfolding int_wrap
least_value names = refl

equal_from : (m n : ℕ) → (m == n) ≡ true → m ≡ n
equal_from m n h = grind (arith, nat_tests)

negative_value : (b : Bool) (n : ℕ) (names : Environment) → (n == 9223372036854775807) ≡ b → FitsSigned w64 (negsuc n) → value_of (negative_tree b n) names ≡ outcome (Ok (negsuc n)) names
negative_value true n names h fits = least_value names ∙ ap (λ m. outcome (Ok (negsuc m)) names) (sym (equal_from n 9223372036854775807 h))
negative_value false n names h fits = ap (λ z. outcome (Ok z) names) (int_wrap_fits w64 (negsuc n) fits)

-- the value of a number as a tree
number_value : (v : ℤ) (names : Environment) → FitsSigned w64 v → value_of (number_tree v) names ≡ outcome (Ok v) names
number_value (pos n) names fits = refl
number_value (negsuc n) names fits = negative_value (n == 9223372036854775807) n names refl fits

element_value : (name : List ℕ) (values : List ℤ) (k : ℕ) (names : Environment) → FitsSigned w64 (get_or values k (pos 0)) → value_of (element_tree name values k) names ≡ assignment (element name k) (get_or values k (pos 0)) names
element_value name values k names fits = ap (λ o. and_then o (assignment (element name k))) (number_value (get_or values k (pos 0)) names fits)

-- names behind elements that were set one after another
abbrev pub left_by : List ℕ → List ℤ → Environment → List ℕ → Environment
left_by name values names [] = names
left_by name values names (k ∷ ks) = left_by name values (assign names (element name k) (get_or values k (pos 0))) ks

-- a run of such elements ends without a fault
pub record Ended (name : List ℕ) (values : List ℤ) (ks : List ℕ) (last : ℤ) (names : Environment) : Type 0 where
  pub value : ℤ
  pub ends : (values_from last (map (element_tree name values) ks) names).value ≡ Ok value
  pub leaves : (values_from last (map (element_tree name values) ks) names).names ≡ left_by name values names ks

ended : (name : List ℕ) (values : List ℤ) (ks : List ℕ) (last : ℤ) (names : Environment) → AllByRecursion (Settable name values) ks → Ended name values ks last names
ended name values [] last names all = record { value = last; ends = refl; leaves = refl }
ended name values (k ∷ ks) last names all =
    let v = get_or values k (pos 0) in
    let more = ended name values ks v (assign names (element name k) v) all.1 in
    let here = element_value name values k names all.0.fits in
    let go : ℤ → Environment → Outcome = λ w after. values_from w (map (element_tree name values) ks) after in
    record {
      value = more.value;
      ends = ap (λ o. (and_then o go).value) here ∙ more.ends;
      leaves = ap (λ o. (and_then o go).names) here ∙ more.leaves;
    }

same_bytes : (x : List ℕ) → bytes_eq x x ≡ true
same_bytes x = (bytes_eq-Decides x x).1 refl

other_at : (b : Bool) (x y : List ℕ) → bytes_eq x y ≡ b → y ≢ x → b ≡ false
other_at true x y h apart = absurd (apart (sym ((bytes_eq-Decides x y).0 h)))
other_at false x y h apart = refl

other_bytes : (x y : List ℕ) → y ≢ x → bytes_eq x y ≡ false
other_bytes x y apart = other_at (bytes_eq x y) x y refl apart

-- a name that is none of these elements stays
abbrev IsNone : List ℕ → List ℕ → ℕ → ℕ → Type 0
IsNone name y start count = (k : ℕ) → IsAmongElements start count k → y ≢ element name k

others_stay : (name : List ℕ) (values : List ℤ) (y : List ℕ) (start count : ℕ) (names : Environment) → IsNone name y start count → left_by name values names (range_with_len start count) y ≡ names y
others_stay name values y start zero names apart = refl
others_stay name values y start (suc count) names apart =
    let v = get_or values start (pos 0) in
    others_stay name values y (start + 1) count (assign names (element name start) v) (λ k among. let low = among.0 in let high = among.1 in apart k (omega (arith, low), omega (arith, high)))
    ∙ ap (λ b. cond b (Some v) (names y)) (other_bytes (element name start) y (apart start (omega arith, omega arith)))

-- elements have names of their own
element_once : (name : List ℕ) (j k : ℕ) → j < 2 ^ 64 → k < 2 ^ 64 → element name j ≡ element name k → j ≡ k
element_once name j k g h e =
    decimal_injective j k g h (append_cancel_left (name ++ codes "_") (decimal j) (decimal k) e)

elements_set : (name : List ℕ) (values : List ℤ) (start count : ℕ) (names : Environment) (k : ℕ) → start + count < 2 ^ 64 → IsAmongElements start count k → left_by name values names (range_with_len start count) (element name k) ≡ Some (get_or values k (pos 0))
elements_set name values start zero names k few among = absurd (let low = among.0 in let high = among.1 in omega (arith, low, high))
elements_set name values start (suc count) names k few among =
    let v = get_or values start (pos 0) in
    let low = among.0 in
    let high = among.1 in
    elim (cases_lt start k) [
      | inl lt ↦ elements_set name values (start + 1) count (assign names (element name start) v) k (omega (arith, few)) (omega (arith, lt), omega (arith, high))
      | inr le ↦
          let here : k ≡ start = omega (arith, low, le) in
          let apart : IsNone name (element name k) (start + 1) count =
          λ j later e. let after = later.0 in let end = later.1 in let same : k ≡ j = element_once name k j (omega (arith, here, few)) (omega (arith, end, few)) e in omega (arith, same, here, after) in
          others_stay name values (element name k) (start + 1) count (assign names (element name start) v) apart
          ∙ ap (λ m. cond (bytes_eq (element name m) (element name k)) (Some (get_or values m (pos 0))) (names (element name k))) (sym here)
          ∙ ap (λ b. cond b (Some (get_or values k (pos 0))) (names (element name k))) (same_bytes (element name k))
    ]

-- a test of a name, and what a name is
pub name_from : (x : List ℕ) → is_name x ≡ true → IsName x
name_from x h =
    let p = and_parts (begins_name x && list_all is_word x) _ h in
    let q = and_parts (begins_name x) (list_all is_word x) p.0 in
    let short = p.1 in
    record { begins = q.0; words = q.1; short = grind (arith, nat_tests, short) }

le_yes : (m n : ℕ) → m ≤ n → nat_le m n ≡ true
le_yes m n h = grind arith

pub name_to : (x : List ℕ) → IsName x → is_name x ≡ true
name_to x n =
    and_from (begins_name x && list_all is_word x) (nat_le (length x) 255) (and_from (begins_name x) (list_all is_word x) n.begins n.words) (le_yes (length x) 255 n.short)

element_begins : (name rest : List ℕ) → begins_name name ≡ true → begins_name (name ++ rest) ≡ true
element_begins [] rest h = absurd cc
element_begins (c ∷ cs) rest h = h

element_words : (name : List ℕ) (k : ℕ) → list_all is_word name ≡ true → k < 2 ^ 64 → list_all is_word (element name k) ≡ true
element_words name k h fits =
    list_all-append is_word (name ++ codes "_") (decimal k)
    ∙ and_from (list_all is_word (name ++ codes "_")) (list_all is_word (decimal k)) (list_all-append is_word name (codes "_") ∙ and_from (list_all is_word name) true h refl) (all_words k fits)

-- no element's name is longer than the last one's
named_before : (name : List ℕ) (j k : ℕ) → IsName name → IsName (element name k) → j ≤ k → k < 2 ^ 64 → IsName (element name j)
named_before name j k first last le fits =
    let rise = digits_rise j k le fits in
    let short = last.short in
    let size : (i : ℕ) → length (element name i) ≡ length name + 1 + length (decimal i) = λ i. length-append (name ++ codes "_") (decimal i) ∙ ap (λ n. n + length (decimal i)) (length-append name (codes "_")) in
    let here = size j in
    let there = size k in
    record {
      begins = ap begins_name (append_assoc name (codes "_") (decimal j)) ∙ element_begins name (codes "_" ++ decimal j) first.begins;
      words = element_words name j first.words (omega (arith, le, fits));
      short = omega (arith, rise, short, here, there);
    }

pub named_all : (name : List ℕ) (n j : ℕ) → is_array_name name n ≡ true → j < n → n < 2 ^ 64 → IsName (element name j)
named_all name zero j h lt fits = absurd (omega (arith, lt))
named_all name (suc k) j h lt fits =
    let p = and_parts (is_name name) (is_name (element name k)) h in
    named_before name j k (name_from name p.0) (name_from (element name k) p.1) (omega (arith, lt)) (omega (arith, fits))

settable_from : (name : List ℕ) (values : List ℤ) (start count : ℕ) → is_array_name name (length values) ≡ true → ((k : ℕ) → FitsSigned w64 (get_or values k (pos 0))) → start + count ≤ length values → length values < 2 ^ 64 → AllByRecursion (Settable name values) (range_with_len start count)
settable_from name values start zero named fits within few = tt
settable_from name values start (suc count) named fits within few = (
  record { named = named_all name (length values) start named (omega (arith, within)) few; fits = fits start },
  settable_from name values (start + 1) count named fits (omega (arith, within)) few,
)

name_value : (x : List ℕ) (names : Environment) (v : ℤ) → names x ≡ Some v → (value_of_program (Variable x ∷ []) names).value ≡ Ok v
name_value x names v h = ap (λ o. (and_then (outcome (load names x o) names) (λ w after. values_from w [] after)).value) h

-- elements that are set one after another
pub elements_left : (name : List ℕ) (values : List ℤ) (start count : ℕ) (before : Environment) → is_array_name name (length values) ≡ true → ((k : ℕ) → FitsSigned w64 (get_or values k (pos 0))) → start + count ≤ length values → length values < 2 ^ 64 → length (settings name values start count) ≤ 65536 → Sets (settings name values start count) name values start count before
elements_left name values start count before named fits within few short =
    let all = settable_from name values start count named fits within few in
    let run = ended name values (range_with_len start count) (pos 0) before all in
    record {
      after = left_by name values before (range_with_len start count);
      runs = record {
        trees = map (element_tree name values) (range_with_len start count);
        program = settings_program name values start count all short;
        value = run.value;
        ends = run.ends;
        names = run.leaves;
      };
      elements = λ k among. let end = among.1 in record {
        trees = Variable (element name k) ∷ [];
        program = name_program (element name k) (named_all name (length values) k named (omega (arith, end, within)) few);
        is = name_value (element name k) (left_by name values before (range_with_len start count)) (get_or values k (pos 0)) (elements_set name values start count before k (omega (arith, within, few)) among);
      };
      others = λ y apart. others_stay name values y start count before apart;
    }
