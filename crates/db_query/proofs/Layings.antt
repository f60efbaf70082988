-- Values to choose from, one after another.
use Rattle.std.proofs.Common.{◌≡◌, ◌<◌, ◌+◌, ◌==◌, ℕ, List, [], ◌∷◌, ◌++◌, length, take, get_or, Bool, true, false, ◌||◌, Option, Some, None, is_some, bytes_eq, nat_cmp, refl, sym, ap, ◌∙◌}
use Rattle.std.specs.BTreeMap.{get_by}
use Rattle.std.specs.BTreeSet.{contains}
use Rattle.std.specs.Cmp.Lexicographic.{slice_cmp}
use Rattle.std.specs.List.{list_any}
use Rattle.std.proofs.lemmas.List.{take_more}
use Rattle.std.proofs.lemmas.List.Folds.{list_any-append}
use Rattle.cluster_defs.specs.Filter.{is_same, where_there}
use Rattle.cluster_defs.specs.declared.filter.Scalar.{Scalar}
use Rattle.cluster_defs.specs.declared.filter.Scalar.TheVariants.{Null, Text, Number}
use Rattle.db_query.specs.Laid.{has, AreLaid, AreChoices}
use Rattle.db_query.specs.declared.choices.Choices.{Choices}

or_false : (b : Bool) → (b || false) ≡ b
or_false true = refl
or_false false = refl

-- NONE YET

pub none_has : (c : Choices) → c.null ≡ false → ((q : List ℕ) → is_some (get_by (λ k. slice_cmp nat_cmp q k.now) c.texts) ≡ false)
    → ((n : ℕ) → contains nat_cmp c.numbers n ≡ false) → (value : Scalar) → has c value ≡ false
none_has c null texts numbers Null = null
none_has c null texts numbers (Text text) = texts text
none_has c null texts numbers (Number number) = numbers number

-- ONE MORE

-- a list of values and the next one
pub any_more : (value : Scalar) (scalars : List Scalar) (at : ℕ) (d : Scalar) → at < length scalars
    → list_any (λ choice. is_same choice value) (take (at + 1) scalars) ≡ (list_any (λ choice. is_same choice value) (take at scalars) || is_same (get_or scalars at d) value)
any_more value scalars at d inside =
    ap (list_any (λ choice. is_same choice value)) (take_more scalars at d inside)
    ∙ list_any-append (λ choice. is_same choice value) (take at scalars) (get_or scalars at d ∷ [])
    ∙ ap (λ b. list_any (λ choice. is_same choice value) (take at scalars) || b) (or_false (is_same (get_or scalars at d) value))

-- LOOKED UP

-- what is laid out tells what the values do
pub among_is : (among : Option (List Scalar)) (choices : Option Choices) (value : Scalar) → AreChoices among choices
    → where_there (λ c. has c value) choices ≡ where_there (list_any (λ choice. is_same choice value)) among
among_is None choices value are = ap (where_there (λ c. has c value)) are
among_is (Some scalars) None value are = absurd are
among_is (Some scalars) (Some c) value are = are value
