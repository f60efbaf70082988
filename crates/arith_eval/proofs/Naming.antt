-- A map with text keys has the values of its names.
use Rattle.std.proofs.Common.{◌≡◌, ◌∙◌, ℕ, ℤ, List, [], ◌∷◌, Some, cond, refl, sym, ap}
use Rattle.std.specs.Prelude.{bytes_eq, string_bytes, String}
use Rattle.std.specs.Global.{Global}
use Rattle.std.specs.BTreeMap.{BTreeMap, UpdatesBy}
use Rattle.std.specs.Cmp.Lexicographic.{slice_cmp}
use Rattle.std.specs.Map.{lookup}
use Rattle.std.specs.Ordering.{nat_cmp, is_eq}
use Rattle.std.specs.String.{string_cmp}
use Rattle.std.proofs.lemmas.Map.Text.{is_eq-slice_cmp, btree_map_updates_text}
use Rattle.arith_eval.specs.Names.{assign, value_in, assignments}

pub named_value : (entries : List (String Global × ℤ)) (x : List ℕ) → lookup (λ k. is_eq (slice_cmp nat_cmp x (string_bytes k))) entries ≡ value_in (assignments entries) x
named_value [] x = refl
named_value (e ∷ entries) x =
    ap (λ b. cond b (Some e.1) (lookup (λ k. is_eq (slice_cmp nat_cmp x (string_bytes k))) entries)) (is_eq-slice_cmp x (string_bytes e.0))
    ∙ ap (cond (bytes_eq x (string_bytes e.0)) (Some e.1)) (named_value entries x)

-- one name has a value from here on, and the others theirs
pub named_assigned : (m n : BTreeMap (String Global) ℤ) (x : List ℕ) (v : ℤ) → UpdatesBy string_cmp (λ k. slice_cmp nat_cmp x (string_bytes k)) m n (Some v) → (y : List ℕ) → value_in (assignments n.entries) y ≡ assign (value_in (assignments m.entries)) x v y
named_assigned m n x v u y =
    sym (named_value n.entries y)
    ∙ btree_map_updates_text x m n (Some v) u y
    ∙ ap (cond (bytes_eq x y) (Some v)) (named_value m.entries y)
