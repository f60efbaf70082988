-- The entries of a map beside the tasks that contracts see, whatever the watchers are.
use Rattle.std.proofs.Common.{◌≡◌, ℕ, Bool, List, [], ◌∷◌, cond, true, false, Option, Some, None, option_map, Ordering, Less, Equal, Greater, String, Global, string_bytes, string_cmp, nat_cmp, is_eq, refl, ap, ap₂, ◌∙◌}
use Rattle.std.proofs.lemmas.Map.Text.{is_eq-slice_cmp}
use Rattle.std.specs.Cmp.Lexicographic.{slice_cmp}
use Rattle.std.specs.Map.{lookup, set_value}
use Rattle.std.specs.Ordering.{match_ordering}
use Rattle.std.specs.BTreeMap.{insert_entry}
use Rattle.client_core.specs.declared.task.Task.{Task}
use Rattle.client_core.specs.declared.task.Task.TheVariants.{Open as TaskOpen}
use Rattle.client_core.specs.declared.stand.Stand.TheVariants.{Unsettled}
use Rattle.client_core.specs.Clients.{stand_in, stand_of, used_in, with_id, with_stand}

-- the test of a look-up by octets
abbrev pub is_text : List ℕ → String Global → Bool
is_text id k = is_eq (slice_cmp nat_cmp id (string_bytes k))

module _ {W : Type 0} where
  stand_cond : (b : Bool) (t : Task W) (o : Option (Task W)) → option_map stand_of (cond b (Some t) o) ≡ cond b (Some (stand_of t)) (option_map stand_of o)
  stand_cond true t o = refl
  stand_cond false t o = refl

  pub lookup_of : (es : List (String Global × Task W)) (id : List ℕ) → option_map stand_of (lookup (is_text id) es) ≡ stand_in (used_in es) id
  lookup_of [] id = refl
  lookup_of (e ∷ es) id =
      stand_cond (is_text id e.0) e.1 (lookup (is_text id) es)
      ∙ ap₂ (λ b o. cond b (Some (stand_of e.1)) o) (is_eq-slice_cmp id (string_bytes e.0)) (lookup_of es id)

  used_match : (o : Ordering) (a b c : List (String Global × Task W)) → used_in (match_ordering o a b c) ≡ match_ordering o (used_in a) (used_in b) (used_in c)
  used_match Less a b c = refl
  used_match Equal a b c = refl
  used_match Greater a b c = refl

  pub insert_of : (es : List (String Global × Task W)) (k : String Global) → used_in (insert_entry string_cmp es k (TaskOpen None)) ≡ with_id (used_in es) (string_bytes k)
  insert_of [] k = refl
  insert_of (e ∷ es) k =
      used_match (string_cmp k e.0) ((k, TaskOpen None) ∷ e ∷ es) ((e.0, TaskOpen None) ∷ es) (e ∷ insert_entry string_cmp es k (TaskOpen None))
      ∙ ap (λ more. match_ordering (string_cmp k e.0) ((string_bytes k, Unsettled false) ∷ used_in (e ∷ es)) ((string_bytes e.0, Unsettled false) ∷ used_in es) ((string_bytes e.0, stand_of e.1) ∷ more)) (insert_of es k)

  used_cond : (b : Bool) (a c : List (String Global × Task W)) → used_in (cond b a c) ≡ cond b (used_in a) (used_in c)
  used_cond true a c = refl
  used_cond false a c = refl

  pub set_of : (es : List (String Global × Task W)) (id : List ℕ) (t : Task W) → used_in (set_value (is_text id) es t) ≡ with_stand (used_in es) id (stand_of t)
  set_of [] id t = refl
  set_of (e ∷ es) id t =
      used_cond (is_text id e.0) ((e.0, t) ∷ es) (e ∷ set_value (is_text id) es t)
      ∙ ap₂ (λ b more. cond b ((string_bytes e.0, stand_of t) ∷ used_in es) ((string_bytes e.0, stand_of e.1) ∷ more)) (is_eq-slice_cmp id (string_bytes e.0)) (set_of es id t)
