-- What holds of each id of a list without its repeats holds of each of the list.
use Rattle.std.proofs.Common.{◌≡◌, List, [], ◌∷◌, ◌++◌, fold, Bool, true, false, cond, bytes_eq, refl, subst, ⊎_elim}
use Rattle.std.specs.List.{list_any, list_all}
use Rattle.std.proofs.lemmas.Bool.{and_parts, or_cases}
use Rattle.cluster_defs.specs.Words.{Id}
use Rattle.cluster_defs.specs.Submit.{with_new, once}
use Rattle.cluster_defs.proofs.Options.{same_id}

listed_passes : (p : Id → Bool) (found : List Id) (x : Id) → list_all p found ≡ true → list_any (λ other. bytes_eq other x) found ≡ true → p x ≡ true
listed_passes p [] x all any = cc
listed_passes p (y ∷ ys) x all any =
    let parts = and_parts _ _ all in
    ⊎_elim (λ here. subst (λ i. p i ≡ true) (same_id y x here) parts.0) (λ there. listed_passes p ys x parts.1 there) (or_cases _ _ any)

append_parts : (p : Id → Bool) (xs : List Id) (x : Id) → list_all p (xs ++ x ∷ []) ≡ true → (list_all p xs ≡ true) × (p x ≡ true)
append_parts p [] x h = (refl, (and_parts (p x) true h).0)
append_parts p (y ∷ ys) x h =
    let parts = and_parts (p y) (list_all p (ys ++ x ∷ [])) h in
    let more = append_parts p ys x parts.1 in
    let all : list_all p (y ∷ ys) ≡ true = rw (parts.0, more.0) refl in
    (all, more.1)

new_parts : (p : Id → Bool) (found : List Id) (x : Id) → list_all p (with_new found x) ≡ true → (list_all p found ≡ true) × (p x ≡ true)
new_parts p found x =
    (elim (list_any (λ other. bytes_eq other x) found) as (λ b. list_any (λ other. bytes_eq other x) found ≡ b → list_all p (cond b found (found ++ x ∷ [])) ≡ true → (list_all p found ≡ true) × (p x ≡ true)) [
      | true ↦ λ here all. (all, listed_passes p found x all here)
      | false ↦ λ _ all. append_parts p found x all
    ]) refl

fold_parts : (p : Id → Bool) (found xs : List Id) → list_all p (fold with_new found xs) ≡ true → (list_all p found ≡ true) × (list_all p xs ≡ true)
fold_parts p found [] h = (h, refl)
fold_parts p found (x ∷ xs) h =
    let more = fold_parts p (with_new found x) xs h in
    let parts = new_parts p found x more.0 in
    let all : list_all p (x ∷ xs) ≡ true = rw (parts.1, more.1) refl in
    (parts.0, all)

pub once_all : (p : Id → Bool) (xs : List Id) → list_all p (once xs) ≡ true → list_all p xs ≡ true
once_all p xs h = (fold_parts p [] xs h).1
