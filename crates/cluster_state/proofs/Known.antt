-- Ids that are known, and lists that are the same.
use Rattle.std.proofs.Common.{◌≡◌, ℕ, ◌<◌, ◌≤◌, ◌+◌, List, [], ◌∷◌, map, length, drop, true, false, cond, ◌&&◌, ◌||◌, suc, refl, sym, ap, ◌∙◌, bytes_eq, Option, Some, None}
use Rattle.std.proofs.Common.{Bor, slice_index_or}
use Rattle.std.proofs.lemmas.List.{drop_more, drop_all}
use Rattle.std.specs.Prelude.{is_some}
use Rattle.std.specs.Option.{option_copied}
use Rattle.cluster_defs.specs.Words.{Id, is_listed, same_lists}
use Rattle.task_table.specs.Seen.{Seen, seen_in}

-- an id is known where a task of it is there
pub known_is : (id : Id) (ts : List Seen) → is_listed id (map (λ t. t.row.id) ts) ≡ is_some (seen_in ts id)
known_is id [] = refl
known_is id (t ∷ ts) =
    elim (bytes_eq t.row.id id) as (λ b. (b || is_listed id (map (λ (u : Seen). u.row.id) ts)) ≡ is_some (cond b (Some t) (seen_in ts id))) [
      | true ↦ refl
      | false ↦ known_is id ts
    ]

-- lists that are the same have one length
pub same_length : (xs ys : List (List ℕ)) → same_lists xs ys ≡ true → length xs ≡ length ys
same_length [] [] h = refl
same_length [] (y ∷ ys) h = cc
same_length (x ∷ xs) [] h = cc
same_length (x ∷ xs) (y ∷ ys) h =
    (elim (bytes_eq x y) as (λ b. (b && same_lists xs ys) ≡ true → length (x ∷ xs) ≡ length (y ∷ ys)) [
      | true ↦ λ k. ap suc (same_length xs ys k)
      | false ↦ λ k. cc
    ]) h

-- at a place that both have, the two there tell, and the rest
pub same_step : (xs ys : List (List ℕ)) (i : ℕ) (x y : List ℕ) → i < length xs → i < length ys → x ≡ slice_index_or xs i x → y ≡ slice_index_or ys i y →
    same_lists (drop i xs) (drop i ys) ≡ (bytes_eq x y && same_lists (drop (i + 1) xs) (drop (i + 1) ys))
same_step xs ys i x y lt lu is js =
    let a : drop i xs ≡ x ∷ drop (i + 1) xs = drop_more xs i x lt ∙ ap (λ z. z ∷ drop (i + 1) xs) (sym is) in
    let b : drop i ys ≡ y ∷ drop (i + 1) ys = drop_more ys i y lu ∙ ap (λ z. z ∷ drop (i + 1) ys) (sym js) in
    rw (a, b) refl

-- at the end of both nothing is left
pub same_end : (xs ys : List (List ℕ)) (i : ℕ) → length xs ≤ i → length ys ≤ i → same_lists (drop i xs) (drop i ys) ≡ true
same_end xs ys i le lf = rw (drop_all i xs le, drop_all i ys lf) refl
