-- Searches and counts over lists.
use Rattle.std.proofs.Common.{◌≡◌, ap, sym, ◌∙◌, ℕ, ◌+◌, ◌<◌, List, [], ◌∷◌, ◌++◌, length, take, drop, set, get_or, Bool, true, false, cond, ◌&&◌, ◌||◌, map, refl, arith}
use Rattle.std.specs.Prelude.{filter}
use Rattle.std.specs.List.{list_any}
use Rattle.std.proofs.lemmas.List.{get_or_default}
use Rattle.std.proofs.lemmas.List.Edits.{map_over_more}
use Rattle.cluster_types.proofs.Lists.{any_never}

-- one that passes, and what passes of it passes of some
pub record Among {X : Type 0} (p : X → Bool) (xs : List X) : Type 0 where
  pub one : X
  pub passes : p one ≡ true
  pub again : (q : X → Bool) → q one ≡ true → list_any q xs ≡ true

pub any_and : {X : Type 0} (b : Bool) (q : X → Bool) (xs : List X) → list_any (λ x. b && q x) xs ≡ (b && list_any q xs)
any_and true q xs = refl
any_and false q xs = any_never (λ x. false) (λ x. refl) xs

pub any_same : {X : Type 0} (p q : X → Bool) → ((x : X) → p x ≡ q x) → (xs : List X) → list_any p xs ≡ list_any q xs
any_same p q same [] = refl
any_same p q same (x ∷ xs) = rw (same x, any_same p q same xs) refl

pub map_map : {X Y Z : Type 0} (g : Y → Z) (f : X → Y) (xs : List X) → map g (map f xs) ≡ map (λ x. g (f x)) xs
map_map g f [] = refl
map_map g f (x ∷ xs) = ap (λ ys. g (f x) ∷ ys) (map_map g f xs)

pub map_self : {X : Type 0} (f : X → X) → ((x : X) → f x ≡ x) → (xs : List X) → map f xs ≡ xs
map_self f same [] = refl
map_self f same (x ∷ xs) = rw (same x, map_self f same xs) refl

map_cond : {X Y : Type 0} (f : X → Y) (b : Bool) (x : X) (xs : List X) → map f (cond b (x ∷ xs) xs) ≡ cond b (f x ∷ map f xs) (map f xs)
map_cond f true x xs = refl
map_cond f false x xs = refl

-- a filter of what was made is what is made of a filter
pub filter_map : {X Y : Type 0} (p : Y → Bool) (f : X → Y) (xs : List X) → filter p (map f xs) ≡ map f (filter (λ x. p (f x)) xs)
filter_map p f [] = refl
filter_map p f (x ∷ xs) = ap (λ ys. cond (p (f x)) (f x ∷ ys) ys) (filter_map p f xs) ∙ sym (map_cond f (p (f x)) x (filter (λ y. p (f y)) xs))

filter_step : {X : Type 0} (p : X → Bool) (a b : Bool) (x : X) (xs : List X) → p x ≡ a → filter p (cond b (x ∷ xs) xs) ≡ cond (a && b) (x ∷ filter p xs) (filter p xs)
filter_step p true true x xs e = rw e refl
filter_step p false true x xs e = rw e refl
filter_step p true false x xs e = refl
filter_step p false false x xs e = refl

-- one filter after another
pub filter_filter : {X : Type 0} (p q : X → Bool) (xs : List X) → filter p (filter q xs) ≡ filter (λ x. p x && q x) xs
filter_filter p q [] = refl
filter_filter p q (x ∷ xs) = filter_step p (p x) (q x) x (filter q xs) refl ∙ ap (λ ys. cond (p x && q x) (x ∷ ys) ys) (filter_filter p q xs)

pub map_step : {X : Type 0} (f : X → X) (xs ys : List X) (i : ℕ) (d y : X) → i < length xs → length ys ≡ length xs → ys ≡ map f (take i xs) ++ drop i xs → y ≡ f (get_or ys i d) → set ys i y ≡ map f (take (i + 1) xs) ++ drop (i + 1) xs
map_step f xs ys i d y lt long is made =
    let x = get_or ys i d in
    ap (set ys i) made ∙ map_over_more f xs ys i x lt is (get_or_default ys i d x (omega arith))

pub filter_none : {X : Type 0} (p : X → Bool) → ((x : X) → p x ≡ false) → (xs : List X) → filter p xs ≡ []
filter_none p off [] = refl
filter_none p off (x ∷ xs) = rw (off x) (filter_none p off xs)
