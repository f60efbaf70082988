-- Lists of what is seen, where one id or all of them change.
use Rattle.std.proofs.Common.{◌≡◌, List, [], ◌∷◌, map, length, suc, Bool, true, false, cond, ◌||◌, refl, sym, ap, subst, bytes_eq, arith}
use Rattle.std.specs.Prelude.{◌==◌}
use Rattle.std.proofs.lemmas.Bool.{false_from_ne_true, both_ways, or_right, or_left, ne_eqb}
use Rattle.cluster_defs.specs.Words.{Id, is_empty, is_listed}
use Rattle.cluster_defs.specs.Facts.{Facts}
use Rattle.cluster_defs.specs.Laws.{EachOnce}
use Rattle.cluster_defs.proofs.Options.{same_id, id_self}
use Rattle.task_table.specs.Seen.{Seen, changed}
use Rattle.cluster_state.specs.Plain.{look}
use Rattle.cluster_laws.proofs.Apart.{turned}

-- a list is empty where its length is 0
pub none_listed : {X : Type 0} (xs : List X) → (length xs == 0) ≡ is_empty xs
none_listed [] = refl
none_listed (x ∷ xs) = ne_eqb (suc (length xs)) 0 (λ e. omega arith)

-- all listed ids look the same
pub map_listed : (a b : Id → Seen) (ids : List Id) → ((i : Id) → is_listed i ids ≡ true → a i ≡ b i) → map a ids ≡ map b ids
map_listed a b [] h = refl
map_listed a b (i ∷ ids) h =
    rw (h i (or_left _ _ (id_self i)), map_listed a b ids (λ j on. h j (or_right _ _ on))) refl

pub map_all : (a b : Id → Seen) (ids : List Id) → ((i : Id) → a i ≡ b i) → map a ids ≡ map b ids
map_all a b ids h = map_listed a b ids (λ i _. h i)

pub map_twice : (g : Seen → Seen) (a : Id → Seen) (ids : List Id) → map g (map a ids) ≡ map (λ i. g (a i)) ids
map_twice g a [] = refl
map_twice g a (i ∷ ids) = ap (λ ts. g (a i) ∷ ts) (map_twice g a ids)

-- an id that isn't listed is none of those that are
other : (id i : Id) (ids : List Id) → is_listed id ids ≡ false → is_listed i ids ≡ true → bytes_eq id i ≡ false
other id i ids off on =
    false_from_ne_true _ (λ same. both_ways (is_listed id ids) off (subst (λ j. is_listed j ids ≡ true) (sym (same_id id i same)) on))

-- what changes of one id alone
pub changed_one : (f g : Facts) (change : Seen → Seen) (id : Id) (ids : List Id) → EachOnce ids →
    ((i : Id) → bytes_eq id i ≡ false → look g i ≡ look f i) → look g id ≡ change (look f id) →
    map (look g) ids ≡ changed id change (map (look f) ids)
changed_one f g change id [] once same here = refl
changed_one f g change id (i ∷ ids) once same here =
    elim (bytes_eq i id) as (λ b. bytes_eq i id ≡ b → (look g i ∷ map (look g) ids) ≡ cond b (change (look f i) ∷ map (look f) ids) (look f i ∷ changed id change (map (look f) ids))) [
      | true ↦ λ on.
          let is : i ≡ id = same_id i id on in
          let head : look g i ≡ change (look f i) = subst (λ j. look g j ≡ change (look f j)) (sym is) here in
          let rest : map (look g) ids ≡ map (look f) ids = map_listed (look g) (look f) ids (λ j listed. same j (subst (λ k. bytes_eq k j ≡ false) is (other i j ids once.0 listed))) in
          rw (head, rest) refl
      | false ↦ λ off. rw (same i (turned i id off), changed_one f g change id ids once.1 same here) refl
    ] refl
