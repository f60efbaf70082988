-- Tasks that are noted with ids, and taken out again.
use Rattle.std.proofs.Common.{◌≡◌, ap, sym, ◌∙◌, ℕ, suc, zero, List, [], ◌∷◌, ◌++◌, take, Bool, true, false, not, ◌&&◌, ◌||◌, cond, refl, subst, Option, Some, None, bytes_eq}
use Rattle.std.specs.Prelude.{◌==◌}
use Rattle.std.specs.List.{list_any}
use Rattle.std.specs.BTreeSet.{BTreeSet}
use Rattle.std.proofs.lemmas.Bool.{both_ways, or_left, or_right, eqb-true, eq-eqb, false_from_ne_true}
use Rattle.std.proofs.lemmas.List.Folds.{list_any-append}
use Rattle.std.proofs.lemmas.Slice.Eq.{bytes_eq-Decides}
use Rattle.place_sets.specs.Sets.{has, Grows, Without}
use Rattle.place_sets.specs.Lanes.{in_set}
use Rattle.place_sets.proofs.Covering.{first_or_later}
use Rattle.place_sets.proofs.Leasts.{any_push}
use Rattle.task_graph.specs.Listing.{Waits, is_waiting, lists, Noted, NotedInPart, TakenOut, SameBut, SameWaits}

-- THE SET OF ONE ID

same_id : (i j : List ℕ) → bytes_eq i j ≡ true → i ≡ j
same_id i j h = (bytes_eq-Decides i j).0 h

module _ (f g : List ℕ → Option (BTreeSet ℕ)) (id : List ℕ) (s : BTreeSet ℕ) (place : ℕ) (sets : (j : List ℕ) → g j ≡ cond (bytes_eq id j) (Some s) (f j)) where
  noted_at : (b : Bool) (p : Option (BTreeSet ℕ)) → ((i : ℕ) → has s i ≡ ((i == place) || in_set (f id) i)) → (b ≡ true → f id ≡ p) → (i : ℕ) → in_set (cond b (Some s) p) i ≡ ((b && (i == place)) || in_set p i)
  noted_at true p is same i = is i ∙ ap (λ q. (i == place) || in_set q i) (same refl)
  noted_at false p is same i = refl

  -- a place comes into the set of an id
  pub noted : ((i : ℕ) → has s i ≡ ((i == place) || in_set (f id) i)) → (j : List ℕ) (i : ℕ) → in_set (g j) i ≡ ((bytes_eq id j && (i == place)) || in_set (f j) i)
  noted is j i = ap (λ q. in_set q i) (sets j) ∙ noted_at (bytes_eq id j) (f j) is (λ on. ap f (same_id id j on)) i

  taken_at : (b : Bool) (p : Option (BTreeSet ℕ)) → ((i : ℕ) → has s i ≡ (not (i == place) && in_set (f id) i)) → (b ≡ true → f id ≡ p) → (i : ℕ) → in_set (cond b (Some s) p) i ≡ (not (b && (i == place)) && in_set p i)
  taken_at true p is same i = is i ∙ ap (λ q. not (i == place) && in_set q i) (same refl)
  taken_at false p is same i = refl

  -- it is taken out of it
  pub taken : ((i : ℕ) → has s i ≡ (not (i == place) && in_set (f id) i)) → (j : List ℕ) (i : ℕ) → in_set (g j) i ≡ (not (bytes_eq id j && (i == place)) && in_set (f j) i)
  taken is j i = ap (λ q. in_set q i) (sets j) ∙ taken_at (bytes_eq id j) (f j) is (λ on. ap f (same_id id j on)) i

  stays_at : (b : Bool) (p : Option (BTreeSet ℕ)) → ((i : ℕ) → has s i ≡ in_set (f id) i) → (b ≡ true → f id ≡ p) → (i : ℕ) → in_set (cond b (Some s) p) i ≡ in_set p i
  stays_at true p is same i = is i ∙ ap (λ q. in_set q i) (same refl)
  stays_at false p is same i = refl

  -- it stays as it was
  pub stays : ((i : ℕ) → has s i ≡ in_set (f id) i) → (j : List ℕ) (i : ℕ) → in_set (g j) i ≡ in_set (f j) i
  stays is j i = ap (λ q. in_set q i) (sets j) ∙ stays_at (bytes_eq id j) (f j) is (λ on. ap f (same_id id j on)) i

-- a set of one place, where there was none
pub alone_noted : (s : BTreeSet ℕ) (o : Option (BTreeSet ℕ)) (place : ℕ) → o ≡ None → has s place ≡ true → ((i : ℕ) → (i ≡ place → ⊥) → has s i ≡ false) → (i : ℕ) → has s i ≡ ((i == place) || in_set o i)
alone_noted s o place none there only i =
    elim (i == place) as (λ b. (i == place) ≡ b → has s i ≡ (b || in_set o i)) [
      | true ↦ λ same. subst (λ k. has s k ≡ true) (sym (eqb-true i place same)) there
      | false ↦ λ off. only i (λ e. both_ways (i == place) off (eq-eqb i place e)) ∙ ap (λ q. in_set q i) (sym none)
    ] refl

-- MANY IDS

lists_more : (ids : List (List ℕ)) (id j : List ℕ) → lists (ids ++ id ∷ []) j ≡ (lists ids j || bytes_eq id j)
lists_more ids id j = any_push (λ i. bytes_eq i j) ids id

or_step : (x y e o : Bool) → ((y && e) || ((x && e) || o)) ≡ (((x || y) && e) || o)
or_step true true true o = refl
or_step true true false o = refl
or_step true false e o = refl
or_step false y e o = refl

not_step : (x y e o : Bool) → (not (y && e) && (not (x && e) && o)) ≡ (not ((x || y) && e) && o)
not_step true true true o = refl
not_step true true false o = refl
not_step true false e o = refl
not_step false y e o = refl

-- noted with the ids of one kind, and then with those of another
noted_then : (k l m : List ℕ → Bool) (place : ℕ) (old mid new : Waits) → ((j : List ℕ) → m j ≡ (k j || l j)) → Noted k place old mid → Noted l place mid new → Noted m place old new
noted_then k l m place old mid new both one two = λ j i.
    two j i ∙ ap (λ b. (l j && (i == place)) || b) (one j i) ∙ or_step (k j) (l j) (i == place) (is_waiting old j i)
    ∙ ap (λ b. (b && (i == place)) || is_waiting old j i) (sym (both j))

taken_then : (k l m : List ℕ → Bool) (place : ℕ) (old mid new : Waits) → ((j : List ℕ) → m j ≡ (k j || l j)) → TakenOut k place old mid → TakenOut l place mid new → TakenOut m place old new
taken_then k l m place old mid new both one two = λ j i.
    two j i ∙ ap (λ b. not (l j && (i == place)) && b) (one j i) ∙ not_step (k j) (l j) (i == place) (is_waiting old j i)
    ∙ ap (λ b. not (b && (i == place)) && is_waiting old j i) (sym (both j))

pub noted_none : (place : ℕ) (old : Waits) → Noted (lists []) place old old
noted_none place old = λ j i. refl

pub taken_none : (place : ℕ) (old : Waits) → TakenOut (lists []) place old old
taken_none place old = λ j i. refl

-- noted with some ids, and with one more
pub noted_more : (ids : List (List ℕ)) (id : List ℕ) (place : ℕ) (old mid new : Waits) → Noted (lists ids) place old mid → Noted (bytes_eq id) place mid new → Noted (lists (ids ++ id ∷ [])) place old new
noted_more ids id place old mid new one two = noted_then (lists ids) (bytes_eq id) (lists (ids ++ id ∷ [])) place old mid new (lists_more ids id) one two

pub taken_more : (ids : List (List ℕ)) (id : List ℕ) (place : ℕ) (old mid new : Waits) → TakenOut (lists ids) place old mid → TakenOut (bytes_eq id) place mid new → TakenOut (lists (ids ++ id ∷ [])) place old new
taken_more ids id place old mid new one two = taken_then (lists ids) (bytes_eq id) (lists (ids ++ id ∷ [])) place old mid new (lists_more ids id) one two

-- some of the ids, and all of them
take_lists : (ids : List (List ℕ)) (n : ℕ) (j : List ℕ) → lists (take n ids) j ≡ true → lists ids j ≡ true
take_lists [] zero j on = on
take_lists [] (suc n) j on = on
take_lists (id ∷ ids) zero j on = cc
take_lists (id ∷ ids) (suc n) j on =
    first_or_later (bytes_eq id j) (lists (take n ids) j) on (λ here. or_left (bytes_eq id j) (lists ids j) here) (λ later. or_right (bytes_eq id j) (lists ids j) (take_lists ids n j later))

none_more : (few all e o : Bool) → (few ≡ true → all ≡ true) → (all && e) ≡ false → ((few && e) || o) ≡ o
none_more true all true o up off = cc (up refl)
none_more true all false o up off = refl
none_more false all e o up off = refl

-- where memory was wanting once some ids were noted
pub noted_in_part : (ids : List (List ℕ)) (n place : ℕ) (old mid new : Waits) → Noted (lists (take n ids)) place old mid → SameWaits mid new → SameBut (lists ids) place old new
noted_in_part ids n place old mid new one same = λ j i off. same j i ∙ one j i ∙ none_more (lists (take n ids) j) (lists ids j) (i == place) (is_waiting old j i) (take_lists ids n j) off

pub noted_first : (ids : List (List ℕ)) (n place : ℕ) (old mid new : Waits) → Noted (lists (take n ids)) place old mid → SameWaits mid new → NotedInPart ids place old new
noted_first ids n place old mid new one same = (n, λ j i. same j i ∙ one j i)

-- TWO LISTS OF IDS

lists_both : (xs ys : List (List ℕ)) (j : List ℕ) → lists (xs ++ ys) j ≡ (lists xs j || lists ys j)
lists_both xs ys j = list_any-append (λ i. bytes_eq i j) xs ys

pub noted_both : (xs ys : List (List ℕ)) (place : ℕ) (old mid new : Waits) → Noted (lists xs) place old mid → Noted (lists ys) place mid new → Noted (lists (xs ++ ys)) place old new
noted_both xs ys place old mid new one two = noted_then (lists xs) (lists ys) (lists (xs ++ ys)) place old mid new (lists_both xs ys) one two

pub taken_both : (xs ys : List (List ℕ)) (place : ℕ) (old mid new : Waits) → TakenOut (lists xs) place old mid → TakenOut (lists ys) place mid new → TakenOut (lists (xs ++ ys)) place old new
taken_both xs ys place old mid new one two = taken_then (lists xs) (lists ys) (lists (xs ++ ys)) place old mid new (lists_both xs ys) one two

first_off : (x y e : Bool) → ((x || y) && e) ≡ false → (x && e) ≡ false
first_off true y e off = off
first_off false y e off = refl

second_off : (x y e : Bool) → ((x || y) && e) ≡ false → (y && e) ≡ false
second_off true true e off = off
second_off true false e off = refl
second_off false y e off = off

same_or : (x e o : Bool) → (x && e) ≡ false → ((x && e) || o) ≡ o
same_or x e o off = ap (λ b. b || o) off

-- where memory was wanting for the first of them, and for the second
pub same_first : (xs ys : List (List ℕ)) (place : ℕ) (old new : Waits) → SameBut (lists xs) place old new → SameBut (lists (xs ++ ys)) place old new
same_first xs ys place old new one = λ j i off. one j i (first_off (lists xs j) (lists ys j) (i == place) (ap (λ b. b && (i == place)) (sym (lists_both xs ys j)) ∙ off))

pub same_second : (xs ys : List (List ℕ)) (place : ℕ) (old mid new : Waits) → Noted (lists xs) place old mid → SameBut (lists ys) place mid new → SameBut (lists (xs ++ ys)) place old new
same_second xs ys place old mid new one two = λ j i off.
    let apart : ((lists xs j || lists ys j) && (i == place)) ≡ false = ap (λ b. b && (i == place)) (sym (lists_both xs ys j)) ∙ off in
    two j i (second_off (lists xs j) (lists ys j) (i == place) apart) ∙ one j i ∙ same_or (lists xs j) (i == place) (is_waiting old j i) (first_off (lists xs j) (lists ys j) (i == place) apart)

-- what was noted of a task that waited for nothing, once it is taken out
pub taken_back : (ids : List (List ℕ)) (place : ℕ) (old mid new : Waits) → ((j : List ℕ) → is_waiting old j place ≡ false) → SameBut (lists ids) place old mid → TakenOut (lists ids) place mid new → SameWaits old new
taken_back ids place old mid new fresh same out = λ j i.
    elim (lists ids j && (i == place)) as (λ b. (lists ids j && (i == place)) ≡ b → is_waiting new j i ≡ is_waiting old j i) [
      | true ↦ λ on. out j i ∙ ap (λ b. not b && is_waiting mid j i) on ∙ sym (subst (λ k. is_waiting old j k ≡ false) (sym (eqb-true i place (right_of (lists ids j) (i == place) on))) (fresh j))
      | false ↦ λ off. out j i ∙ ap (λ b. not b && is_waiting mid j i) off ∙ same j i off
    ] refl
  where
    right_of : (a b : Bool) → (a && b) ≡ true → b ≡ true
    right_of true b on = on
    right_of false b on = cc

pub noted_same : (ids : List (List ℕ)) (place : ℕ) (old new : Waits) → Noted (lists ids) place old new → SameBut (lists ids) place old new
noted_same ids place old new one = λ j i off. one j i ∙ same_or (lists ids j) (i == place) (is_waiting old j i) off
