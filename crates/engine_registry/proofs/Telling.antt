-- Places that tell where engines stand, after a change of the list.
use Rattle.std.proofs.Common.{◌≡◌, ap, sym, ◌∙◌, ℕ, zero, suc, ◌+◌, ◌<◌, List, [], ◌∷◌, ◌++◌, length, map, get_or, take, Bool, true, false, cond, bytes_eq, ◌&&◌, ◌||◌, refl, subst, Option, Some, None, arith}
use Rattle.std.specs.Prelude.{find, filter, slice_get, option_map}
use Rattle.std.proofs.Common.{Bor}
use Rattle.std.specs.List.{list_any}
use Rattle.std.specs.Option.{is_some, option_copied}
use Rattle.std.proofs.lemmas.List.{take_more}
use Rattle.cluster_defs.specs.declared.engine.Engine.{Engine}
use Rattle.cluster_defs.specs.Words.{Id}
use Rattle.cluster_defs.proofs.Options.{same_id}
use Rattle.engine_registry.specs.Places.{passing, engine_at, Tells, Keeps, HasEach}

-- where none passes, none is found at a place
none_later : (p : Engine → Bool) (e : Engine) (es : List Engine) (i : ℕ) → ((i : ℕ) → find p es ≡ None → passing p (slice_get es i) ≡ None) → p e ≡ false → find p es ≡ None → passing p (slice_get (e ∷ es) i) ≡ None
none_later p e es zero rest off h = rw off refl
none_later p e es (suc i) rest off h = rest i h

pub none_at : (p : Engine → Bool) (live : List Engine) (i : ℕ) → find p live ≡ None → passing p (slice_get live i) ≡ None
none_at p [] i none = refl
none_at p (e ∷ es) i none =
    (elim (p e) as (λ b. p e ≡ b → cond b (Some e) (find p es) ≡ None → passing p (slice_get (e ∷ es) i) ≡ None) [
      | true ↦ λ on h. cc
      | false ↦ λ off h. none_later p e es i (λ j. none_at p es j) off h
    ]) refl none

pub none_found : (p : Engine → Bool) (live : List Engine) (place : Option ℕ) → find p live ≡ None → engine_at live p place ≡ None
none_found p live None none = refl
none_found p live (Some i) none = none_at p live i none

-- either one is found or none
pub found_or : {X : Type 0} {P : Type 0} (o : Option X) → (o ≡ None → P) → (is_some o ≡ true → P) → P
found_or None n s = n refl
found_or (Some x) n s = s refl

pub tells_kept : {K : Type 0} (test : K → Engine → Bool) (live : List Engine) (f g : K → Option ℕ) → Tells test live f → Keeps test live f g → Tells test live g
tells_kept {K} test live f g tells keeps = λ k.
    found_or {P = engine_at live (test k) (g k) ≡ find (test k) live} (find (test k) live)
    (λ none. none_found (test k) live (g k) none ∙ sym none)
    (λ some. rw (keeps k some) (tells k))

-- an engine more at the end
get_front : (live : List Engine) (e f : Engine) (i : ℕ) → slice_get live i ≡ Some f → slice_get (live ++ e ∷ []) i ≡ Some f
get_front [] e f i h = cc
get_front (x ∷ xs) e f zero h = h
get_front (x ∷ xs) e f (suc i) h = get_front xs e f i h

pub get_end : (live : List Engine) (e : Engine) → slice_get (live ++ e ∷ []) (length live) ≡ Some e
get_end [] e = refl
get_end (x ∷ xs) e = get_end xs e

find_front : (p : Engine → Bool) (live : List Engine) (e : Engine) → is_some (find p live) ≡ true → find p (live ++ e ∷ []) ≡ find p live
find_front p [] e h = cc
find_front p (x ∷ xs) e h =
    (elim (p x) as (λ b. is_some (cond b (Some x) (find p xs)) ≡ true → cond b (Some x) (find p (xs ++ e ∷ [])) ≡ cond b (Some x) (find p xs)) [
      | true ↦ λ _. refl
      | false ↦ λ h. find_front p xs e h
    ]) h

find_end : (p : Engine → Bool) (live : List Engine) (e : Engine) → find p live ≡ None → find p (live ++ e ∷ []) ≡ cond (p e) (Some e) None
find_end p [] e h = refl
find_end p (x ∷ xs) e h =
    (elim (p x) as (λ b. cond b (Some x) (find p xs) ≡ None → cond b (Some x) (find p (xs ++ e ∷ [])) ≡ cond (p e) (Some e) None) [
      | true ↦ λ h. cc
      | false ↦ λ h. find_end p xs e h
    ]) h

front_place : (p : Engine → Bool) (live : List Engine) (e : Engine) (place : Option ℕ) → is_some (engine_at live p place) ≡ true → engine_at (live ++ e ∷ []) p place ≡ engine_at live p place
front_place p live e None h = refl
front_place p live e (Some i) h =
    (elim (slice_get live i) as (λ o. slice_get live i ≡ o → is_some (passing p o) ≡ true → passing p (slice_get (live ++ e ∷ []) i) ≡ passing p o) [
      | None ↦ λ _ h. cc
      | Some f ↦ λ is h. rw (get_front live e f i is) refl
    ]) refl h

pub tells_more : {K : Type 0} (test : K → Engine → Bool) (live : List Engine) (e : Engine) (f g : K → Option ℕ) → Tells test live f → Keeps test live f g →
    ((k : K) → test k e ≡ true → find (test k) live ≡ None → g k ≡ Some (length live)) → Tells test (live ++ e ∷ []) g
tells_more {K} test live e f g tells keeps there = λ k.
    let more : Type 0 = engine_at (live ++ e ∷ []) (test k) (g k) ≡ find (test k) (live ++ e ∷ []) in
    found_or {P = more} (find (test k) live)
    (λ none. by_test k none (test k e) refl)
    (λ some.
    let is : engine_at live (test k) (g k) ≡ find (test k) live = rw (keeps k some) (tells k) in
    let there : is_some (engine_at live (test k) (g k)) ≡ true = ap is_some is ∙ some in
    front_place (test k) live e (g k) there ∙ is ∙ sym (find_front (test k) live e some))
  where
    by_test : (k : K) → find (test k) live ≡ None → (b : Bool) → test k e ≡ b → engine_at (live ++ e ∷ []) (test k) (g k) ≡ find (test k) (live ++ e ∷ [])
    by_test k none true is = rw (there k is none, get_end live e, find_end (test k) live e none, is) refl
    by_test k none false is =
        let off : find (test k) (live ++ e ∷ []) ≡ None = find_end (test k) live e none ∙ ap (λ b. cond b (Some e) None) is in
        none_found (test k) (live ++ e ∷ []) (g k) off ∙ sym off

find_passes : (p : Engine → Bool) (live : List Engine) (e : Engine) → p e ≡ true → is_some (find p (live ++ e ∷ [])) ≡ true
find_passes p [] e on = rw on refl
find_passes p (x ∷ xs) e on =
    elim (p x) as (λ b. is_some (cond b (Some x) (find p (xs ++ e ∷ []))) ≡ true) [
      | true ↦ refl
      | false ↦ find_passes p xs e on
    ]

-- the engine at a place passes: it is found
pub has_item : (p : Engine → Bool) (live : List Engine) (i : ℕ) (e : Engine) → i < length live → p (get_or live i e) ≡ true → is_some (find p live) ≡ true
has_item p [] i e lt on = absurd (omega arith)
has_item p (x ∷ xs) zero e lt on = rw on refl
has_item p (x ∷ xs) (suc i) e lt on =
    elim (p x) as (λ b. is_some (cond b (Some x) (find p xs)) ≡ true) [
      | true ↦ refl
      | false ↦ has_item p xs i e (omega arith) on
    ]

-- the next of a list
pub tells_next : {K : Type 0} (test : K → Engine → Bool) (live : List Engine) (i : ℕ) (e : Engine) (f g : K → Option ℕ) → i < length live → e ≡ get_or live i e → Tells test (take i live) f → Keeps test (take i live) f g →
    ((k : K) → test k e ≡ true → find (test k) (take i live) ≡ None → g k ≡ Some (length (take i live))) → Tells test (take (i + 1) live) g
tells_next {K} test live i e f g lt is tells keeps there =
    subst (λ xs. Tells test xs g) (sym (take_more live i e lt ∙ ap (λ x. take i live ++ x ∷ []) (sym is))) (tells_more test (take i live) e f g tells keeps there)

-- NONE BUT SOME

kept_later : (p q : Engine → Bool) (x : Engine) (xs : List Engine) → (is_some (find p (filter q xs)) ≡ true → is_some (find p xs) ≡ true) → (c b : Bool) → p x ≡ b → is_some (find p (cond c (x ∷ filter q xs) (filter q xs))) ≡ true → is_some (cond b (Some x) (find p xs)) ≡ true
kept_later p q x xs rest c true is h = refl
kept_later p q x xs rest true false is h = rest (subst (λ b. is_some (cond b (Some x) (find p (filter q xs))) ≡ true) is h)
kept_later p q x xs rest false false is h = rest h

find_kept : (p q : Engine → Bool) (live : List Engine) → is_some (find p (filter q live)) ≡ true → is_some (find p live) ≡ true
find_kept p q [] h = h
find_kept p q (x ∷ xs) h = kept_later p q x xs (find_kept p q xs) (q x) (p x) refl h

placed : (live : List Engine) (p : Engine → Bool) (place : Option ℕ) → is_some (engine_at live p place) ≡ true → is_some place ≡ true
placed live p None h = cc
placed live p (Some i) h = refl

-- the keys of those that are left have places
pub each_kept : {K : Type 0} (test : K → Engine → Bool) (q : Engine → Bool) (live : List Engine) (f : K → Option ℕ) → Tells test live f → HasEach test (filter q live) f
each_kept {K} test q live f tells = λ k some.
    placed live (test k) (f k) (ap is_some (tells k) ∙ find_kept (test k) q live some)

-- ALL CHANGED

map_found : (m : Engine → Engine) (p : Engine → Bool) (live : List Engine) → ((e : Engine) → p (m e) ≡ p e) → find p (map m live) ≡ option_map m (find p live)
map_found m p [] same = refl
map_found m p (x ∷ xs) same =
    ap (λ b. cond b (Some (m x)) (find p (map m xs))) (same x)
    ∙ elim (p x) as (λ b. cond b (Some (m x)) (find p (map m xs)) ≡ option_map m (cond b (Some x) (find p xs))) [
      | true ↦ refl
      | false ↦ map_found m p xs same
    ]

map_passing : (m : Engine → Engine) (p : Engine → Bool) (o : Option Engine) → ((e : Engine) → p (m e) ≡ p e) → passing p (option_map m o) ≡ option_map m (passing p o)
map_passing m p None same = refl
map_passing m p (Some e) same =
    ap (λ b. cond b (Some (m e)) None) (same e)
    ∙ elim (p e) as (λ b. cond b (Some (m e)) None ≡ option_map m (cond b (Some e) None)) [
      | true ↦ refl
      | false ↦ refl
    ]

map_get : (m : Engine → Engine) (live : List Engine) (i : ℕ) → slice_get (map m live) i ≡ option_map m (slice_get live i)
map_get m [] i = refl
map_get m (x ∷ xs) zero = refl
map_get m (x ∷ xs) (suc i) = map_get m xs i

map_at : (m : Engine → Engine) (p : Engine → Bool) (live : List Engine) (place : Option ℕ) → ((e : Engine) → p (m e) ≡ p e) → engine_at (map m live) p place ≡ option_map m (engine_at live p place)
map_at m p live None same = refl
map_at m p live (Some i) same = ap (passing p) (map_get m live i) ∙ map_passing m p (slice_get live i) same

pub tells_mapped : {K : Type 0} (test : K → Engine → Bool) (m : Engine → Engine) (live : List Engine) (f : K → Option ℕ) → ((k : K) (e : Engine) → test k (m e) ≡ test k e) → Tells test live f → Tells test (map m live) f
tells_mapped {K} test m live f same tells = λ k.
    map_at m (test k) live (f k) (same k) ∙ ap (option_map m) (tells k) ∙ sym (map_found m (test k) live (same k))

-- PLACES THAT ARE SET

-- the place of a key that has one
pub pointed : {X : Type 0} (f : Id → Option X) (i j : Id) (v o : Option X) → is_some (f i) ≡ true → o ≡ cond (bytes_eq i j) v (f j) → o ≡ cond (bytes_eq i j && is_some (f j)) v (f j)
pointed f i j v o there is =
    (elim (bytes_eq i j) as (λ b. bytes_eq i j ≡ b → o ≡ cond b v (f j) → o ≡ cond (b && is_some (f j)) v (f j)) [
      | true ↦ λ on is.
          let has : is_some (f j) ≡ true = subst (λ k. is_some (f k) ≡ true) (same_id i j on) there in
          is ∙ sym (ap (λ b. cond b v (f j)) has)
      | false ↦ λ off is. is
    ]) refl is

get_more : {X : Type 0} (xs : List X) (x : X) (j : ℕ) → is_some (slice_get xs j) ≡ true → slice_get (xs ++ x ∷ []) j ≡ slice_get xs j
get_more [] x j h = cc
get_more (y ∷ ys) x zero h = refl
get_more (y ∷ ys) x (suc j) h = get_more ys x j h

pub kept_more : {X : Type 0} (xs ys : List X) (x : X) → ((j : ℕ) → is_some (slice_get xs j) ≡ true → slice_get ys j ≡ slice_get xs j) → (j : ℕ) → is_some (slice_get xs j) ≡ true → slice_get (ys ++ x ∷ []) j ≡ slice_get xs j
kept_more xs ys x kept j h = get_more ys x j (ap is_some (kept j h) ∙ h) ∙ kept j h

pub some_any : {X : Type 0} (p : X → Bool) (xs : List X) → is_some (find p xs) ≡ list_any p xs
some_any p [] = refl
some_any p (x ∷ xs) =
    elim (p x) as (λ b. is_some (cond b (Some x) (find p xs)) ≡ (b || list_any p xs)) [
      | true ↦ refl
      | false ↦ some_any p xs
    ]
