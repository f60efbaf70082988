-- Tasks by place: what each change leaves.
use Rattle.std.specs.Ordering.{nat_cmp}
use Rattle.std.specs.BTreeMap.{is_at}
use Rattle.std.proofs.Common.{◌||◌, subst, ◌≡◌, ap, sym, ◌∙◌, ℕ, zero, suc, ◌<◌, ◌≤◌, List, [], ◌∷◌, ◌++◌, length, map, set, get_or, Bool, true, false, cond, refl, Option, Some, None, bytes_eq, arith}
use Rattle.std.specs.Prelude.{option_map, slice_get}
use Rattle.std.specs.Option.{option_and_then}
use Rattle.std.proofs.lemmas.Bool.{both_ways}
use Rattle.cluster_defs.specs.Words.{Id, or_else}
use Rattle.cluster_defs.proofs.Options.{same_id}
use Rattle.task_table.specs.Seen.{Seen, place_in, seen_in, changed}
use Rattle.task_table.specs.Marking.{Aside}
use Rattle.task_table.specs.Waiting.{is_among}
use Rattle.place_sets.specs.Sets.{Apart, at_place, at_places}
use Rattle.task_table.specs.Places.{name, settling, asking, IsSame, Alike, Placed}

-- PLACES HANG ON IDS ALONE

place_among : Id → List Id → Option ℕ
place_among id [] = None
place_among id (i ∷ is) = cond (bytes_eq i id) (Some 0) (option_map suc (place_among id is))

in_names : (id : Id) (ts : List Seen) → place_in id ts ≡ place_among id (map name ts)
unfolding place_among
in_names id [] = refl
in_names id (t ∷ ts) = rw (in_names id ts) refl

pub same_place : (id : Id) (ts us : List Seen) → map name us ≡ map name ts → place_in id us ≡ place_in id ts
same_place id ts us same = in_names id us ∙ ap (place_among id) same ∙ sym (in_names id ts)

-- A CHANGE AT A PLACE

pub map_at : {X : Type 0} (of : Seen → X) (f : Seen → Seen) → ((t : Seen) → of (f t) ≡ of t) → (p : ℕ) (ts : List Seen) → map of (at_place f p ts) ≡ map of ts
map_at of f same p [] = refl
map_at of f same zero (t ∷ ts) = rw (same t) refl
map_at of f same (suc p) (t ∷ ts) = rw (map_at of f same p ts) refl

set_same : (f : Seen → Seen) (ts : List Seen) (p : ℕ) (d : Seen) → p < length ts → set ts p (f (get_or ts p d)) ≡ at_place f p ts
set_same f [] p d lt = absurd (omega arith)
set_same f (t ∷ ts) zero d lt = refl
set_same f (t ∷ ts) (suc p) d lt = ap (λ us. t ∷ us) (set_same f ts p d (omega arith))

pub set_at : (f : Seen → Seen) (ts : List Seen) (p : ℕ) (d y : Seen) → p < length ts → y ≡ f (get_or ts p d) → set ts p y ≡ at_place f p ts
set_at f ts p d y lt made = ap (set ts p) made ∙ set_same f ts p d lt

pub past_at : (f : Seen → Seen) (ts : List Seen) (p : ℕ) → length ts ≤ p → at_place f p ts ≡ ts
past_at f [] p le = refl
past_at f (t ∷ ts) zero le = absurd (omega arith)
past_at f (t ∷ ts) (suc p) le = ap (λ us. t ∷ us) (past_at f ts p (omega arith))

pub map_set : {X : Type 0} (of : Seen → X) (ts : List Seen) (p : ℕ) (d y : Seen) → p < length ts → of y ≡ of (get_or ts p d) → map of (set ts p y) ≡ map of ts
map_set of [] p d y lt same = absurd (omega arith)
map_set of (t ∷ ts) zero d y lt same = ap (λ v. v ∷ map of ts) same
map_set of (t ∷ ts) (suc p) d y lt same = ap (λ vs. of t ∷ vs) (map_set of ts p d y (omega arith) same)

pub alike_set : (ts : List Seen) (p : ℕ) (d y : Seen) → p < length ts → IsSame (get_or ts p d) y → Alike ts (set ts p y)
alike_set ts p d y lt s = record { names = map_set name ts p d y lt s.name; requests = map_set asking ts p d y lt s.request; settled = map_set settling ts p d y lt s.settled }

pub alike_at : (f : Seen → Seen) → ((t : Seen) → IsSame t (f t)) → (p : ℕ) (ts : List Seen) → Alike ts (at_place f p ts)
alike_at f same p ts = record { names = map_at name f (λ t. (same t).name) p ts; requests = map_at asking f (λ t. (same t).request) p ts; settled = map_at settling f (λ t. (same t).settled) p ts }

pub alike_after : (ts us vs : List Seen) → Alike ts us → Alike us vs → Alike ts vs
alike_after ts us vs a b = record { names = b.names ∙ a.names; requests = b.requests ∙ a.requests; settled = b.settled ∙ a.settled }

-- AT ONE PLACE AFTER ANOTHER

pub at_places_more : (f : Seen → Seen) (ps : List ℕ) (p : ℕ) (ts : List Seen) → at_places f (ps ++ p ∷ []) ts ≡ at_place f p (at_places f ps ts)
at_places_more f [] p ts = refl
at_places_more f (q ∷ ps) p ts = at_places_more f ps p (at_place f q ts)

-- ONE MORE

suc_else : (b c : Bool) (o : Option ℕ) (n : ℕ) → cond b (Some 0) (option_map suc (or_else o (cond c (Some n) None))) ≡ or_else (cond b (Some 0) (option_map suc o)) (cond c (Some (suc n)) None)
suc_else true c o n = refl
suc_else false c (Some m) n = refl
suc_else false true None n = refl
suc_else false false None n = refl

pub push_place : (ts : List Seen) (t : Seen) (id : Id) → place_in id (ts ++ t ∷ []) ≡ or_else (place_in id ts) (cond (bytes_eq t.row.id id) (Some (length ts)) None)
push_place [] t id = refl
push_place (u ∷ ts) t id = ap (λ o. cond (bytes_eq u.row.id id) (Some 0) (option_map suc o)) (push_place ts t id) ∙ suc_else (bytes_eq u.row.id id) (bytes_eq t.row.id id) (place_in id ts) (length ts)

-- a place is noted where the id has none
noted : (b : Bool) (old : Option ℕ) (p : ℕ) → (b ≡ true → old ≡ None) → cond b (Some p) old ≡ or_else old (cond b (Some p) None)
noted true old p new = rw (new refl) refl
noted false None p new = refl
noted false (Some q) p new = refl

pub noted_new : (old : Id → Option ℕ) (id j : Id) (p : ℕ) → old id ≡ None → cond (bytes_eq id j) (Some p) (old j) ≡ or_else (old j) (cond (bytes_eq id j) (Some p) None)
noted_new old id j p new = noted (bytes_eq id j) (old j) p (λ same. ap old (sym (same_id id j same)) ∙ new)

stays : (b : Bool) (o : Option ℕ) (p q : ℕ) → (b ≡ true → o ≡ Some q) → o ≡ or_else o (cond b (Some p) None)
stays true o p q old = rw (old refl) refl
stays false None p q old = refl
stays false (Some r) p q old = refl

pub noted_before : (old : Id → Option ℕ) (id j : Id) (p q : ℕ) → old id ≡ Some q → old j ≡ or_else (old j) (cond (bytes_eq id j) (Some p) None)
noted_before old id j p q is = stays (bytes_eq id j) (old j) p q (λ same. ap old (sym (same_id id j same)) ∙ is)

-- THE TASK OF AN ID

-- a change at the place of an id, where it has one
abbrev pub at_found : (Seen → Seen) → Option ℕ → List Seen → List Seen
at_found f None ts = ts
at_found f (Some p) ts = at_place f p ts

later : (f : Seen → Seen) (o : Option ℕ) (t : Seen) (ts : List Seen) → at_found f (option_map suc o) (t ∷ ts) ≡ t ∷ at_found f o ts
later f None t ts = refl
later f (Some p) t ts = refl

step_found : (b : Bool) (f : Seen → Seen) (o : Option ℕ) (t : Seen) (ts us : List Seen) → at_found f o ts ≡ us → at_found f (cond b (Some 0) (option_map suc o)) (t ∷ ts) ≡ cond b (f t ∷ ts) (t ∷ us)
step_found true f o t ts us e = refl
step_found false f o t ts us e = later f o t ts ∙ ap (λ vs. t ∷ vs) e

pub found_changed : (f : Seen → Seen) (id : Id) (ts : List Seen) → at_found f (place_in id ts) ts ≡ changed id f ts
found_changed f id [] = refl
found_changed f id (t ∷ ts) = step_found (bytes_eq t.row.id id) f (place_in id ts) t ts (changed id f ts) (found_changed f id ts)

pub at_is_changed : (f : Seen → Seen) (id : Id) (ts : List Seen) (p : ℕ) → place_in id ts ≡ Some p → at_place f p ts ≡ changed id f ts
at_is_changed f id ts p e = ap (λ o. at_found f o ts) (sym e) ∙ found_changed f id ts

pub none_is_changed : (f : Seen → Seen) (id : Id) (ts : List Seen) → place_in id ts ≡ None → changed id f ts ≡ ts
none_is_changed f id ts e = sym (found_changed f id ts) ∙ ap (λ o. at_found f o ts) e

step_seen : (b : Bool) (o : Option ℕ) (t : Seen) (ts : List Seen) (u : Option Seen) → option_and_then (slice_get ts) o ≡ u → option_and_then (slice_get (t ∷ ts)) (cond b (Some 0) (option_map suc o)) ≡ cond b (Some t) u
step_seen true o t ts u e = refl
step_seen false None t ts u e = e
step_seen false (Some p) t ts u e = e

-- the task at the place of an id is the one of the id
pub found_seen : (id : Id) (ts : List Seen) → option_and_then (slice_get ts) (place_in id ts) ≡ seen_in ts id
found_seen id [] = refl
found_seen id (t ∷ ts) = step_seen (bytes_eq t.row.id id) (place_in id ts) t ts (seen_in ts id) (found_seen id ts)

-- THE PLACE OF EACH ID

pub placed_same : (ts us : List Seen) (g : Id → Option ℕ) → Placed ts g → map name us ≡ map name ts → Placed us g
placed_same ts us g placed names id = placed id ∙ sym (same_place id ts us names)

pub placed_more : (ts us : List Seen) (t : Seen) (g h : Id → Option ℕ) → Placed ts g → us ≡ ts ++ t ∷ [] → ((j : Id) → h j ≡ or_else (g j) (cond (bytes_eq t.row.id j) (Some (length ts)) None)) → Placed us h
placed_more ts us t g h placed is more j =
    more j ∙ ap (λ o. or_else o (cond (bytes_eq t.row.id j) (Some (length ts)) None)) (placed j) ∙ sym (push_place ts t j) ∙ ap (place_in j) (sym is)

pub placed_kept : (ts us : List Seen) (g h : Id → Option ℕ) → Placed ts g → us ≡ ts → ((j : Id) → h j ≡ g j) → Placed us h
placed_kept ts us g h placed is same j = same j ∙ placed j ∙ ap (place_in j) (sym is)

pub apart_set : (ts : List Seen) (p : ℕ) (y : Seen) → Apart p ts (set ts p y)
apart_set [] p y i other = refl
apart_set (t ∷ ts) zero y zero other = absurd (other refl)
apart_set (t ∷ ts) zero y (suc i) other = refl
apart_set (t ∷ ts) (suc p) y zero other = refl
apart_set (t ∷ ts) (suc p) y (suc i) other = apart_set ts p y i (λ e. other (ap suc e))

among_get : (ps : List ℕ) (i : ℕ) → i < length ps → is_among (get_or ps i 0) ps ≡ true
among_get [] i lt = absurd (omega arith)
among_get (p ∷ ps) zero lt = let same : is_at (nat_cmp p) p ≡ true = grind (arith) in rw same refl
among_get (p ∷ ps) (suc i) lt = among_later (is_at (nat_cmp (get_or ps i 0)) p) (is_among (get_or ps i 0) ps) (among_get ps i (omega (arith, lt)))
  where
    among_later : (b c : Bool) → c ≡ true → (b || c) ≡ true
    among_later true c h = refl
    among_later false c h = h

-- a change at one of some places
pub aside_after : (ps : List ℕ) (i : ℕ) (ts us vs : List Seen) → i < length ps → Aside ps ts us → Apart (get_or ps i 0) us vs → Aside ps ts vs
aside_after ps i ts us vs lt aside apart = λ j off. apart j (λ e. both_ways (is_among j ps) off (subst (λ k. is_among k ps ≡ true) (sym e) (among_get ps i lt))) ∙ aside j off
