-- One more id of a list without repeats.
use Rattle.std.proofs.Common.{◌≡◌, ℕ, List, [], ◌∷◌, ◌++◌, Option, Some, is_some, cond, Bool, true, false, not, ◌||◌, if◌then◌else◌, bytes_eq, refl, sym, ap, ◌∙◌, append-nil}
use Rattle.std.specs.List.{list_any}
use Rattle.std.proofs.lemmas.Slice.Eq.{bytes_eq-Decides}
use Rattle.cluster_defs.specs.Submit.{with_new}

-- whether an id stands in a list
abbrev pub is_listed : List ℕ → List (List ℕ) → Bool
is_listed id = list_any (λ other. bytes_eq other id)

-- an id is put at the end where it is new
pub added : (found : List (List ℕ)) (id : List ℕ) (new : Bool) → not new ≡ is_listed id found → found ++ (if new then id ∷ [] else []) ≡ with_new found id
added found id true known = rw (sym known) refl
added found id false known = rw (sym known) (append-nil found)

-- a list and one more id
pub listed_more : (xs : List (List ℕ)) (x q : List ℕ) → is_listed q (xs ++ x ∷ []) ≡ (is_listed q xs || bytes_eq x q)
listed_more [] x q = or_false (bytes_eq x q)
  where
    or_false : (b : Bool) → (b || false) ≡ b
    or_false true = refl
    or_false false = refl
listed_more (y ∷ xs) x q = ap (λ b. bytes_eq y q || b) (listed_more xs x q) ∙ assoc (bytes_eq y q) (is_listed q xs) (bytes_eq x q)
  where
    assoc : (a b c : Bool) → (a || (b || c)) ≡ ((a || b) || c)
    assoc true b c = refl
    assoc false b c = refl

-- an id is seen where it was, or is the new one
pub seen_new : {X : Type 0} (b listed : Bool) (o : Option X) (w : X) → is_some o ≡ listed → is_some (cond b (Some w) o) ≡ (listed || b)
seen_new true true o w h = refl
seen_new true false o w h = refl
seen_new false true o w h = h
seen_new false false o w h = h

-- the one that comes again was seen
seen_again : {X : Type 0} (found : List (List ℕ)) (id q : List ℕ) (b : Bool) (o : Option X) (w : X) → bytes_eq id q ≡ b → is_some o ≡ is_listed q found
    → true ≡ is_listed id found → is_some (cond b (Some w) o) ≡ is_listed q found
seen_again found id q true o w is h known = known ∙ ap (λ z. is_listed z found) ((bytes_eq-Decides id q).0 is)
seen_again found id q false o w is h known = h

-- what is seen is what is found
pub seen_more : {X : Type 0} (found : List (List ℕ)) (id q : List ℕ) (new : Bool) (o : Option X) (w : X) → is_some o ≡ is_listed q found → not new ≡ is_listed id found
    → is_some (cond (bytes_eq id q) (Some w) o) ≡ is_listed q (found ++ (if new then id ∷ [] else []))
seen_more found id q true o w h known = seen_new (bytes_eq id q) (is_listed q found) o w h ∙ sym (listed_more found id q)
seen_more found id q false o w h known = seen_again found id q (bytes_eq id q) o w refl h known ∙ ap (is_listed q) (sym (append-nil found))
