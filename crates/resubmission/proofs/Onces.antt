-- The two ways to leave the repeats out of a list: each id where none stood before it, and each without those like it
-- behind it.
use Rattle.std.proofs.Common.{◌≡◌, List, [], ◌∷◌, ◌++◌, fold, cond, Bool, true, false, not, ◌||◌, bytes_eq, filter, refl, sym, ap, ◌∙◌, append_assoc, append-nil}
use Rattle.std.proofs.lemmas.Slice.Eq.{bytes_eq-Decides}
use Rattle.cluster_defs.specs.Submit.{with_new}
use Rattle.cluster_defs.specs.Submit as submit
use Rattle.cluster_defs.specs.Words.{Id, is_listed, once}

-- equality of texts doesn't depend on the order
bytes_eq_sym : (x y : Id) → bytes_eq x y ≡ bytes_eq y x
bytes_eq_sym x y = go (bytes_eq x y) (bytes_eq y x) refl refl
  where
    go : (a b : Bool) → bytes_eq x y ≡ a → bytes_eq y x ≡ b → a ≡ b
    go true true p q = refl
    go false false p q = refl
    go true false p q = sym ((bytes_eq-Decides y x).1 (sym ((bytes_eq-Decides x y).0 p))) ∙ q
    go false true p q = sym p ∙ (bytes_eq-Decides x y).1 (sym ((bytes_eq-Decides y x).0 q))

-- a list and one more id
listed_more : (xs : List Id) (x q : Id) → is_listed q (xs ++ x ∷ []) ≡ (is_listed q xs || bytes_eq x q)
listed_more [] x q = or_false (bytes_eq x q)
  where
    or_false : (b : Bool) → (b || false) ≡ b
    or_false true = refl
    or_false false = refl
listed_more (y ∷ xs) x q = ap (λ b. bytes_eq y q || b) (listed_more xs x q) ∙ assoc (bytes_eq y q) (is_listed q xs) (bytes_eq x q)
  where
    assoc : (a b c : Bool) → (a || (b || c)) ≡ ((a || b) || c)
    assoc true b c = refl
    assoc false b c = refl

-- whether an id is new behind a list
abbrev is_new : List Id → Id → Bool
is_new found id = not (is_listed id found)

abbrev differs : Id → Id → Bool
differs y id = not (bytes_eq id y)

both : (b : Bool) (z : Id) (xs ys : List Id) → xs ≡ ys → cond b (z ∷ xs) xs ≡ cond b (z ∷ ys) ys
both true z xs ys h = ap (λ l. z ∷ l) h
both false z xs ys h = h

known_more : (found : List Id) (y z : Id) (zs : List Id) → is_listed y found ≡ true → filter (is_new found) zs ≡ filter (is_new found) (filter (differs y) zs)
    → (b : Bool) → bytes_eq z y ≡ b → filter (is_new found) (z ∷ zs) ≡ filter (is_new found) (filter (differs y) (z ∷ zs))
known_more found y z zs h rest true like =
    let listed : is_listed z found ≡ true = ap (λ i. is_listed i found) ((bytes_eq-Decides z y).0 like) ∙ h in
    rw (like, listed) rest
known_more found y z zs h rest false other = rw other (both (is_new found z) z _ _ rest)

-- what is like an id of the list isn't new
known : (found : List Id) (y : Id) (zs : List Id) → is_listed y found ≡ true → filter (is_new found) zs ≡ filter (is_new found) (filter (differs y) zs)
known found y [] h = refl
known found y (z ∷ zs) h = known_more found y z zs h (known found y zs h) (bytes_eq z y) refl

unknown_more : (found : List Id) (y z : Id) (zs : List Id) → filter (is_new (found ++ y ∷ [])) zs ≡ filter (is_new found) (filter (differs y) zs)
    → (b a : Bool) → bytes_eq z y ≡ b → is_listed z found ≡ a → filter (is_new (found ++ y ∷ [])) (z ∷ zs) ≡ filter (is_new found) (filter (differs y) (z ∷ zs))
unknown_more found y z zs rest true true like listed = rw (listed_more found y z, bytes_eq_sym y z, like, listed) rest
unknown_more found y z zs rest true false like listed = rw (listed_more found y z, bytes_eq_sym y z, like, listed) rest
unknown_more found y z zs rest false true other listed = rw (listed_more found y z, bytes_eq_sym y z, other, listed) rest
unknown_more found y z zs rest false false other listed = rw (listed_more found y z, bytes_eq_sym y z, other, listed) (ap (λ l. z ∷ l) rest)

-- what is new behind one more id is new, and another
unknown : (found : List Id) (y : Id) (zs : List Id) → filter (is_new (found ++ y ∷ [])) zs ≡ filter (is_new found) (filter (differs y) zs)
unknown found y [] = refl
unknown found y (z ∷ zs) = unknown_more found y z zs (unknown found y zs) (bytes_eq z y) (is_listed z found) refl refl

behind_more : (found : List Id) (y : Id) (ys : List Id)
    → fold with_new found ys ≡ found ++ filter (is_new found) (once ys)
    → fold with_new (found ++ y ∷ []) ys ≡ (found ++ y ∷ []) ++ filter (is_new (found ++ y ∷ [])) (once ys)
    → (b : Bool) → is_listed y found ≡ b → fold with_new found (y ∷ ys) ≡ found ++ filter (is_new found) (once (y ∷ ys))
behind_more found y ys same more true h = rw h (same ∙ ap (λ l. found ++ l) (known found y (once ys) h))
behind_more found y ys same more false h = rw h (more ∙ append_assoc found (y ∷ []) _ ∙ ap (λ l. found ++ y ∷ l) (unknown found y (once ys)))

-- the ids that are new are put behind those that are there
behind : (found ids : List Id) → fold with_new found ids ≡ found ++ filter (is_new found) (once ids)
behind found [] = sym (append-nil found)
behind found (y ∷ ys) = behind_more found y ys (behind found ys) (behind (found ++ y ∷ []) ys) (is_listed y found) refl

all_new : (ids : List Id) → filter (is_new []) ids ≡ ids
all_new [] = refl
all_new (y ∷ ys) = ap (λ l. y ∷ l) (all_new ys)

pub same_once : (ids : List Id) → submit.once ids ≡ once ids
same_once ids = behind [] ids ∙ all_new (once ids)
