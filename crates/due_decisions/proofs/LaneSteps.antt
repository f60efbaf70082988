-- The least place in lanes that are gone through one after another.
use Rattle.std.proofs.Common.{◌≡◌, ap, sym, ◌∙◌, ℕ, List, [], ◌∷◌, ◌++◌, map, Bool, true, false, cond, not, ◌&&◌, ◌||◌, refl, Option, None, arith}
use Rattle.std.specs.Prelude.{filter, nat_le, nat_lt, length, ◌==◌, ◌≤◌, ◌<◌}
use Rattle.std.specs.declared.cmp.Ordering.TheVariants.{Less, Equal, Greater}
use Rattle.std.proofs.lemmas.Bool.{ltb-true, leb-true}
use Rattle.std.specs.Ordering.{nat_cmp, is_lt}
use Rattle.std.specs.BTreeSet.{BTreeSet}
use Rattle.place_sets.specs.Sets.{has}
use Rattle.place_sets.specs.Lanes.{LaneList, in_lane, in_some}
use Rattle.place_sets.specs.Least.{IsLeast}
use Rattle.place_sets.proofs.Leasts.{least_of, some_more}

pub map_push : {X Y : Type 0} (f : X → Y) (xs : List X) (x : X) → map f (xs ++ x ∷ []) ≡ map f xs ++ f x ∷ []
map_push f [] x = refl
map_push f (y ∷ xs) x = ap (λ ys. f y ∷ ys) (map_push f xs x)

either : (a l b : Bool) → (a || (l && b)) ≡ true → (a || b) ≡ true
either true l b on = refl
either false true b on = on
either false false b on = cc

first : (a l b : Bool) → l ≡ false → (a || (l && b)) ≡ true → a ≡ true
first true l b off on = refl
first false true b off on = cc
first false false b off on = on

-- a lane more that was looked at, and one that wasn't since its number doesn't pass
pub lane_more : (test looks : ℕ → Bool) (es : LaneList) (e : ℕ × BTreeSet ℕ) (o : Option ℕ) → IsLeast test (λ i. in_some looks es i || has e.1 i) o → IsLeast test (in_some looks (es ++ e ∷ [])) o
lane_more test looks es e o least =
    least_of test (λ i. in_some looks es i || has e.1 i) (in_some looks (es ++ e ∷ [])) o least (λ i on _. either (in_some looks es i) (looks e.0) (has e.1 i) (sym (some_more looks es e i) ∙ on))

pub lane_passed : (test looks : ℕ → Bool) (es : LaneList) (e : ℕ × BTreeSet ℕ) (o : Option ℕ) → looks e.0 ≡ false → IsLeast test (in_some looks es) o → IsLeast test (in_some looks (es ++ e ∷ [])) o
lane_passed test looks es e o off least =
    least_of test (in_some looks es) (in_some looks (es ++ e ∷ [])) o least (λ i on _. first (in_some looks es i) (looks e.0) (has e.1 i) off (sym (some_more looks es e i) ∙ on))

pub no_lanes : (test looks : ℕ → Bool) → IsLeast test (in_some looks []) None
no_lanes test looks = λ i on. cc

kept_first : (q l b c : Bool) (rest kept : Bool) → (l ≡ true → q ≡ true) → (rest ≡ true → kept ≡ true) → ((l && b) || rest) ≡ true → c ≡ cond q ((l && b) || kept) kept → c ≡ true
kept_first true true true c rest kept in_it later on is = is
kept_first true true false c rest kept in_it later on is = is ∙ later on
kept_first true false b c rest kept in_it later on is = is ∙ later on
kept_first false true b c rest kept in_it later on is = let none : false ≡ true = in_it refl in cc
kept_first false false b c rest kept in_it later on is = is ∙ later on

by_test : (looks : ℕ → Bool) (i : ℕ) (b : Bool) (e : ℕ × BTreeSet ℕ) (es : LaneList) → in_some looks (cond b (e ∷ es) es) i ≡ cond b ((looks e.0 && has e.1 i) || in_some looks es i) (in_some looks es i)
by_test looks i true e es = refl
by_test looks i false e es = refl

-- the lanes whose numbers pass are among those that were picked
pub some_picked : (looks pick : ℕ → Bool) → ((n : ℕ) → looks n ≡ true → pick n ≡ true) → (es : LaneList) (i : ℕ) → in_some looks es i ≡ true → in_some looks (filter (λ e. pick e.0) es) i ≡ true
some_picked looks pick up [] i on = on
some_picked looks pick up (e ∷ es) i on =
    kept_first (pick e.0) (looks e.0) (has e.1 i) (in_some looks (filter (λ e. pick e.0) (e ∷ es)) i) (in_some looks es i) (in_some looks (filter (λ e. pick e.0) es) i)
    (up e.0) (some_picked looks pick up es i) on (by_test looks i (pick e.0) e (filter (λ e. pick e.0) es))

-- no lanes, no place in one
pub in_none : (lanes : LaneList) (n i : ℕ) → lanes ≡ [] → in_lane lanes n i ≡ false
in_none [] n i is = refl
in_none (e ∷ es) n i is = cc

pub none_left : {X : Type 0} (xs : List X) → length xs ≡ 0 → xs ≡ []
none_left [] is = refl
none_left (x ∷ xs) is = cc

-- a moment up to the present one is none behind it
pub up_to : (now n : ℕ) → nat_le n now ≡ true → not (is_lt (nat_cmp now n)) ≡ true
up_to now n le = by_cmp (nat_lt now n) (now == n) (λ lt. let up : now < n = ltb-true now n lt in let down : n ≤ now = leb-true n now le in absurd (omega (arith, up, down)))
  where
    by_cmp : (b c : Bool) → (b ≡ true → ⊥) → not (is_lt (cond b Less (cond c Equal Greater))) ≡ true
    by_cmp true c none = absurd (none refl)
    by_cmp false true none = refl
    by_cmp false false none = refl

-- numbers that pass alike, and no lanes
pub some_alike : (p q : ℕ → Bool) → ((n : ℕ) → p n ≡ q n) → (es : LaneList) (i : ℕ) → in_some p es i ≡ in_some q es i
some_alike p q same [] i = refl
some_alike p q same (e ∷ es) i = rw (same e.0, some_alike p q same es i) refl

pub some_of_none : (test looks : ℕ → Bool) (es : LaneList) → es ≡ [] → IsLeast test (in_some looks es) None
some_of_none test looks [] is = λ i on. cc
some_of_none test looks (e ∷ es) is = cc
