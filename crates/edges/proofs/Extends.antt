-- What reading gives where more octets come: a value stays, a fault stays, and what is short waits for as many as it says.
use Rattle.std.proofs.Common.{◌≡◌, ℕ, ◌-◌, ◌<◌, ◌≤◌, Bool, true, false, cond, List, [], ◌∷◌, ◌++◌, length, take, drop, Result, Ok, Err, refl, ap, arith, inl, inr, length-append}
use Rattle.std.specs.Prelude.{nat_lt, ◌==◌, ◌⊎◌, if◌then◌else◌}
use Rattle.std.specs.Int.{Width, w32, byte_len, from_be_bytes}
use Rattle.std.proofs.lemmas.Bool.{ltb-false, le-ltb, ltb-true, lt-ltb}
use Rattle.std.proofs.lemmas.List.{take-append-le, drop-append-le}
use Rattle.cluster_types.specs.declared.config.Channel.TheVariants.{Hub, Task, Mux, Engine}
use Rattle.edges.specs.declared.stop.Stop.{Stop}
use Rattle.edges.specs.declared.stop.Stop.TheVariants.{Short, Bad}
use Rattle.edges.specs.Reading.{Read, ◌>>=◌, octet_at, number_at, front_at, str8_at, blob_at, channel_at}
use Rattle.cluster_types.proofs.Numbers.{chosen}

pub record Extends {A : Type 0} (f : List ℕ → Read A) : Type 0 where
  pub whole : (xs ys : List ℕ) (a : A) (rest : List ℕ) → f xs ≡ Ok (a, rest) → f (xs ++ ys) ≡ Ok (a, rest ++ ys)
  pub bad : (xs ys : List ℕ) → f xs ≡ Err Bad → f (xs ++ ys) ≡ Err Bad
  pub short : (xs ys : List ℕ) (k : ℕ) → f xs ≡ Err (Short k) → length ys < k → f (xs ++ ys) ≡ Err (Short (k - length ys))
  pub some : (xs : List ℕ) (k : ℕ) → f xs ≡ Err (Short k) → 0 < k

-- ---- the pieces

-- so many octets, and what they mean
abbrev pub gather : {A : Type 0} → ℕ → (List ℕ → A) → List ℕ → Read A
gather n v octets = if nat_lt (length octets) n then Err (Short (n - length octets)) else Ok (v (take n octets), drop n octets)

gather_whole : {A : Type 0} (n : ℕ) (v : List ℕ → A) (xs ys : List ℕ) (a : A) (rest : List ℕ) → gather n v xs ≡ Ok (a, rest) → gather n v (xs ++ ys) ≡ Ok (a, rest ++ ys)
gather_whole n v xs ys a rest e =
    elim (chosen (nat_lt (length xs) n) (Err (Short (n - length xs))) (Ok (v (take n xs), drop n xs)) (Ok (a, rest)) e) [
      | inl p ↦ absurd (let q = p.1 in cc)
      | inr p ↦
          let le : n ≤ length xs = ltb-false _ _ p.0 in
          let long : nat_lt (length (xs ++ ys)) n ≡ false = le-ltb _ _ (omega (arith, length-append xs ys)) in
          let same : Ok (v (take n xs), drop n xs ++ ys) ≡ Ok (a, rest ++ ys) = ap (λ (r : Read _). r >>= λ x. Ok (x.0, x.1 ++ ys)) p.1 in
          rw (long, take-append-le n xs ys le, drop-append-le n xs ys le) same
    ]

gather_bad : {A : Type 0} (n : ℕ) (v : List ℕ → A) (xs ys : List ℕ) → gather n v xs ≡ Err Bad → gather n v (xs ++ ys) ≡ Err Bad
gather_bad n v xs ys e =
    elim (chosen (nat_lt (length xs) n) (Err (Short (n - length xs))) (Ok (v (take n xs), drop n xs)) (Err Bad) e) [
      | inl p ↦ absurd (let q = p.1 in cc)
      | inr p ↦ absurd (let q = p.1 in cc)
    ]

gather_short : {A : Type 0} (n : ℕ) (v : List ℕ → A) (xs ys : List ℕ) (k : ℕ) → gather n v xs ≡ Err (Short k) → length ys < k → gather n v (xs ++ ys) ≡ Err (Short (k - length ys))
gather_short n v xs ys k e lt =
    elim (chosen (nat_lt (length xs) n) (Err (Short (n - length xs))) (Ok (v (take n xs), drop n xs)) (Err (Short k)) e) [
      | inl p ↦
          let is : n - length xs ≡ k = (let q = p.1 in cc) in
          let below : nat_lt (length (xs ++ ys)) n ≡ true = lt-ltb _ _ (omega (arith, length-append xs ys)) in
          let left : n - length (xs ++ ys) ≡ k - length ys = omega (arith, length-append xs ys) in
          rw (below, left) refl
      | inr p ↦ absurd (let q = p.1 in cc)
    ]

gather_some : {A : Type 0} (n : ℕ) (v : List ℕ → A) (xs : List ℕ) (k : ℕ) → gather n v xs ≡ Err (Short k) → 0 < k
gather_some n v xs k e =
    elim (chosen (nat_lt (length xs) n) (Err (Short (n - length xs))) (Ok (v (take n xs), drop n xs)) (Err (Short k)) e) [
      | inl p ↦
          let is : n - length xs ≡ k = (let q = p.1 in cc) in
          let lt : length xs < n = ltb-true _ _ p.0 in
          omega arith
      | inr p ↦ absurd (let q = p.1 in cc)
    ]

pub gathers : {A : Type 0} (n : ℕ) (v : List ℕ → A) → Extends (gather n v)
gathers n v = record { whole = gather_whole n v; bad = gather_bad n v; short = gather_short n v; some = gather_some n v }

-- ---- one reader behind another

bind_ok : {A B : Type 0} (r : Result A Stop) (f : A → Result B Stop) (y : B) → (r >>= f) ≡ Ok y → (x : A) × (r ≡ Ok x) × (f x ≡ Ok y)
bind_ok (Ok x) f y e = (x, refl, e)
bind_ok (Err d) f y e = absurd cc

bind_err : {A B : Type 0} (r : Result A Stop) (f : A → Result B Stop) (s : Stop) → (r >>= f) ≡ Err s → (r ≡ Err s) ⊎ ((x : A) × (r ≡ Ok x) × (f x ≡ Err s))
bind_err (Ok x) f s e = inr (x, refl, e)
bind_err (Err d) f s e = inl cc

-- the second reads what the first leaves
abbrev pub then_read : {A B : Type 0} → (List ℕ → Read A) → (A → List ℕ → Read B) → List ℕ → Read B
then_read f g xs = f xs >>= λ x. g x.0 x.1

then_whole : {A B : Type 0} (f : List ℕ → Read A) (g : A → List ℕ → Read B) (first : Extends f) (second : (a : A) → Extends (g a)) (xs ys : List ℕ) (b : B) (rest : List ℕ) → then_read f g xs ≡ Ok (b, rest) → then_read f g (xs ++ ys) ≡ Ok (b, rest ++ ys)
then_whole f g first second xs ys b rest e =
    let p = bind_ok (f xs) (λ x. g x.0 x.1) (b, rest) e in
    rw (first.whole xs ys p.0.0 p.0.1 p.1) ((second p.0.0).whole p.0.1 ys b rest p.2)

then_bad : {A B : Type 0} (f : List ℕ → Read A) (g : A → List ℕ → Read B) (first : Extends f) (second : (a : A) → Extends (g a)) (xs ys : List ℕ) → then_read f g xs ≡ Err Bad → then_read f g (xs ++ ys) ≡ Err Bad
then_bad f g first second xs ys e =
    elim (bind_err (f xs) (λ x. g x.0 x.1) Bad e) [
      | inl p ↦ rw (first.bad xs ys p) refl
      | inr p ↦ rw (first.whole xs ys p.0.0 p.0.1 p.1) ((second p.0.0).bad p.0.1 ys p.2)
    ]

then_short : {A B : Type 0} (f : List ℕ → Read A) (g : A → List ℕ → Read B) (first : Extends f) (second : (a : A) → Extends (g a)) (xs ys : List ℕ) (k : ℕ) → then_read f g xs ≡ Err (Short k) → length ys < k → then_read f g (xs ++ ys) ≡ Err (Short (k - length ys))
then_short f g first second xs ys k e lt =
    elim (bind_err (f xs) (λ x. g x.0 x.1) (Short k) e) [
      | inl p ↦ rw (first.short xs ys k p lt) refl
      | inr p ↦ rw (first.whole xs ys p.0.0 p.0.1 p.1) ((second p.0.0).short p.0.1 ys k p.2 lt)
    ]

then_some : {A B : Type 0} (f : List ℕ → Read A) (g : A → List ℕ → Read B) (first : Extends f) (second : (a : A) → Extends (g a)) (xs : List ℕ) (k : ℕ) → then_read f g xs ≡ Err (Short k) → 0 < k
then_some f g first second xs k e =
    elim (bind_err (f xs) (λ x. g x.0 x.1) (Short k) e) [
      | inl p ↦ first.some xs k p
      | inr p ↦ (second p.0.0).some p.0.1 k p.2
    ]

pub in_turn : {A B : Type 0} (f : List ℕ → Read A) (g : A → List ℕ → Read B) → Extends f → ((a : A) → Extends (g a)) → Extends (then_read f g)
in_turn f g first second = record {
  whole = then_whole f g first second;
  bad = then_bad f g first second;
  short = then_short f g first second;
  some = then_some f g first second;
}

-- a value that takes nothing
abbrev pub give : {A : Type 0} → A → List ℕ → Read A
give a xs = Ok (a, xs)

pub gives : {A : Type 0} (a : A) → Extends (give a)
gives a = record {
  whole = λ xs ys b rest e. ap (λ (r : Read _). r >>= λ x. Ok (x.0, x.1 ++ ys)) e;
  bad = λ xs ys e. absurd cc;
  short = λ xs ys k e lt. absurd cc;
  some = λ xs k e. absurd cc;
}

abbrev pub refuse : {A : Type 0} → List ℕ → Read A
refuse xs = Err Bad

pub refuses : {A : Type 0} → Extends (refuse {A = A})
refuses = record {
  whole = λ xs ys b rest e. absurd cc;
  bad = λ xs ys e. refl;
  short = λ xs ys k e lt. absurd cc;
  some = λ xs k e. absurd cc;
}

abbrev pub either : {A : Type 0} → Bool → (List ℕ → Read A) → (List ℕ → Read A) → List ℕ → Read A
either b f g xs = if b then f xs else g xs

pub eithers : {A : Type 0} (b : Bool) (f g : List ℕ → Read A) → Extends f → Extends g → Extends (either b f g)
eithers true f g first second = first
eithers false f g first second = second

octet_whole : (xs ys : List ℕ) (a : ℕ) (rest : List ℕ) → octet_at xs ≡ Ok (a, rest) → octet_at (xs ++ ys) ≡ Ok (a, rest ++ ys)
octet_whole [] ys a rest e = absurd cc
octet_whole (x ∷ xs) ys a rest e = ap (λ (r : Read ℕ). r >>= λ z. Ok (z.0, z.1 ++ ys)) e

octet_bad : (xs ys : List ℕ) → octet_at xs ≡ Err Bad → octet_at (xs ++ ys) ≡ Err Bad
octet_bad [] ys e = absurd cc
octet_bad (x ∷ xs) ys e = absurd cc

octet_short : (xs ys : List ℕ) (k : ℕ) → octet_at xs ≡ Err (Short k) → length ys < k → octet_at (xs ++ ys) ≡ Err (Short (k - length ys))
octet_short [] [] k e lt = let z : k - 0 ≡ k = omega arith in rw z e
octet_short [] (y ∷ ys) k e lt = let one : 1 ≡ k = cc in absurd (omega arith)
octet_short (x ∷ xs) ys k e lt = absurd cc

octet_some : (xs : List ℕ) (k : ℕ) → octet_at xs ≡ Err (Short k) → 0 < k
octet_some [] k e = let one : 1 ≡ k = cc in omega arith
octet_some (x ∷ xs) k e = absurd cc

pub octets : Extends octet_at
octets = record { whole = octet_whole; bad = octet_bad; short = octet_short; some = octet_some }

-- ---- the fields and the kinds

pub numbers : (w : Width) → Extends (number_at w)
numbers w = gathers (byte_len w) (from_be_bytes w)

pub fronts : (n : ℕ) → Extends (front_at n)
fronts n = gathers n (λ x. x)

pub str8s : Extends str8_at
unfolding str8_at
str8s = in_turn octet_at front_at octets fronts

pub blobs : Extends blob_at
unfolding blob_at
blobs = in_turn (number_at w32) front_at (numbers w32) fronts

pub channels : Extends channel_at
unfolding channel_at
channels = in_turn octet_at _ octets (λ x. eithers (x == 0) _ _ (gives Hub) (eithers (x == 1) _ _ (gives Task) (eithers (x == 2) _ _ (gives Mux) (eithers (x == 3) _ _ (gives Engine) refuses))))
