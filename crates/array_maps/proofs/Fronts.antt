-- Codes that are made one after another, until one is too long.
use Rattle.std.proofs.Common.{◌≡◌, ℕ, ℤ, zero, suc, ◌+◌, ◌<◌, ◌≤◌, Bool, true, false, cond, Some, None, Ok, Err, List, [], ◌∷◌, ◌++◌, length, take, get_or, refl, sym, ap, ◌∙◌, append_assoc, arith, inl, inr}
use Rattle.std.specs.Prelude.{◌⊎◌, ◌||◌, not, nat_lt, codes, map, flat_map, position, ◌==◌}
use Rattle.std.specs.List.{list_any, range_with_len, position_or_len}
use Rattle.std.proofs.lemmas.Bool.Decides.{nat_tests}
use Rattle.std.proofs.lemmas.Grind.{flat_map-append}
use Rattle.std.proofs.lemmas.List.{append-nil}
use Rattle.array_maps.specs.declared.error.MapError.{MapError}
use Rattle.array_maps.specs.declared.error.MapError.TheVariants.{TooLong, OutOfMemory}
use Rattle.array_maps.specs.Codes.{element_setting, settings}
use Rattle.array_maps.specs.Making.{is_long, unless_long, made}

-- the first codes were made, and none of them is too long
pub record IsFront (whole front : List (List ℕ)) (i : ℕ) : Type 0 where
  pub taken : front ≡ take i whole
  pub short : list_any is_long front ≡ false

pub front_none : (whole : List (List ℕ)) → IsFront whole [] 0
front_none whole = record { taken = refl; short = refl }

take_one : (whole : List (List ℕ)) (i : ℕ) → i < length whole → take (suc i) whole ≡ take i whole ++ get_or whole i [] ∷ []
take_one [] i lt = absurd (omega (arith, lt))
take_one (c ∷ whole) zero lt = refl
take_one (c ∷ whole) (suc i) lt = ap (λ l. c ∷ l) (take_one whole i (omega (arith, lt)))

none_step : (a b d : Bool) → (a || b) ≡ false → (b ≡ false → d ≡ false) → (a || d) ≡ false
none_step true b d h more = absurd cc
none_step false b d h more = more h

none_more : (xs : List (List ℕ)) (c : List ℕ) → list_any is_long xs ≡ false → is_long c ≡ false → list_any is_long (xs ++ c ∷ []) ≡ false
none_more [] c h k = ap (λ b. b || false) k
none_more (x ∷ xs) c h k = none_step (is_long x) (list_any is_long xs) (list_any is_long (xs ++ c ∷ [])) h (λ rest. none_more xs c rest k)

pub front_more : (whole front : List (List ℕ)) (i j : ℕ) (c : List ℕ) → IsFront whole front i → i < length whole → j ≡ i + 1 → get_or whole i [] ≡ c → is_long c ≡ false → IsFront whole (front ++ c ∷ []) j
front_more whole front i j c f lt next is h =
    let one : suc i ≡ j = omega (arith, next) in
    record {
      taken = ap (λ l. l ++ c ∷ []) f.taken ∙ ap (λ d. take i whole ++ d ∷ []) (sym is) ∙ sym (take_one whole i lt) ∙ ap (λ n. take n whole) one;
      short = none_more front c f.short h;
    }

none_long_step : (a b : Bool) (m n : ℕ) → (a || b) ≡ false → (b ≡ false → m ≡ n) → cond (not a) (1 + m) 0 ≡ suc n
none_long_step true b m n h more = absurd cc
none_long_step false b m n h more = let e = more h in omega (arith, e)

none_long : (xs : List (List ℕ)) → list_any is_long xs ≡ false → position_or_len is_long xs ≡ length xs
none_long [] h = refl
none_long (x ∷ xs) h = none_long_step (is_long x) (list_any is_long xs) (position_or_len is_long xs) (length xs) h (λ rest. none_long xs rest)

not_below : (m n : ℕ) → m ≡ n → nat_lt m n ≡ false
not_below m n h = grind arith

is_below : (m n : ℕ) → m < n → nat_lt m n ≡ true
is_below m n h = grind arith

none_position : (xs : List (List ℕ)) → list_any is_long xs ≡ false → position is_long xs ≡ None
none_position xs h = ap (λ b. cond b (Some (position_or_len is_long xs)) None) (not_below (position_or_len is_long xs) (length xs) (none_long xs h))

take_all : (xs : List (List ℕ)) → take (length xs) xs ≡ xs
take_all [] = refl
take_all (x ∷ xs) = ap (λ l. x ∷ l) (take_all xs)

-- all codes were made
pub front_done : (whole front : List (List ℕ)) (i : ℕ) → IsFront whole front i → i ≡ length whole → made true whole ≡ Ok front
front_done whole front i f end =
    let all : front ≡ whole = f.taken ∙ ap (λ n. take n whole) end ∙ take_all whole in
    ap (unless_long whole) (none_position whole (ap (list_any is_long) (sym all) ∙ f.short))
    ∙ ap (λ (l : List (List ℕ)). Ok l) (sym all)

long_at : (whole : List (List ℕ)) (i : ℕ) → i < length whole → list_any is_long (take i whole) ≡ false → is_long (get_or whole i []) ≡ true → position_or_len is_long whole ≡ i
long_at [] i lt h k = absurd (omega (arith, lt))
long_at (c ∷ whole) zero lt h k = ap (λ b. cond (not b) (1 + position_or_len is_long whole) 0) k
long_at (c ∷ whole) (suc i) lt h k = none_long_step (is_long c) (list_any is_long (take i whole)) (position_or_len is_long whole) i h (λ rest. long_at whole i (omega (arith, lt)) rest k)

length_front : (whole : List (List ℕ)) (i : ℕ) → i ≤ length whole → length (take i whole) ≡ i
length_front whole zero le = refl
length_front [] (suc i) le = absurd (omega (arith, le))
length_front (c ∷ whole) (suc i) le = let h = length_front whole i (omega (arith, le)) in omega (arith, h)

-- the next code is the first one that is too long
pub front_long : (whole front : List (List ℕ)) (i : ℕ) (c : List ℕ) → IsFront whole front i → i < length whole → get_or whole i [] ≡ c → is_long c ≡ true → made true whole ≡ Err (TooLong (length front))
front_long whole front i c f lt is h =
    let at : position_or_len is_long whole ≡ i = long_at whole i lt (ap (list_any is_long) (sym f.taken) ∙ f.short) (ap is_long is ∙ h) in
    let place : length front ≡ i = ap length f.taken ∙ length_front whole i (omega (arith, lt)) in
    let below : nat_lt (position_or_len is_long whole) (length whole) ≡ true = is_below (position_or_len is_long whole) (length whole) (omega (arith, at, lt)) in
    ap (λ b. unless_long whole (cond b (Some (position_or_len is_long whole)) None)) below
    ∙ ap (λ n. unless_long whole (Some n)) (at ∙ sym place)

one_more : (a n : ℕ) → range_with_len a (suc n) ≡ range_with_len a n ++ (a + n) ∷ []
one_more a zero = ap (λ k. k ∷ []) (omega arith)
one_more a (suc n) = ap (λ l. a ∷ l) (one_more (a + 1) n) ∙ ap (λ k. a ∷ (range_with_len (a + 1) n ++ k ∷ [])) (omega arith)

not_zero : (i : ℕ) → (suc i == 0) ≡ false
not_zero i = grind (arith, nat_tests)

-- one setting more
pub settings_more : (name : List ℕ) (values : List ℤ) (start i : ℕ) → settings name values start (suc i) ≡ settings name values start i ++ cond (i == 0) (element_setting name values (start + i)) (codes ";" ++ element_setting name values (start + i))
settings_more name values start zero = append-nil (element_setting name values start) ∙ ap (element_setting name values) (let e : start ≡ start + 0 = omega arith in e)
settings_more name values start (suc i) =
    let next : ℕ → List ℕ = λ k. codes ";" ++ element_setting name values k in
    ap (λ l. element_setting name values start ++ flat_map next l) (one_more (start + 1) i)
    ∙ ap (λ k. element_setting name values start ++ flat_map next (range_with_len (start + 1) i ++ k ∷ [])) (let e : start + 1 + i ≡ start + suc i = omega arith in e)
    ∙ ap (λ l. element_setting name values start ++ l) (flat_map-append next (range_with_len (start + 1) i) ((start + suc i) ∷ []))
    ∙ ap (λ l. element_setting name values start ++ (flat_map next (range_with_len (start + 1) i) ++ l)) (append-nil (next (start + suc i)))
    ∙ sym (append_assoc (element_setting name values start) (flat_map next (range_with_len (start + 1) i)) (next (start + suc i)))
    ∙ ap (λ b. settings name values start (suc i) ++ cond b (element_setting name values (start + suc i)) (next (start + suc i))) (sym (not_zero i))

-- what is told where the next code isn't taken
pub front_refused : (whole front : List (List ℕ)) (i : ℕ) (c : List ℕ) (e : MapError) → IsFront whole front i → i < length whole → get_or whole i [] ≡ c → (e ≡ OutOfMemory) ⊎ ((e ≡ TooLong (length front)) × (is_long c ≡ true)) → (e ≡ OutOfMemory) ⊎ (made true whole ≡ Err e)
front_refused whole front i c e f lt is (inl memory) = inl memory
front_refused whole front i c e f lt is (inr long) = inr (front_long whole front i c f lt is long.1 ∙ ap (λ (d : MapError). Err d) (sym long.0))

pub length_codes : {X : Type 0} (code : X → List ℕ) (xs : List X) → length (map code xs) ≡ length xs
length_codes code [] = refl
length_codes code (x ∷ xs) = let h = length_codes code xs in omega (arith, h)

pub code_at : {X : Type 0} (code : X → List ℕ) (xs : List X) (i : ℕ) (d : X) → i < length xs → get_or (map code xs) i [] ≡ code (get_or xs i d)
code_at code [] i d lt = absurd (omega (arith, lt))
code_at code (x ∷ xs) zero d lt = refl
code_at code (x ∷ xs) (suc i) d lt = code_at code xs i d (omega (arith, lt))

pub settings_next : (name : List ℕ) (values : List ℤ) (start i : ℕ) → settings name values start (i + 1) ≡ settings name values start i ++ cond (i == 0) (element_setting name values (start + i)) (codes ";" ++ element_setting name values (start + i))
settings_next name values start i = ap (settings name values start) (let e : i + 1 ≡ suc i = omega arith in e) ∙ settings_more name values start i
