-- What is read is spelled so: the octets that a reader takes off the front are the spelling of what it gives.
use Rattle.std.proofs.Common.{◌≡◌, ℕ, suc, ◌+◌, ◌-◌, ◌^◌, ◌<◌, ◌≤◌, Bool, true, false, cond, List, [], ◌∷◌, ◌++◌, length, get_or, take, drop, Result, Ok, Err, refl, sym, ap, subst, ◌∙◌, append_assoc, arith, inl, inr}
use Rattle.std.specs.Prelude.{nat_lt, ◌⊎◌}
use Rattle.std.specs.Int.{w32, w64, from_be_bytes, to_be_bytes}
use Rattle.std.proofs.lemmas.Bool.{cases_lt, ltb-false}
use Rattle.std.proofs.lemmas.List.{append-nil, take-append-drop, length-take, get_or-drop, get_or-take, get_or_past}
use Rattle.std.proofs.lemmas.Nat.{be_bytes_4, be_bytes_8}
use Rattle.edges.specs.declared.stop.Stop.{Stop}
use Rattle.edges.specs.declared.stop.Stop.TheVariants.{Short}
use Rattle.edges.specs.Spelling.{be32, be64, str8, blob}
use Rattle.edges.specs.Reading.{Read, ◌>>=◌, octet_at, number_at, front_at, str8_at, blob_at}
use Rattle.edges.proofs.Extends.{gather, then_read, either, give, refuse}

abbrev pub IsBytes : List ℕ → Type 0
IsBytes bytes = (i : ℕ) → get_or bytes i 0 < 256

pub IsBytes-drop : (n : ℕ) (bytes : List ℕ) → IsBytes bytes → IsBytes (drop n bytes)
IsBytes-drop n bytes h i = rw get_or-drop (h (n + i))

IsBytes-take : (n : ℕ) (bytes : List ℕ) → IsBytes bytes → IsBytes (take n bytes)
IsBytes-take n bytes h i =
    elim (cases_lt i n) [
      | inl lt ↦ rw (get_or-take n bytes i 0 lt) (h i)
      | inr le ↦ rw (get_or_past (take n bytes) i 0 (omega (arith, length-take n bytes))) (omega arith)
    ]

-- a reader that takes texts of this kind off the front
abbrev pub Takes : {A : Type 0} → (List ℕ → Read A) → (A → List ℕ → Type 0) → Type 0
Takes {A} f R = (xs : List ℕ) (a : A) (rest : List ℕ) → IsBytes xs → f xs ≡ Ok (a, rest) → (text : List ℕ) × (xs ≡ text ++ rest) × R a text × IsBytes rest

pub got_is : {A : Type 0} (a b : A) (x y : List ℕ) → give a x ≡ give b y → (a ≡ b) × (x ≡ y)
got_is a b x y e =
    let p : ◌≡◌ {A = _ × List ℕ} (a, x) (b, y) = cc in
    (ap (λ (q : _ × List ℕ). q.0) p, ap (λ (q : _ × List ℕ). q.1) p)

pub bind_ok : {A B : Type 0} (r : Result A Stop) (f : A → Result B Stop) (y : B) → (r >>= f) ≡ Ok y → (x : A) × (r ≡ Ok x) × (f x ≡ Ok y)
bind_ok (Ok x) f y e = (x, refl, e)
bind_ok (Err d) f y e = absurd cc

-- one text behind another
abbrev pub Joined : {A B : Type 0} → (A → List ℕ → Type 0) → (A → B → List ℕ → Type 0) → B → List ℕ → Type 0
Joined {A} R S b text = (a : A) × (first : List ℕ) × (second : List ℕ) × (text ≡ first ++ second) × R a first × S a b second

pub takes_in_turn : {A B : Type 0} (f : List ℕ → Read A) (g : A → List ℕ → Read B) (R : A → List ℕ → Type 0) (S : A → B → List ℕ → Type 0) → Takes f R → ((a : A) → Takes (g a) (S a)) → Takes (then_read f g) (Joined R S)
takes_in_turn f g R S first second xs b rest fits e =
    let p = bind_ok (f xs) (λ x. g x.0 x.1) (b, rest) e in
    let t = first xs p.0.0 p.0.1 fits p.1 in
    let u = second p.0.0 p.0.1 b rest t.3 p.2 in
    (t.0 ++ u.0, t.1 ∙ ap (λ (ys : List ℕ). t.0 ++ ys) u.1 ∙ sym (append_assoc t.0 u.0 rest), (p.0.0, t.0, u.0, refl, t.2, u.2), u.3)

pub takes_give : {A : Type 0} (v : A) → Takes (give v) (λ a text. (a ≡ v) × (text ≡ []))
takes_give v xs a rest fits e =
    let p = got_is v a xs rest e in
    ([], p.1, (sym p.0, refl), subst IsBytes p.1 fits)

pub takes_refuse : {A : Type 0} (R : A → List ℕ → Type 0) → Takes (refuse {A = A}) R
takes_refuse R xs a rest fits e = absurd cc

pub takes_either : {A : Type 0} (b : Bool) (f g : List ℕ → Read A) (R S : A → List ℕ → Type 0) → Takes f R → Takes g S → Takes (either b f g) (λ a text. ((b ≡ true) × R a text) ⊎ ((b ≡ false) × S a text))
takes_either true f g R S first second xs a rest fits e = let t = first xs a rest fits e in (t.0, t.1, inl (refl, t.2), t.3)
takes_either false f g R S first second xs a rest fits e = let t = second xs a rest fits e in (t.0, t.1, inr (refl, t.2), t.3)

pub takes_weaker : {A : Type 0} (f : List ℕ → Read A) (R S : A → List ℕ → Type 0) → ((a : A) (text : List ℕ) → R a text → S a text) → Takes f R → Takes f S
takes_weaker f R S w t xs a rest fits e = let p = t xs a rest fits e in (p.0, p.1, w a p.0 p.2, p.3)

-- ---- fields

pub guard_ok : {A : Type 0} (b : Bool) (d : Stop) (x y : A) → cond b (Err d) (Ok x) ≡ Ok y → (b ≡ false) × (x ≡ y)
guard_ok true d x y e = absurd cc
guard_ok false d x y e = (refl, cc)

pub gather_takes : {A : Type 0} (n : ℕ) (v : List ℕ → A) → Takes (gather n v) (λ a text. (a ≡ v text) × (length text ≡ n) × IsBytes text)
gather_takes {A} n v xs a rest fits e =
    let g = guard_ok (nat_lt (length xs) n) (Short (n - length xs)) (v (take n xs), drop n xs) (a, rest) e in
    let long : n ≤ length xs = ltb-false _ _ g.0 in
    let a-is : v (take n xs) ≡ a = ap (λ (p : A × List ℕ). p.0) g.1 in
    let rest-is : drop n xs ≡ rest = ap (λ (p : A × List ℕ). p.1) g.1 in
    (take n xs, sym (take-append-drop n xs) ∙ ap (λ (ys : List ℕ). take n xs ++ ys) rest-is, (sym a-is, omega (arith, length-take n xs), IsBytes-take n xs fits), subst IsBytes rest-is (IsBytes-drop n xs fits))

pub octet_takes : Takes octet_at (λ n text. (text ≡ n ∷ []) × (n < 256))
octet_takes [] a rest fits e = absurd cc
octet_takes (x ∷ xs) a rest fits e =
    let p = got_is x a xs rest e in
    (x ∷ [], ap (λ (ys : List ℕ). x ∷ ys) p.1, (ap (λ (y : ℕ). y ∷ []) p.0, subst (λ (y : ℕ). y < 256) p.0 (fits 0)), subst IsBytes p.1 (λ i. fits (suc i)))

pub number32_takes : Takes (number_at w32) (λ n text. (text ≡ be32 n) × (n < 2 ^ 32))
unfolding be32
number32_takes = takes_weaker (number_at w32) (λ n text. (n ≡ from_be_bytes w32 text) × (length text ≡ 4) × IsBytes text) (λ n text. (text ≡ to_be_bytes w32 n) × (n < 2 ^ 32))
    (λ n text r. (sym (be_bytes_4 text n r.1 r.2 r.0), omega (arith, r.0, r.2 0, r.2 1, r.2 2, r.2 3))) (gather_takes 4 (from_be_bytes w32))

pub number64_takes : Takes (number_at w64) (λ n text. (text ≡ be64 n) × (n < 2 ^ 64))
unfolding be64
number64_takes = takes_weaker (number_at w64) (λ n text. (n ≡ from_be_bytes w64 text) × (length text ≡ 8) × IsBytes text) (λ n text. (text ≡ to_be_bytes w64 n) × (n < 2 ^ 64))
    (λ n text r. (sym (be_bytes_8 text n r.1 r.2 r.0), omega (arith, r.0, r.2 0, r.2 1, r.2 2, r.2 3, r.2 4, r.2 5, r.2 6, r.2 7))) (gather_takes 8 (from_be_bytes w64))

abbrev pub Front : ℕ → List ℕ → List ℕ → Type 0
Front n s text = (s ≡ text) × (length text ≡ n) × IsBytes text

abbrev pub Num32 : ℕ → List ℕ → Type 0
Num32 n t = (t ≡ be32 n) × (n < 2 ^ 32)

abbrev pub Num64 : ℕ → List ℕ → Type 0
Num64 n t = (t ≡ be64 n) × (n < 2 ^ 64)

abbrev pub Octet : ℕ → List ℕ → Type 0
Octet n t = (t ≡ n ∷ []) × (n < 256)

pub front_takes : (n : ℕ) → Takes (front_at n) (Front n)
front_takes n = gather_takes n (λ x. x)

-- a value that takes no octets
abbrev pub Made : {A : Type 0} → A → A → List ℕ → Type 0
Made made a t = (a ≡ made) × (t ≡ [])

pub joined_text : (text first second a b : List ℕ) → text ≡ first ++ second → first ≡ a → second ≡ b → text ≡ a ++ b
joined_text text first second a b e p q = e ∙ ap (λ (z : List ℕ). z ++ second) p ∙ ap (λ (z : List ℕ). a ++ z) q

pub last_text : (text first second a : List ℕ) → text ≡ first ++ second → first ≡ a → second ≡ [] → text ≡ a
last_text text first second a e p q = joined_text text first second a [] e p q ∙ append-nil a

-- octets behind their length in one octet
abbrev pub Str8 : List ℕ → List ℕ → Type 0
Str8 s text = (text ≡ str8 s) × (length s < 256) × IsBytes s

str8_final : (s text : List ℕ) → Joined Octet Front s text → Str8 s text
str8_final s text j =
    let len : length s ≡ j.0 = ap length j.5.0 ∙ j.5.1 in
    (j.3 ∙ ap (λ (z : List ℕ). z ++ j.2) j.4.0 ∙ ap (λ (z : List ℕ). j.0 ∷ z) (sym j.5.0) ∙ ap (λ (n : ℕ). n ∷ s) (sym len), omega (arith, len, j.4.1), subst IsBytes (sym j.5.0) j.5.2)

pub str8_takes : Takes str8_at Str8
unfolding str8_at
str8_takes = takes_weaker (then_read octet_at front_at) (Joined Octet Front) Str8 str8_final (takes_in_turn octet_at front_at Octet Front octet_takes front_takes)

-- octets behind their length in four octets
abbrev pub Blob : List ℕ → List ℕ → Type 0
Blob s text = (text ≡ blob s) × (length s < 2 ^ 32) × IsBytes s

blob_final : (s text : List ℕ) → Joined Num32 Front s text → Blob s text
blob_final s text j =
    let len : length s ≡ j.0 = ap length j.5.0 ∙ j.5.1 in
    (joined_text text j.1 j.2 (be32 (length s)) s j.3 (j.4.0 ∙ ap be32 (sym len)) (sym j.5.0), omega (arith, len, j.4.1), subst IsBytes (sym j.5.0) j.5.2)

pub blob_takes : Takes blob_at Blob
unfolding blob_at
blob_takes = takes_weaker (then_read (number_at w32) front_at) (Joined Num32 Front) Blob blob_final (takes_in_turn (number_at w32) front_at Num32 Front number32_takes front_takes)
