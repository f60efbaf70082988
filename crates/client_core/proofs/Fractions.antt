-- A text in which `t":` stands nowhere has no timeout, so no fraction of one is taken off.
use Rattle.std.proofs.Common.{◌≡◌, ℕ, Bool, true, false, not, ◌&&◌, ◌==◌, ◌-◌, List, [], ◌∷◌, ◌++◌, length, take, drop, codes, nat_eq, if◌then◌else◌, true≢false, refl, sym, ap, subst, ◌∙◌, append_assoc, append-nil, take-append-drop}
use Rattle.std.proofs.lemmas.Bool.{and_parts, and_from, and_left, and_right, or_from, false_from_ne_true, not-true}
use Rattle.std.proofs.lemmas.Bool.Decides.{Decides-eqb}
use Rattle.std.proofs.lemmas.Slice.Eq.{ends_is}
use Rattle.std.specs.Char.{is_ascii_digit}
use Rattle.std.specs.List.{ends_with, suffix_len, list_all}
use Rattle.cluster_defs.specs.Points.{ends_in_name, ends_in_timeout, begins_with_fraction, whole_behind, whole_timeouts}
use Rattle.jupyter_header.proofs.Walk.{on}

-- what stands at the end of what was passed: `t`, `t"`, or neither
pub data Passed : Type 0 where
  neither : Passed
  letter : Passed
  closed : Passed

abbrev pub after_quote : Passed → Passed
after_quote neither = neither
after_quote letter = closed
after_quote closed = neither

abbrev pub next : Passed → ℕ → Passed
next s x = if x == 116 then letter else (if x == 34 then after_quote s else neither)

-- whether a colon ends `t":`
abbrev pub ends_key : Passed → ℕ → Bool
ends_key neither x = false
ends_key letter x = false
ends_key closed x = x == 58

abbrev pub behind : Passed → List ℕ → Passed
behind s [] = s
behind s (x ∷ xs) = behind (next s x) xs

-- whether `t":` stands nowhere in a text behind what was passed
abbrev pub keyless : Passed → List ℕ → Bool
keyless s [] = true
keyless s (x ∷ xs) = not (ends_key s x) && keyless (next s x) xs

pub keyless-append : (s : Passed) (xs ys : List ℕ) → keyless s xs ≡ true → keyless (behind s xs) ys ≡ true → keyless s (xs ++ ys) ≡ true
keyless-append s [] ys h k = k
keyless-append s (x ∷ xs) ys h k =
    let both = and_parts (not (ends_key s x)) (keyless (next s x) xs) h in
    and_from (not (ends_key s x)) (keyless (next s x) (xs ++ ys)) both.0 (keyless-append (next s x) xs ys both.1 k)

pub behind-append : (s : Passed) (xs ys : List ℕ) → behind s (xs ++ ys) ≡ behind (behind s xs) ys
behind-append s [] ys = refl
behind-append s (x ∷ xs) ys = behind-append (next s x) xs ys

keyless_front : (s : Passed) (xs ys : List ℕ) → keyless s (xs ++ ys) ≡ true → keyless s xs ≡ true
keyless_front s [] ys h = refl
keyless_front s (x ∷ xs) ys h =
    let both = and_parts (not (ends_key s x)) (keyless (next s x) (xs ++ ys)) h in
    and_from (not (ends_key s x)) (keyless (next s x) xs) both.0 (keyless_front (next s x) xs ys both.1)

keyless_rest : (s : Passed) (xs ys : List ℕ) → keyless s (xs ++ ys) ≡ true → keyless (behind s xs) ys ≡ true
keyless_rest s [] ys h = h
keyless_rest s (x ∷ xs) ys h = keyless_rest (next s x) xs ys (and_parts (not (ends_key s x)) (keyless (next s x) (xs ++ ys)) h).1

named : (s : Passed) → keyless s (codes "\"timeout\":") ≡ false
named neither = refl
named letter = refl
named closed = refl

spaced : (s : Passed) → keyless s (codes "\"timeout\": ") ≡ false
spaced neither = refl
spaced letter = refl
spaced closed = refl

no_end : (text name : List ℕ) → ((s : Passed) → keyless s name ≡ false) → keyless neither text ≡ true → ends_with nat_eq text name ≡ false
no_end text name never h = false_from_ne_true (ends_with nat_eq text name) (λ yes.
    let front = take (length text - length name) text in
    let split : text ≡ front ++ name = (ends_is Decides-eqb text name (ends_with nat_eq text name) refl).0 yes in
    let rest = keyless_rest neither front name (subst (λ t. keyless neither t ≡ true) split h) in
    true≢false (sym rest ∙ never (behind neither front)))

no_name : (text : List ℕ) → keyless neither text ≡ true → ends_in_name text ≡ false
unfolding ends_in_name
no_name text h =
    or_from (ends_with nat_eq text (codes "\"timeout\":")) (ends_with nat_eq text (codes "\"timeout\": "))
    (no_end text (codes "\"timeout\":") named h) (no_end text (codes "\"timeout\": ") spaced h)

no_timeout : (text : List ℕ) → keyless neither text ≡ true → ends_in_timeout text ≡ false
no_timeout text h =
    let count = length text - suffix_len is_ascii_digit text in
    let front = keyless_front neither (take count text) (drop count text) (subst (λ t. keyless neither t ≡ true) (sym (take-append-drop count text)) h) in
    and_right _ (ends_in_name (take count text)) (no_name (take count text) front)

-- a text without `t":` is passed over
passed : (front text more : List ℕ) → keyless neither (front ++ text) ≡ true → whole_behind front (text ++ more) ≡ text ++ whole_behind (front ++ text) more
passed front [] more h = ap (λ f. whole_behind f more) (sym (append-nil front))
passed front (x ∷ text) more h =
    let quiet = no_timeout front (keyless_front neither front (x ∷ text) h) in
    let further = passed (front ++ x ∷ []) text more (subst (λ t. keyless neither t ≡ true) (sym (append_assoc front (x ∷ []) text)) h) in
    on front x (text ++ more) (and_right (begins_with_fraction (x ∷ (text ++ more))) (ends_in_timeout front) quiet)
    ∙ ap (λ t. x ∷ t) (further ∙ ap (λ f. text ++ whole_behind f more) (append_assoc front (x ∷ []) text))

-- whether no `.` stands in a text
abbrev pub dotless : List ℕ → Bool
dotless text = list_all (λ x. not (x == 46)) text

no_fraction : (x : ℕ) (rest : List ℕ) → not (x == 46) ≡ true → begins_with_fraction (x ∷ rest) ≡ false
no_fraction x [] h = refl
no_fraction x (y ∷ []) h = refl
no_fraction x (y ∷ z ∷ rest) h = rw (not-true (x == 46) h) refl

-- a text without `.` too
plain : (front text : List ℕ) → dotless text ≡ true → whole_behind front text ≡ text
plain front [] h = refl
plain front (x ∷ text) h =
    let both = and_parts (not (x == 46)) (dotless text) h in
    on front x text (and_left (begins_with_fraction (x ∷ text)) (ends_in_timeout front) (no_fraction x text both.0))
    ∙ ap (λ t. x ∷ t) (plain (front ++ x ∷ []) text both.1)

pub untouched : (before after : List ℕ) → keyless neither before ≡ true → dotless after ≡ true → whole_timeouts (before ++ after) ≡ before ++ after
unfolding whole_timeouts
untouched before after h k = passed [] before after h ∙ ap (λ t. before ++ t) (plain before after k)
