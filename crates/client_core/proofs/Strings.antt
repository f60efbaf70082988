-- `t":` stands nowhere in texts as JSON writes them, nor in lists of them.
use Rattle.std.proofs.Common.{◌≡◌, ◌<◌, ◌≤◌, ℕ, Bool, true, false, not, ◌&&◌, ◌==◌, List, [], ◌∷◌, ◌++◌, map, flat_map, if◌then◌else◌, ⊎_elim, true≢false, refl, sym, ap, subst, ◌∙◌}
use Rattle.std.proofs.lemmas.Bool.{and_parts, cases_eq, cases_lt, ne_eqb, agree_below_at, not-true}
use Rattle.json.specs.Print.{escape_byte, escape, quoted}
use Rattle.json.proofs.Printed.Strings.{escape_byte_plain}
use Rattle.cluster_defs.specs.Texts.{parted, texts_list}
use Rattle.client_core.proofs.Fractions.{Passed, neither, letter, closed, behind, keyless, keyless-append, behind-append}

abbrev is_closed : Passed → Bool
is_closed neither = false
is_closed letter = false
is_closed closed = true

abbrev is_letter : Passed → Bool
is_letter neither = false
is_letter letter = true
is_letter closed = false

-- what stands for an octet has no `t":`, and ends in no `t"`, where none stands before it
abbrev mild : ℕ → Bool
mild x =
    keyless neither (escape_byte x) && keyless letter (escape_byte x) && not (is_closed (behind neither (escape_byte x)))
    && not (is_closed (behind letter (escape_byte x)))

mild_below : (x : ℕ) → x < 32 → mild x ≡ true
unfolding escape_byte
mild_below x h = agree_below_at mild (λ _. true) 32 x refl h

mild_quote : mild 34 ≡ true
unfolding escape_byte
mild_quote = refl

mild_backslash : mild 92 ≡ true
unfolding escape_byte
mild_backslash = refl

one : (b c : Bool) (s : Passed) → c ≡ false → is_closed (if b then letter else (if c then s else neither)) ≡ false
one true c s h = refl
one false true s h = absurd (true≢false h)
one false false s h = refl

mild_plain : (x : ℕ) → (x ≡ 34 → ⊥) → (x ≡ 92 → ⊥) → 32 ≤ x → mild x ≡ true
mild_plain x not_quote not_backslash high =
    rw (escape_byte_plain x not_quote not_backslash high)
    (rw (one (x == 116) (x == 34) neither (ne_eqb x 34 not_quote), one (x == 116) (x == 34) closed (ne_eqb x 34 not_quote)) refl)

is_mild : (x : ℕ) → mild x ≡ true
is_mild x = ⊎_elim (mild_below x) (λ high. ⊎_elim (λ e. subst (λ y. mild y ≡ true) (sym e) mild_quote) (λ not_quote.
    ⊎_elim (λ e. subst (λ y. mild y ≡ true) (sym e) mild_backslash) (λ not_backslash. mild_plain x not_quote not_backslash high) (cases_eq x 92)) (cases_eq x 34)) (cases_lt x 32)

record Mild (s : Passed) (xs : List ℕ) : Type 0 where
  keyless_ : keyless s xs ≡ true
  open_ : is_closed (behind s xs) ≡ false

byte : (s : Passed) (x : ℕ) → is_closed s ≡ false → Mild s (escape_byte x)
byte neither x h =
    let p = and_parts (keyless neither (escape_byte x) && keyless letter (escape_byte x) && not (is_closed (behind neither (escape_byte x)))) _ (is_mild x) in
    let q = and_parts (keyless neither (escape_byte x) && keyless letter (escape_byte x)) _ p.0 in
    record { keyless_ = (and_parts (keyless neither (escape_byte x)) _ q.0).0; open_ = not-true _ q.1 }
byte letter x h =
    let p = and_parts (keyless neither (escape_byte x) && keyless letter (escape_byte x) && not (is_closed (behind neither (escape_byte x)))) _ (is_mild x) in
    let q = and_parts (keyless neither (escape_byte x) && keyless letter (escape_byte x)) _ p.0 in
    record { keyless_ = (and_parts (keyless neither (escape_byte x)) _ q.0).1; open_ = not-true _ p.1 }
byte closed x h = absurd (cc)

escaped : (s : Passed) (text : List ℕ) → is_closed s ≡ false → Mild s (escape text)
escaped s [] h = record { keyless_ = refl; open_ = h }
escaped s (x ∷ text) h =
    let first = byte s x h in
    let rest = escaped (behind s (escape_byte x)) text first.open_ in
    record {
      keyless_ = keyless-append s (escape_byte x) (escape text) first.keyless_ rest.keyless_;
      open_ = ap is_closed (behind-append s (escape_byte x) (escape text)) ∙ rest.open_;
    }

-- no `t":`, and no `t` at the end
record Ends (s : Passed) (xs : List ℕ) : Type 0 where
  keyless_ : keyless s xs ≡ true
  no_letter : is_letter (behind s xs) ≡ false

Ends-append : (s : Passed) (xs ys : List ℕ) → Ends s xs → Ends (behind s xs) ys → Ends s (xs ++ ys)
Ends-append s xs ys h k = record {
  keyless_ = keyless-append s xs ys h.keyless_ k.keyless_;
  no_letter = ap is_letter (behind-append s xs ys) ∙ k.no_letter;
}

closing : (s : Passed) → is_closed s ≡ false → Ends s (34 ∷ [])
closing neither h = record { keyless_ = refl; no_letter = refl }
closing letter h = record { keyless_ = refl; no_letter = refl }
closing closed h = absurd (cc)

inside : (text : List ℕ) → Ends neither (escape text ++ 34 ∷ [])
inside text =
    let m = escaped neither text refl in
    let c = closing (behind neither (escape text)) m.open_ in
    record {
      keyless_ = keyless-append neither (escape text) (34 ∷ []) m.keyless_ c.keyless_;
      no_letter = ap is_letter (behind-append neither (escape text) (34 ∷ [])) ∙ c.no_letter;
    }

quote : (s : Passed) (text : List ℕ) → is_letter s ≡ false → Ends s (quoted text)
quote neither text h = record { keyless_ = (inside text).keyless_; no_letter = (inside text).no_letter }
quote letter text h = absurd (cc)
quote closed text h = record { keyless_ = (inside text).keyless_; no_letter = (inside text).no_letter }

-- behind a comma
further : (s : Passed) (text : List ℕ) → is_letter s ≡ false → Ends s (44 ∷ quoted text)
further neither text h = record { keyless_ = (quote neither text refl).keyless_; no_letter = (quote neither text refl).no_letter }
further letter text h = absurd (cc)
further closed text h = record { keyless_ = (quote neither text refl).keyless_; no_letter = (quote neither text refl).no_letter }

others : (s : Passed) (texts : List (List ℕ)) → is_letter s ≡ false → Ends s (flat_map (λ piece. 44 ∷ piece) (map quoted texts))
others s [] h = record { keyless_ = refl; no_letter = h }
others s (text ∷ texts) h =
    let first = further s text h in
    Ends-append s (44 ∷ quoted text) (flat_map (λ piece. 44 ∷ piece) (map quoted texts)) first (others (behind s (44 ∷ quoted text)) texts first.no_letter)

pieces : (s : Passed) (texts : List (List ℕ)) → is_letter s ≡ false → Ends s (parted (map quoted texts))
pieces s [] h = record { keyless_ = refl; no_letter = h }
pieces s (text ∷ texts) h =
    let first = quote s text h in
    Ends-append s (quoted text) (flat_map (λ piece. 44 ∷ piece) (map quoted texts)) first (others (behind s (quoted text)) texts first.no_letter)

-- no `t":` wherever it stands, and neither `t` nor `t"` at its end
pub record Calm (xs : List ℕ) : Type 0 where
  pub passes : (s : Passed) → (keyless s xs ≡ true) × (behind s xs ≡ neither)

pub Calm-append : (xs ys : List ℕ) → Calm xs → Calm ys → Calm (xs ++ ys)
Calm-append xs ys h k = record {
  passes = λ s. (keyless-append s xs ys (h.passes s).0 (k.passes (behind s xs)).0, behind-append s xs ys ∙ (k.passes (behind s xs)).1);
}

bracket : (s : Passed) → is_letter s ≡ false → (keyless s (93 ∷ []) ≡ true) × (behind s (93 ∷ []) ≡ neither)
bracket neither h = (refl, refl)
bracket letter h = absurd (cc)
bracket closed h = (refl, refl)

rest_of_list : (texts : List (List ℕ)) → (keyless neither (parted (map quoted texts) ++ 93 ∷ []) ≡ true) × (behind neither (parted (map quoted texts) ++ 93 ∷ []) ≡ neither)
rest_of_list texts =
    let p = pieces neither texts refl in
    let b = bracket (behind neither (parted (map quoted texts))) p.no_letter in
    (keyless-append neither (parted (map quoted texts)) (93 ∷ []) p.keyless_ b.0, behind-append neither (parted (map quoted texts)) (93 ∷ []) ∙ b.1)

list_passes : (texts : List (List ℕ)) (s : Passed) → (keyless s (texts_list texts) ≡ true) × (behind s (texts_list texts) ≡ neither)
list_passes texts neither = rest_of_list texts
list_passes texts letter = rest_of_list texts
list_passes texts closed = rest_of_list texts

pub calm_list : (texts : List (List ℕ)) → Calm (texts_list texts)
calm_list texts = record { passes = list_passes texts }
