-- What is known of two texts, and what it becomes where a piece comes.
use Rattle.std.proofs.Common.{◌≡◌, ℕ, ◌+◌, ◌<◌, ◌≤◌, min, true, false, List, [], ◌∷◌, ◌++◌, length, take, drop, refl, sym, ap, ◌∙◌, subst, arith, append_assoc, length-append, length-drop, inl, inr}
use Rattle.std.specs.Prelude.{◌⊎◌, ◌↔◌, Option, Some, None, option_map, is_some, IsNone, max}
use Rattle.std.proofs.lemmas.Bool.{cases_lt}
use Rattle.std.proofs.lemmas.List.{append-nil, take-append-drop, length-take, nil_from_length}
use Rattle.database_text.specs.Comparison.{first_difference, end_difference, counted, Agree, Stand}
use Rattle.database_text.proofs.Differences.{first_behind, end_behind, first_turned, first_more, first_shifted, first_none, end_first, end_none, end_same, first_empty}

-- ---- a difference stays

option_both : {A B : Type 0} (f : A → B) (o p : Option A) (y : B) → ((x : A) → o ≡ Some x → p ≡ Some x) → option_map f o ≡ Some y → option_map f p ≡ Some y
option_both f None p y h e = absurd cc
option_both f (Some x) p y h e = rw (h x refl) e

still_first : (own other more : List ℕ) (place : ℕ) → option_map counted (first_difference 0 own other) ≡ Some place → option_map counted (first_difference 0 (own ++ more) other) ≡ Some place
still_first own other more place = option_both counted (first_difference 0 own other) (first_difference 0 (own ++ more) other) place (λ x. first_more 0 own other more x)

pub stand_more : (own other : List ℕ) (difference : Option ℕ) (same : ℕ) (own_ahead other_ahead piece : List ℕ) → is_some difference ≡ true → Stand own other difference same own_ahead other_ahead
    → Stand (own ++ piece) other difference same own_ahead other_ahead
stand_more own other None same own_ahead other_ahead piece e s = absurd cc
stand_more own other (Some place) same own_ahead other_ahead piece e s = still_first own other piece place s

-- ---- a piece differs

counted_on : (front same place : ℕ) → same ≡ counted front → counted (front + place) ≡ counted (same + place)
counted_on front same place e = grind (arith, e)

agree_differs : (own other : List ℕ) (same : ℕ) (own_ahead other_ahead piece : List ℕ) (place : ℕ) → Agree own other same own_ahead other_ahead → first_difference 0 piece other_ahead ≡ Some place
    → option_map counted (first_difference 0 (own ++ piece) other) ≡ Some (counted (same + place))
agree_differs own other same own_ahead other_ahead piece place a e =
    elim a.one [
      | inl nothing ↦
          let front : own ≡ a.common = a.own_is ∙ ap (λ (xs : List ℕ). a.common ++ xs) nothing ∙ append-nil a.common in
          let behind : first_difference 0 (own ++ piece) other ≡ first_difference (length a.common + 0) piece other_ahead =
          rw (front, a.other_is) (first_behind 0 a.common piece other_ahead ∙ ap (λ (n : ℕ). first_difference n piece other_ahead) (omega arith)) in
          let place_is : first_difference 0 (own ++ piece) other ≡ Some (length a.common + place) = behind ∙ first_shifted (length a.common) 0 piece other_ahead ∙ ap (option_map (λ n. length a.common + n)) e in
          ap (option_map counted) place_is ∙ ap (λ (n : ℕ). Some n) (counted_on (length a.common) same place a.same_is)
      | inr nothing ↦ absurd (let none = first_empty 0 piece in let some : first_difference 0 piece [] ≡ Some place = subst (λ (ys : List ℕ). first_difference 0 piece ys ≡ Some place) nothing e in cc)
    ]

pub stand_differs : (own other : List ℕ) (difference : Option ℕ) (same : ℕ) (own_ahead other_ahead piece : List ℕ) (place : ℕ) → is_some difference ≡ false → first_difference 0 piece other_ahead ≡ Some place
    → Stand own other difference same own_ahead other_ahead → option_map counted (first_difference 0 (own ++ piece) other) ≡ Some (counted (same + place))
stand_differs own other None same own_ahead other_ahead piece place n e a = agree_differs own other same own_ahead other_ahead piece place a e
stand_differs own other (Some p) same own_ahead other_ahead piece place n e a = absurd cc

-- ---- a piece doesn't differ

-- the text of the piece isn't ahead
on_behind : (common own other : List ℕ) (same : ℕ) (own_ahead other_ahead piece : List ℕ) (n : ℕ) → own ≡ common ++ own_ahead → other ≡ common ++ other_ahead → same ≡ counted (length common) → own_ahead ≡ []
    → take n piece ≡ take n other_ahead → n ≡ min (length piece) (length other_ahead) → Agree (own ++ piece) other (counted (same + n)) (own_ahead ++ drop n piece) (drop n other_ahead)
on_behind common own other same own_ahead other_ahead piece n own_is other_is same_is nothing front n_is = record {
  common = common ++ take n piece;
  own_is = rw (own_is, nothing, append-nil common, append_assoc common (take n piece) (drop n piece), take-append-drop n piece) refl;
  other_is = rw (other_is, front, append_assoc common (take n other_ahead) (drop n other_ahead), take-append-drop n other_ahead) refl;
  same_is = sym (counted_on (length common) same n same_is) ∙ ap counted (omega (arith, length-append common (take n piece), length-take n piece, n_is));
  one = ended;
}
  where
    gone : (xs : List ℕ) → length xs ≤ n → drop n xs ≡ []
    gone xs le = nil_from_length (drop n xs) (omega (arith, length-drop n xs))

    ended : (own_ahead ++ drop n piece ≡ []) ⊎ (drop n other_ahead ≡ [])
    ended = elim (cases_lt (length piece) (length other_ahead)) [
      | inl lt ↦ inl (rw (nothing, gone piece (omega (arith, n_is, lt))) refl)
      | inr le ↦ inr (gone other_ahead (omega (arith, n_is, le)))
    ]

-- the other text isn't ahead
on_ahead : (common own other : List ℕ) (same : ℕ) (own_ahead other_ahead piece : List ℕ) (n : ℕ) → own ≡ common ++ own_ahead → other ≡ common ++ other_ahead → same ≡ counted (length common) → other_ahead ≡ []
    → n ≡ 0 → Agree (own ++ piece) other (counted (same + n)) (own_ahead ++ drop n piece) (drop n other_ahead)
on_ahead common own other same own_ahead other_ahead piece n own_is other_is same_is nothing n_is = record {
  common = common;
  own_is = rw (own_is, n_is, append_assoc common own_ahead piece) refl;
  other_is = rw (n_is) other_is;
  same_is = sym (counted_on (length common) same n same_is) ∙ ap counted (omega (arith, n_is));
  one = inr (rw (n_is) nothing);
}

agree_on : (own other : List ℕ) (same : ℕ) (own_ahead other_ahead piece : List ℕ) (n : ℕ) → Agree own other same own_ahead other_ahead → first_difference 0 piece other_ahead ≡ None
    → n ≡ min (length piece) (length other_ahead) → Agree (own ++ piece) other (counted (same + n)) (own_ahead ++ drop n piece) (drop n other_ahead)
agree_on own other same own_ahead other_ahead piece n a e n_is =
    elim a.one [
      | inl nothing ↦ on_behind a.common own other same own_ahead other_ahead piece n a.own_is a.other_is a.same_is nothing (first_none 0 piece other_ahead e n (omega (arith, n_is)) (omega (arith, n_is))) n_is
      | inr nothing ↦ on_ahead a.common own other same own_ahead other_ahead piece n a.own_is a.other_is a.same_is nothing (omega (arith, n_is, ap length nothing))
    ]

pub stand_on : (own other : List ℕ) (difference : Option ℕ) (same : ℕ) (own_ahead other_ahead piece : List ℕ) (n : ℕ) → is_some difference ≡ false → first_difference 0 piece other_ahead ≡ None
    → n ≡ min (length piece) (length other_ahead) → Stand own other difference same own_ahead other_ahead → Stand (own ++ piece) other difference (counted (same + n)) (own_ahead ++ drop n piece) (drop n other_ahead)
stand_on own other None same own_ahead other_ahead piece n gone e n_is a = agree_on own other same own_ahead other_ahead piece n a e n_is
stand_on own other (Some p) same own_ahead other_ahead piece n gone e n_is a = absurd cc

-- ---- either text may come first

other_one : {P Q : Type 0} → P ⊎ Q → Q ⊎ P
other_one (inl p) = inr p
other_one (inr q) = inl q

pub stand_turned : (own other : List ℕ) (difference : Option ℕ) (same : ℕ) (own_ahead other_ahead : List ℕ) → Stand own other difference same own_ahead other_ahead → Stand other own difference same other_ahead own_ahead
stand_turned own other None same own_ahead other_ahead a = record { common = a.common; own_is = a.other_is; other_is = a.own_is; same_is = a.same_is; one = other_one a.one }
stand_turned own other (Some place) same own_ahead other_ahead s = ap (option_map counted) (first_turned 0 other own) ∙ s

-- ---- what is answered

agree_first : (own other : List ℕ) (same : ℕ) (own_ahead other_ahead : List ℕ) → Agree own other same own_ahead other_ahead → first_difference 0 own other ≡ None
agree_first own other same own_ahead other_ahead a =
    let behind : first_difference 0 own other ≡ first_difference (length a.common) own_ahead other_ahead = rw (a.own_is, a.other_is) (first_behind 0 a.common own_ahead other_ahead ∙ ap (λ (n : ℕ). first_difference n own_ahead other_ahead) (omega arith)) in
    elim a.one [
      | inl nothing ↦ behind ∙ ap (λ (xs : List ℕ). first_difference (length a.common) xs other_ahead) nothing
      | inr nothing ↦ behind ∙ ap (λ (ys : List ℕ). first_difference (length a.common) own_ahead ys) nothing ∙ first_empty (length a.common) own_ahead
    ]

pub stand_first : (own other : List ℕ) (difference : Option ℕ) (same : ℕ) (own_ahead other_ahead : List ℕ) → Stand own other difference same own_ahead other_ahead → difference ≡ option_map counted (first_difference 0 own other)
stand_first own other None same own_ahead other_ahead a = sym (ap (option_map counted) (agree_first own other same own_ahead other_ahead a))
stand_first own other (Some place) same own_ahead other_ahead s = sym s

pub stand_end : (own other : List ℕ) (difference : Option ℕ) (same : ℕ) (own_ahead other_ahead : List ℕ) → is_some difference ≡ true → Stand own other difference same own_ahead other_ahead
    → difference ≡ option_map counted (end_difference 0 own other)
stand_end own other None same own_ahead other_ahead e s = absurd cc
stand_end own other (Some place) same own_ahead other_ahead e s = sym (option_both counted (first_difference 0 own other) (end_difference 0 own other) place (λ x. end_first 0 own other x) s)

end_ahead : (at : ℕ) (xs ys : List ℕ) → (xs ≡ []) ⊎ (ys ≡ []) → 0 < max (length xs) (length ys) → end_difference at xs ys ≡ Some at
end_ahead at [] [] one lt = absurd (omega arith)
end_ahead at [] (y ∷ ys) one lt = refl
end_ahead at (x ∷ xs) [] one lt = refl
end_ahead at (x ∷ xs) (y ∷ ys) (inl e) lt = absurd cc
end_ahead at (x ∷ xs) (y ∷ ys) (inr e) lt = absurd cc

agree_ahead : (own other : List ℕ) (same : ℕ) (own_ahead other_ahead : List ℕ) → Agree own other same own_ahead other_ahead → 0 < max (length own_ahead) (length other_ahead)
    → Some same ≡ option_map counted (end_difference 0 own other)
agree_ahead own other same own_ahead other_ahead a lt =
    let behind : end_difference 0 own other ≡ end_difference (length a.common) own_ahead other_ahead = rw (a.own_is, a.other_is) (end_behind 0 a.common own_ahead other_ahead ∙ ap (λ (n : ℕ). end_difference n own_ahead other_ahead) (omega arith)) in
    ap (λ (n : ℕ). Some n) a.same_is ∙ sym (ap (option_map counted) (behind ∙ end_ahead (length a.common) own_ahead other_ahead a.one lt))

pub stand_ahead : (own other : List ℕ) (difference : Option ℕ) (same : ℕ) (own_ahead other_ahead : List ℕ) → is_some difference ≡ false → 0 < max (length own_ahead) (length other_ahead)
    → Stand own other difference same own_ahead other_ahead → Some same ≡ option_map counted (end_difference 0 own other)
stand_ahead own other None same own_ahead other_ahead e lt a = agree_ahead own other same own_ahead other_ahead a lt
stand_ahead own other (Some place) same own_ahead other_ahead e lt s = absurd cc

agree_even : (own other : List ℕ) (same : ℕ) (own_ahead other_ahead : List ℕ) → Agree own other same own_ahead other_ahead → max (length own_ahead) (length other_ahead) ≡ 0 → own ≡ other
agree_even own other same own_ahead other_ahead a e =
    let own_gone : own_ahead ≡ [] = nil_from_length own_ahead (omega (arith, e)) in
    let other_gone : other_ahead ≡ [] = nil_from_length other_ahead (omega (arith, e)) in
    a.own_is ∙ ap (λ (xs : List ℕ). a.common ++ xs) (own_gone ∙ sym other_gone) ∙ sym a.other_is

pub stand_even : (own other : List ℕ) (difference : Option ℕ) (same : ℕ) (own_ahead other_ahead : List ℕ) → is_some difference ≡ false → max (length own_ahead) (length other_ahead) ≡ 0
    → Stand own other difference same own_ahead other_ahead → own ≡ other
stand_even own other None same own_ahead other_ahead gone e a = agree_even own other same own_ahead other_ahead a e
stand_even own other (Some place) same own_ahead other_ahead gone e s = absurd cc

pub end_equal : (xs ys : List ℕ) → xs ≡ ys → None ≡ option_map counted (end_difference 0 xs ys)
end_equal xs ys e = sym (ap (option_map counted) (ap (λ (zs : List ℕ). end_difference 0 xs zs) (sym e) ∙ end_same 0 xs))

unmapped : (o : Option ℕ) → IsNone (option_map counted o) → o ≡ None
unmapped None n = refl
unmapped (Some x) n = absurd cc

pub none_equal : (answer : Option ℕ) (xs ys : List ℕ) → answer ≡ option_map counted (end_difference 0 xs ys) → IsNone answer ↔ (xs ≡ ys)
none_equal answer xs ys e = (
  λ n. end_none 0 xs ys (unmapped (end_difference 0 xs ys) (subst IsNone e n)),
  λ same. subst IsNone (sym (e ∙ sym (end_equal xs ys same))) refl,
)
