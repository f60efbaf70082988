-- Ids that are held, and those that are let go besides.
use Rattle.std.proofs.Common.{◌≡◌, ◌∙◌, ◌+◌, ◌<◌, ℕ, List, [], ◌∷◌, ◌++◌, length, take, get_or, Option, Some, None, is_some, Bool, true, false, cond, not, ◌&&◌, ◌||◌, bytes_eq, refl, sym, ap, append-nil}
use Rattle.std.specs.List.{list_any, list_all}
use Rattle.std.proofs.lemmas.List.{take_more}
use denote.Ref.{Bor}
use Rattle.cluster_defs.specs.Words.{Id}
use Rattle.cluster_defs.specs.Purges.{Copy}
use Rattle.cluster_defs.specs.Thin.{narrowed}
use Rattle.cluster_types.proofs.Booleans.{or_false, and_true, and_false}

or_again : (a b c : Bool) → ((a || b) || c) ≡ (a || (b || c))
or_again true b c = refl
or_again false b c = refl

-- of a list and one item more
any_more : {X : Type 0} (p : X → Bool) (xs : List X) (x : X) → list_any p (xs ++ x ∷ []) ≡ (list_any p xs || p x)
any_more p [] x = or_false (p x)
any_more p (y ∷ xs) x = ap (λ b. p y || b) (any_more p xs x) ∙ sym (or_again (p y) (list_any p xs) (p x))

-- of a front of a list and the item behind it
any_next : {X : Type 0} (p : X → Bool) (xs : List X) (i : ℕ) (x : X) → i < length xs → x ≡ get_or xs i x → list_any p (take (i + 1) xs) ≡ (list_any p (take i xs) || p x)
any_next p xs i x lt is =
    ap (list_any p) (take_more xs i x lt ∙ ap (λ z. take i xs ++ z ∷ []) (sym is)) ∙ any_more p (take i xs) x

-- HELD IDS

-- what is there after one more is put there
there : {X : Type 0} (b : Bool) (o : Option X) (w : X) → is_some (cond b (Some w) o) ≡ (is_some o || b)
there true None w = refl
there true (Some x) w = refl
there false None w = refl
there false (Some x) w = refl

pub held_more : {X : Type 0} (first : Bool) (ids : List (Bor Id)) (i : ℕ) (id : Bor Id) (q word : Id) (before : Option X) (w : X) → i < length ids → id ≡ get_or ids i id → word ≡ id.now →
    is_some before ≡ (first || list_any (λ d. bytes_eq d.now q) (take i ids)) →
    is_some (cond (bytes_eq word q) (Some w) before) ≡ (first || list_any (λ d. bytes_eq d.now q) (take (i + 1) ids))
held_more first ids i id q word before w lt is same held =
    there (bytes_eq word q) before w
    ∙ ap (λ b. b || bytes_eq word q) held
    ∙ or_again first (list_any (λ (d : Bor Id). bytes_eq d.now q) (take i ids)) (bytes_eq word q)
    ∙ ap (λ z. first || (list_any (λ (d : Bor Id). bytes_eq d.now q) (take i ids) || bytes_eq z q)) same
    ∙ ap (λ b. first || b) (sym (any_next (λ (d : Bor Id). bytes_eq d.now q) ids i id lt is))

-- THE OLD IDS OF COPIES THAT STAY

pub olds_more : (gone : Id → Bool) (copies : List Copy) (i : ℕ) (c : Copy) (q : Id) (olds : List (Bor Id)) (old : Bor Id) (stays : Bool) → i < length copies → c ≡ get_or copies i c → old.now ≡ c.old →
    stays ≡ not (gone c.new) → list_any (λ d. bytes_eq d.now q) olds ≡ list_any (λ x. bytes_eq x.old q && not (gone x.new)) (take i copies) →
    list_any (λ d. bytes_eq d.now q) (olds ++ cond stays (old ∷ []) []) ≡ list_any (λ x. bytes_eq x.old q && not (gone x.new)) (take (i + 1) copies)
olds_more gone copies i c q olds old stays lt is same stay so_far =
    one stays
    ∙ ap (λ b. b || (bytes_eq old.now q && stays)) so_far
    ∙ ap (λ z. list_any test (take i copies) || (bytes_eq z q && stays)) same
    ∙ ap (λ s. list_any test (take i copies) || (bytes_eq c.old q && s)) stay
    ∙ sym (any_next test copies i c lt is)
  where
    test : Copy → Bool
    test x = bytes_eq x.old q && not (gone x.new)

    one : (s : Bool) → list_any (λ (d : Bor Id). bytes_eq d.now q) (olds ++ cond s (old ∷ []) []) ≡ (list_any (λ (d : Bor Id). bytes_eq d.now q) olds || (bytes_eq old.now q && s))
    one true = any_more (λ (d : Bor Id). bytes_eq d.now q) olds old ∙ ap (λ b. list_any (λ (d : Bor Id). bytes_eq d.now q) olds || b) (sym (and_true (bytes_eq old.now q)))
    one false =
        ap (list_any (λ (d : Bor Id). bytes_eq d.now q)) (append-nil olds) ∙ sym (or_false (list_any (λ (d : Bor Id). bytes_eq d.now q) olds))
        ∙ ap (λ b. list_any (λ (d : Bor Id). bytes_eq d.now q) olds || b) (sym (and_false (bytes_eq old.now q)))

-- WHAT IS LET GO BESIDES

none_of : (gone : Id → Bool) (q : Id) (copies : List Copy) →
    not (list_any (λ c. bytes_eq c.old q && not (gone c.new)) copies) ≡ list_all (λ c. not (bytes_eq c.old q) || gone c.new) copies
none_of gone q [] = refl
none_of gone q (c ∷ copies) = by (bytes_eq c.old q) (gone c.new) _ _ (none_of gone q copies)
  where
    by : (b g x y : Bool) → not x ≡ y → not ((b && not g) || x) ≡ ((not b || g) && y)
    by true true x y h = h
    by true false x y h = refl
    by false g x y h = h

-- what is purged and not held, once the old ids of the copies that stay are held too
pub narrowed_at : (gone : Id → Bool) (copies : List Copy) (q : Id) (purged held : Bool) → gone q ≡ (purged && not held) →
    (purged && not (held || list_any (λ c. bytes_eq c.old q && not (gone c.new)) copies)) ≡ narrowed gone copies q
narrowed_at gone copies q purged held is =
    by purged held _ _ (none_of gone q copies) ∙ ap (λ b. b && list_all (λ c. not (bytes_eq c.old q) || gone c.new) copies) (sym is)
  where
    by : (p h x y : Bool) → not x ≡ y → (p && not (h || x)) ≡ ((p && not h) && y)
    by true true x y k = refl
    by true false x y k = k
    by false h x y k = refl
