-- Lists of parts that are written one after another.
use Rattle.std.proofs.Common.{◌≡◌, ◌<◌, ◌≤◌, ◌+◌, ◌==◌, ℕ, suc, List, [], ◌∷◌, ◌++◌, length, take, map, get_or, flat_map, filter_map, find, not, nat_eq, false, arith, refl, sym, ap, ◌∙◌, append_assoc, append-nil, length-take-le, Option, Some, None}
use Rattle.std.specs.List.{list_any, cons_option}
use Rattle.std.specs.Option.{option_to_list}
use Rattle.std.proofs.lemmas.List.{take_more, map-append, length-map}
use Rattle.std.proofs.lemmas.List.Concat.{flat_map-append}
use Rattle.std.proofs.lemmas.List.Elements.{filter_map-append}
use Rattle.cluster_defs.specs.Texts.{parted, text_member}
use Rattle.cluster_defs.specs.Purges.{Copy}
use Rattle.cluster_defs.specs.RecordAnswers.{lives_in}
use Rattle.jupyter_header.specs.Comma.{comma}
use Rattle.resubmission.specs.Plans.{copy_of, pair_of}
use Rattle.resubmission.specs.declared.plan.Renaming.{Renaming}
use Rattle.jupyter_header.proofs.Commas.{parted_more}

-- one more item that a function may leave out
kept_one : {Y : Type 0} (o : Option Y) → cons_option o [] ≡ option_to_list o
kept_one None = refl
kept_one (Some y) = refl

pub filter_map_more : {X Y : Type 0} (h : X → Option Y) (xs : List X) (x : X) → filter_map h (xs ++ x ∷ []) ≡ filter_map h xs ++ option_to_list (h x)
filter_map_more h xs x = filter_map-append h xs (x ∷ []) ∙ ap (λ z. filter_map h xs ++ z) (kept_one (h x))

short_one : {Y : Type 0} (o : Option Y) (ys : List Y) (n : ℕ) → length ys ≤ n → length (cons_option o ys) ≤ suc n
short_one None ys n h = omega (arith, h)
short_one (Some y) ys n h = omega (arith, h)

pub filter_map_short : {X Y : Type 0} (h : X → Option Y) (xs : List X) → length (filter_map h xs) ≤ length xs
filter_map_short h [] = omega arith
filter_map_short h (x ∷ xs) = short_one (h x) (filter_map h xs) (length xs) (filter_map_short h xs)

-- members with a comma before each
pub flat_of_map : {X Y : Type 0} (g : Y → List ℕ) (f : X → Y) (xs : List X) → flat_map (λ p. 44 ∷ p) (map g (map f xs)) ≡ flat_map (λ x. 44 ∷ g (f x)) xs
flat_of_map g f [] = refl
flat_of_map g f (x ∷ xs) = ap (λ z. 44 ∷ (g (f x) ++ z)) (flat_of_map g f xs)

pub flat_more : {X : Type 0} (f : X → List ℕ) (xs : List X) (place : ℕ) (x : X) → place < length xs → get_or xs place x ≡ x
    → flat_map f (take (place + 1) xs) ≡ flat_map f (take place xs) ++ f x
flat_more f xs place x inside is =
    ap (flat_map f) (take_more xs place x inside ∙ ap (λ z. take place xs ++ z ∷ []) is)
    ∙ flat_map-append f (take place xs) (x ∷ []) ∙ ap (λ z. flat_map f (take place xs) ++ z) (append-nil (f x))

-- whether an engine is live, by the numbers of the live ones
lives_map : (live : List (ℕ × List ℕ)) (n : ℕ) → list_any (λ m. nat_eq m n) (map (λ e. e.0) live) ≡ lives_in live n
lives_map [] n = refl
lives_map (e ∷ live) n = rw (lives_map live n) refl

pub missing_same : (live : List (ℕ × List ℕ)) (targets : List ℕ)
    → find (λ n. not (list_any (λ m. nat_eq m n) (map (λ e. e.0) live))) targets ≡ find (λ n. not (lives_in live n)) targets
missing_same live targets = λ i. find (λ n. not (lives_map live n i)) targets

-- the members of a reply, off the copies
pub members_of : (renamed : List Renaming) → map text_member (map (λ (c : Copy). (c.old, c.new)) (map copy_of renamed)) ≡ map (λ r. text_member (pair_of r)) renamed
members_of [] = refl
members_of (r ∷ renamed) = ap (λ z. text_member (pair_of r) ∷ z) (members_of renamed)
