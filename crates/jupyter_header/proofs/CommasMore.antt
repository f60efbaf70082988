-- Members between commas.
use Rattle.std.proofs.Common.{◌≡◌, ◌<◌, ◌+◌, ℕ, List, [], ◌∷◌, ◌++◌, length, take, map, get_or, arith, sym, ap, ◌∙◌, length-take-le}
use Rattle.jupyter_header.proofs.Commas.{parted_more}
use Rattle.jupyter_header.specs.Comma.{comma}
use Rattle.cluster_defs.specs.Texts.{parted}
use Rattle.std.proofs.lemmas.List.{take_more, map-append, length-map}

pub members_more : {X : Type 0} (f : X → List ℕ) (xs : List X) (place : ℕ) (x : X) → place < length xs → x ≡ get_or xs place x
    → parted (map f (take (place + 1) xs)) ≡ parted (map f (take place xs)) ++ (comma place ++ f x)
members_more f xs place x inside is =
    let one : take (place + 1) xs ≡ take place xs ++ x ∷ [] = take_more xs place x inside ∙ ap (λ z. take place xs ++ z ∷ []) (sym is) in
    let long : length (map f (take place xs)) ≡ place = length-map (take place xs) f ∙ length-take-le place xs (omega arith) in
    ap (λ z. parted (map f z)) one ∙ ap parted (map-append f (take place xs) (x ∷ []))
    ∙ parted_more (map f (take place xs)) (f x) ∙ ap (λ n. parted (map f (take place xs)) ++ (comma n ++ f x)) long
