-- One more item of a list that is parted by commas.
use Rattle.std.proofs.Common.{◌≡◌, ◌<◌, ◌≤◌, ◌+◌, ◌==◌, ℕ, suc, List, [], ◌∷◌, ◌++◌, length, take, map, get_or, false, arith, sym, ap, ◌∙◌, append_assoc, append-nil, length-take-le}
use Rattle.std.proofs.lemmas.List.{take_more, map-append, length-map}
use Rattle.std.proofs.lemmas.List.Concat.{flat_map-append}
use Rattle.std.specs.List.{flat_map}
use Rattle.json.specs.Print.{quoted}
use Rattle.cluster_defs.specs.Texts.{parted}
use Rattle.jupyter_header.specs.Comma.{comma}

pub parted_more : (pieces : List (List ℕ)) (piece : List ℕ) → parted (pieces ++ piece ∷ []) ≡ parted pieces ++ (comma (length pieces) ++ piece)
parted_more [] piece = append-nil piece
parted_more (first ∷ rest) piece =
    let some : (suc (length rest) == 0) ≡ false = grind arith in
    let more : flat_map (λ p. 44 ∷ p) (rest ++ piece ∷ []) ≡ flat_map (λ p. 44 ∷ p) rest ++ (44 ∷ piece) =
    flat_map-append (λ p. 44 ∷ p) rest (piece ∷ []) ∙ ap (λ z. flat_map (λ p. 44 ∷ p) rest ++ z) (append-nil (44 ∷ piece)) in
    rw some (ap (λ z. first ++ z) more ∙ sym (append_assoc first (flat_map (λ p. 44 ∷ p) rest) (44 ∷ piece)))

pub ids_more : (ids : List (List ℕ)) (place : ℕ) (id : List ℕ) → place < length ids → id ≡ get_or ids place id
    → parted (map quoted (take (place + 1) ids)) ≡ parted (map quoted (take place ids)) ++ (comma place ++ quoted id)
ids_more ids place id inside is =
    let short : place ≤ length ids = omega arith in
    let one : take (place + 1) ids ≡ take place ids ++ id ∷ [] = take_more ids place id inside ∙ ap (λ z. take place ids ++ z ∷ []) (sym is) in
    let long : length (map quoted (take place ids)) ≡ place = length-map (take place ids) quoted ∙ length-take-le place ids short in
    ap (λ z. parted (map quoted z)) one ∙ ap parted (map-append quoted (take place ids) (id ∷ []))
    ∙ parted_more (map quoted (take place ids)) (quoted id) ∙ ap (λ n. parted (map quoted (take place ids)) ++ (comma n ++ quoted id)) long
