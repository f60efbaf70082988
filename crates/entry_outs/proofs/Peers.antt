-- The connection of a peer, where one more connection comes.
use Rattle.std.proofs.Common.{◌≡◌, ℕ, List, [], ◌∷◌, ◌++◌, map, filter, true, false, cond, refl, ap, ◌∙◌, Some}
use Rattle.std.specs.Prelude.{max, fold}
use Rattle.cluster_defs.specs.declared.connection.Connection.{Connection}
use Rattle.cluster_defs.specs.declared.connection.Owner.{Owner}
use Rattle.cluster_defs.specs.Connections.{is_of_peer, highest, reached}
use Rattle.entry_outs.specs.Greater.{greater}

fold_more : (best n : ℕ) (ns : List ℕ) → fold max best (ns ++ n ∷ []) ≡ max (fold max best ns) n
fold_more best n [] = refl
fold_more best n (m ∷ ns) = fold_more (max best m) n ns

highest_more : (ns : List ℕ) (n : ℕ) → highest (ns ++ n ∷ []) ≡ greater (highest ns) n
highest_more [] n = refl
highest_more (m ∷ ns) n = ap Some (fold_more m n ns)

numbers_on : (peer : Owner) (live : List Connection) (c : Connection) → is_of_peer peer c ≡ true →
    map (λ (d : Connection). d.number) (filter (is_of_peer peer) (live ++ c ∷ [])) ≡ map (λ (d : Connection). d.number) (filter (is_of_peer peer) live) ++ c.number ∷ []
numbers_on peer [] c on = rw on refl
numbers_on peer (d ∷ live) c on =
    elim (is_of_peer peer d) as (λ b. map (λ (x : Connection). x.number) (cond b (d ∷ filter (is_of_peer peer) (live ++ c ∷ [])) (filter (is_of_peer peer) (live ++ c ∷ [])))
    ≡ map (λ (x : Connection). x.number) (cond b (d ∷ filter (is_of_peer peer) live) (filter (is_of_peer peer) live)) ++ c.number ∷ []) [
      | true ↦ ap (λ ns. d.number ∷ ns) (numbers_on peer live c on)
      | false ↦ numbers_on peer live c on
    ]

numbers_off : (peer : Owner) (live : List Connection) (c : Connection) → is_of_peer peer c ≡ false → filter (is_of_peer peer) (live ++ c ∷ []) ≡ filter (is_of_peer peer) live
numbers_off peer [] c off = rw off refl
numbers_off peer (d ∷ live) c off = rw (numbers_off peer live c off) refl

pub reached_on : (peer : Owner) (live : List Connection) (c : Connection) → is_of_peer peer c ≡ true → reached (live ++ c ∷ []) peer ≡ greater (reached live peer) c.number
reached_on peer live c on = ap highest (numbers_on peer live c on) ∙ highest_more (map (λ (d : Connection). d.number) (filter (is_of_peer peer) live)) c.number

pub reached_off : (peer : Owner) (live : List Connection) (c : Connection) → is_of_peer peer c ≡ false → reached (live ++ c ∷ []) peer ≡ reached live peer
reached_off peer live c off = ap (λ cs. highest (map (λ (d : Connection). d.number) cs)) (numbers_off peer live c off)
