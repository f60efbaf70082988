-- Loops over links.
use Rattle.std.proofs.Common.{◌≡◌, ◌<◌, ◌+◌, ◌-◌, ◌^◌, ℕ, List, min, take, drop, ◌++◌, length, arith, subst, sym, ap, ◌∙◌}
use Rattle.std.specs.Prelude.{map, slice_index_or, slice_set}
use Rattle.std.proofs.lemmas.List.{get_or_default}
use Rattle.std.proofs.lemmas.List.Edits.{map_over_more}
use Rattle.std.proofs.lemmas.List.Sums.{sum_by_more}
use Rattle.pending_links.specs.declared.link.PendingLink.{PendingLink}
use Rattle.pending_links.specs.Pending.{kept_octets}

capped_sum : (a b c m : ℕ) → c ≡ min a m → min (c + b) m ≡ min (a + b) m
capped_sum a b c m is = grind (arith)

pub kept_more : (links : List PendingLink) (place : ℕ) (d : PendingLink) (octets next : ℕ) → place < length links → next ≡ min (octets + (slice_index_or links place d).octets) (2 ^ 64 - 1) → octets ≡ min (kept_octets (take place links)) (2 ^ 64 - 1) → next ≡ min (kept_octets (take (place + 1) links)) (2 ^ 64 - 1)
kept_more links place d octets next within adds is =
    adds ∙ capped_sum (kept_octets (take place links)) (slice_index_or links place d).octets octets (2 ^ 64 - 1) is
    ∙ ap (λ (n : ℕ). min n (2 ^ 64 - 1)) (sym (sum_by_more (λ (l : PendingLink). l.octets) links place d within))

-- a loop that changes each link comes to the next one
pub map_next : (f : PendingLink → PendingLink) (xs ys : List PendingLink) (i : ℕ) (d next : PendingLink) → i < length xs → length ys ≡ length xs → ys ≡ map f (take i xs) ++ drop i xs → next ≡ f (slice_index_or ys i d) → slice_set ys i next ≡ map f (take (i + 1) xs) ++ drop (i + 1) xs
map_next f xs ys i d next within same is changed =
    let inside : i < length ys = omega (arith, within, same) in
    subst (λ (l : PendingLink). slice_set ys i l ≡ map f (take (i + 1) xs) ++ drop (i + 1) xs) (sym changed)
    (map_over_more f xs ys i (slice_index_or ys i d) within is (get_or_default ys i d (slice_index_or ys i d) inside))
