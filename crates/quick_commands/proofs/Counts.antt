-- A count doesn't depend on the order.
use Rattle.std.proofs.Common.{◌≡◌, ◌∙◌, ◌∷◌, [], ◌+◌, ℕ, ℤ, List, Bool, length, reverse, refl, sym, ap, arith, cond}
use Rattle.std.specs.Prelude.{count_by}
use Rattle.std.proofs.lemmas.List.{length-reverse, reverse-append}
use Rattle.std.proofs.lemmas.List.Sums.{sum_by-append, sum_by-cons}
use Rattle.cluster_types.specs.declared.entry.Entry.{Entry}
use Rattle.quick_commands.specs.declared.summing.CountedKind.TheVariants.{Hand, Completed, Failed}
use Rattle.quick_commands.specs.Summaries.{is_of, sums_up}

count_reversed : {X : Type 0} (p : X → Bool) (xs : List X) → count_by p (reverse xs) ≡ count_by p xs
count_reversed p [] = refl
count_reversed {X} p (x ∷ xs) =
    let one : ℕ = cond (p x) 1 0 in
    let a : count_by p (reverse (x ∷ xs)) ≡ count_by p (reverse xs) + count_by p (x ∷ []) = ap (λ (l : List X). count_by p l) (reverse-append (x ∷ []) xs) ∙ sum_by-append (λ y. cond (p y) 1 0) (reverse xs) (x ∷ []) in
    let b : count_by p (reverse xs) ≡ count_by p xs = count_reversed p xs in
    let c : count_by p (x ∷ xs) ≡ one + count_by p xs = sum_by-cons (λ y. cond (p y) 1 0) x xs in
    let d : count_by p (x ∷ []) ≡ one + 0 = sum_by-cons (λ y. cond (p y) 1 0) x [] in
    omega (arith, a, b, c, d)

-- the summary of a history, by its entries in order
pub summed : (tasks n completed failed hands size : ℕ) (entries : List Entry) (sum z : ℤ) → n ≡ tasks → completed ≡ count_by (is_of Completed) entries → failed ≡ count_by (is_of Failed) entries → hands ≡ count_by (is_of Hand) entries → size ≡ length entries → z ≡ sum →
    record { tasks = n; completed = completed; failed = failed; hands = hands; entries = size; sum = z } ≡ sums_up tasks (reverse entries) sum
summed tasks n completed failed hands size entries sum z t c f h s u =
    let a : completed ≡ count_by (is_of Completed) (reverse entries) = c ∙ sym (count_reversed (is_of Completed) entries) in
    let b : failed ≡ count_by (is_of Failed) (reverse entries) = f ∙ sym (count_reversed (is_of Failed) entries) in
    let d : hands ≡ count_by (is_of Hand) (reverse entries) = h ∙ sym (count_reversed (is_of Hand) entries) in
    let e : size ≡ length (reverse entries) = s ∙ sym (length-reverse entries) in
    cc
