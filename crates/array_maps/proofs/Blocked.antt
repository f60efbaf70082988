-- Where blocks begin, and that they are the list.
use Rattle.std.proofs.Common.{◌≡◌, ℕ, zero, suc, ◌+◌, ◌*◌, ◌/◌, ◌%◌, ◌<◌, ◌≤◌, min, cond, true, false, List, [], ◌∷◌, ◌++◌, length, take, refl, sym, ap, subst, ◌∙◌, arith, inl, inr}
use Rattle.std.specs.Prelude.{nat_lt, flat_map}
use Rattle.std.specs.List.{range_with_len}
use Rattle.std.proofs.lemmas.Bool.{cases_lt}
use Rattle.std.proofs.lemmas.Grind.{flat_map-append}
use Rattle.std.proofs.lemmas.List.{append-nil}
use Rattle.std.proofs.Math.Seq.{take-add}
use Rattle.std.proofs.Math.Nat.{div-add-mod, mod-lt}
use Rattle.array_maps.specs.Blocks.{block_start, block_length, block_of}

-- the length of a part, by its place among the longer ones
length_at : (n parts part : ℕ) → block_length n parts part + min part (n % parts) ≡ n / parts + min (suc part) (n % parts)
length_at n parts part =
    elim (cases_lt part (n % parts)) [
      | inl lt ↦
          let longer : nat_lt part (n % parts) ≡ true = grind arith in
          ap (λ b. cond b (n / parts + 1) (n / parts) + min part (n % parts)) longer ∙ omega arith
      | inr le ↦
          let shorter : nat_lt part (n % parts) ≡ false = grind arith in
          ap (λ b. cond b (n / parts + 1) (n / parts) + min part (n % parts)) shorter ∙ omega arith
    ]

-- each part has the whole quotient, and each of the first ones one item more
pub start_at : (n parts part : ℕ) → block_start n parts part ≡ part * (n / parts) + min part (n % parts)
start_at n parts zero = omega arith
start_at n parts (suc part) =
    let before = start_at n parts part in
    let here = length_at n parts part in
    let more : suc part * (n / parts) ≡ part * (n / parts) + n / parts = grind arith in
    omega (arith, before, here, more)

-- the last part ends where the list ends
pub last_end : (n parts : ℕ) → 0 < parts → block_start n parts parts ≡ n
last_end n parts some =
    let start = start_at n parts parts in
    let below : n % parts < parts = mod-lt n some in
    let whole = div-add-mod n parts in
    omega (arith, start, below, whole)

one_more : (a n : ℕ) → range_with_len a (suc n) ≡ range_with_len a n ++ (a + n) ∷ []
one_more a zero = ap (λ k. k ∷ []) (omega arith)
one_more a (suc n) = ap (λ l. a ∷ l) (one_more (a + 1) n) ∙ ap (λ k. a ∷ (range_with_len (a + 1) n ++ k ∷ [])) (omega arith)

-- the first blocks are a front of the list
pub front : {X : Type 0} (items : List X) (parts part : ℕ) → flat_map (block_of items parts) (range_with_len 0 part) ≡ take (block_start (length items) parts part) items
front items parts zero = refl
front items parts (suc part) =
    ap (flat_map (block_of items parts)) (one_more 0 part)
    ∙ ap (λ k. flat_map (block_of items parts) (range_with_len 0 part ++ k ∷ [])) (let e : 0 + part ≡ part = omega arith in e)
    ∙ flat_map-append (block_of items parts) (range_with_len 0 part) (part ∷ [])
    ∙ ap (λ l. l ++ flat_map (block_of items parts) (part ∷ [])) (front items parts part)
    ∙ ap (λ l. take (block_start (length items) parts part) items ++ l) (append-nil (block_of items parts part))
    ∙ sym (take-add (block_start (length items) parts part) (block_length (length items) parts part) items)

take_all : {X : Type 0} (items : List X) → take (length items) items ≡ items
take_all [] = refl
take_all (x ∷ items) = ap (λ l. x ∷ l) (take_all items)

pub blocks_list : {X : Type 0} (items : List X) (parts : ℕ) → 0 < parts → flat_map (block_of items parts) (range_with_len 0 parts) ≡ items
blocks_list items parts some = front items parts parts ∙ ap (λ n. take n items) (last_end (length items) parts some) ∙ take_all items

starts_rise : (n parts a b : ℕ) → a ≤ b → block_start n parts a ≤ block_start n parts b
starts_rise n parts a zero le = let e : a ≡ 0 = omega (arith, le) in subst (λ k. block_start n parts k ≤ 0) (sym e) (omega arith)
starts_rise n parts a (suc b) le =
    elim (cases_lt a (suc b)) [
      | inl lt ↦ let before = starts_rise n parts a b (omega (arith, lt)) in omega (arith, before)
      | inr over ↦ let e : a ≡ suc b = omega (arith, le, over) in subst (λ k. block_start n parts k ≤ block_start n parts (suc b)) (sym e) (omega arith)
    ]

-- a block ends where the list ends, or before
pub block_within : (n parts part : ℕ) → part < parts → block_start n parts part + block_length n parts part ≤ n
block_within n parts part lt =
    let rise = starts_rise n parts (suc part) parts (omega (arith, lt)) in
    let end = last_end n parts (omega (arith, lt)) in
    omega (arith, rise, end)
