-- The ids of numbers read back.
use Rattle.std.proofs.Common.{◌≡◌, ◌<◌, ◌+◌, ◌^◌, ◌↔◌, ℕ, zero, suc, length, true, false, List, Option, Some, None, option_map, unwrap_or, bytes_eq, All, inl, arith, refl, sym, ap, ◌∙◌}
use Rattle.std.specs.Prelude.{nat_lt, nat_le, ◌&&◌}
use Rattle.std.proofs.lemmas.Bool.{and_from}
use Rattle.std.proofs.lemmas.List.Elements.{All-from_recursion}
use Rattle.std.proofs.lemmas.Nat.{from_be_bytes-to_be_bytes_4}
use Rattle.std.proofs.lemmas.Slice.Eq.{bytes_eq-Decides}
use Rattle.uuid.specs.Text.{parsed, lower}
use Rattle.uuid.proofs.RoundTrips.{parses_hyphenated}
use Rattle.uuid.proofs.TextLemmas.{by_index_length}
use Rattle.cluster_defs.specs.Fields.{is_id}
use Rattle.client_core.specs.Limits.{are_ids}
use Rattle.client_core.specs.Identifier.{version_4, client_id}
use Rattle.client_core.specs.Numbers.{numbered, numbered_id, numbered_ids, last_number}

-- the version and the variant stand before the last four octets
last_of : (n : ℕ) → n < 2 ^ 32 → last_number (version_4 (numbered n)) ≡ n
unfolding numbered
last_of n small = from_be_bytes-to_be_bytes_4 n small

octets_small : (n : ℕ) → All (λ b. b < 256) (version_4 (numbered n))
unfolding numbered
octets_small n =
    All-from_recursion (λ b. b < 256) (version_4 (numbered n))
    (omega arith, (omega arith, (omega arith, (omega arith, (omega arith, (omega arith, (omega arith, (omega arith, (omega arith, (omega arith, (omega arith, (omega arith, (omega arith, (omega arith, (omega arith, (omega arith, tt))))))))))))))))

-- the id of a number is read as its octets
parsed_id : (n : ℕ) → parsed (numbered_id n) ≡ Some (version_4 (numbered n))
unfolding client_id numbered
parsed_id n = sym (parses_hyphenated lower (version_4 (numbered n)) (inl refl) refl (octets_small n))

pub read_back : (n : ℕ) → n < 2 ^ 32 → option_map last_number (parsed (numbered_id n)) ≡ Some n
read_back n small = ap (option_map last_number) (parsed_id n) ∙ ap Some (last_of n small)

same_number : (m n : ℕ) → Some m ≡ Some n → m ≡ n
same_number m n h = ap (λ (o : Option ℕ). unwrap_or o 0) h

pub numbered_apart : (m n : ℕ) → m < 2 ^ 32 → n < 2 ^ 32 → numbered_id m ≡ numbered_id n → m ≡ n
numbered_apart m n first second same =
    same_number m n (sym (read_back m first) ∙ ap (λ id. option_map last_number (parsed id)) same ∙ read_back n second)

-- the number that is read from the id of a number is that number
read_from : (id : List ℕ) (read : Option ℕ) (n : ℕ) → read ≡ option_map last_number (parsed id) → n < 2 ^ 32 → id ≡ numbered_id n → read ≡ Some n
read_from id read n is small same = is ∙ ap (λ i. option_map last_number (parsed i)) same ∙ read_back n small

-- of a text that is no UUID no number is read
pub none_read : (id : List ℕ) → ((u : List ℕ) × (parsed id ≡ Some u) → ⊥) → None ≡ option_map last_number (parsed id)
none_read id never = by_parsed (parsed id) refl
  where
    by_parsed : (o : Option (List ℕ)) → parsed id ≡ o → None ≡ option_map last_number o
    by_parsed None is = refl
    by_parsed (Some u) is = absurd (never (u, is))

-- a text of which no number is read is the id of none
pub none_told : (id : List ℕ) (told : Option ℕ) (n : ℕ) → told ≡ None → None ≡ option_map last_number (parsed id) → n < 2 ^ 32 → (told ≡ Some n) ↔ (id ≡ numbered_id n)
none_told id told n none is small = (λ h. absurd (cc), λ same. read_from id told n (none ∙ is) small same)

-- a number that is read is told where the text is its id
pub some_told : (id : List ℕ) (read n : ℕ) → Some read ≡ option_map last_number (parsed id) → n < 2 ^ 32 → bytes_eq id (numbered_id read) ≡ true → (Some read ≡ Some n) ↔ (id ≡ numbered_id n)
some_told id read n is small holds =
    (λ h. (bytes_eq-Decides id (numbered_id read)).0 holds ∙ ap numbered_id (same_number read n h), λ same. read_from id (Some read) n is small same)

-- and else isn't
pub other_told : (id : List ℕ) (read n : ℕ) → Some read ≡ option_map last_number (parsed id) → n < 2 ^ 32 → bytes_eq id (numbered_id read) ≡ false → (None ≡ Some n) ↔ (id ≡ numbered_id n)
other_told id read n is small differs = (
  λ h. absurd (cc),
  λ same.
      let it : read ≡ n = same_number read n (read_from id (Some read) n is small same) in
      let holds : bytes_eq id (numbered_id read) ≡ true = (bytes_eq-Decides id (numbered_id read)).1 (same ∙ ap numbered_id (sym it)) in
      let clash : true ≡ false = sym holds ∙ differs in
      absurd (cc),
)

-- IDS FOR READERS

id_length : (n : ℕ) → length (numbered_id n) ≡ 36
unfolding client_id
id_length n = by_index_length 36 _

is_id_by : (k : ℕ) → k ≡ 36 → (nat_lt 0 k && nat_le k 255) ≡ true
is_id_by k h = ap (λ n. nat_lt 0 n && nat_le n 255) h

id_is_id : (n : ℕ) → is_id (numbered_id n) ≡ true
id_is_id n = is_id_by (length (numbered_id n)) (id_length n)

-- the ids of numbers are ids that readers take
pub ids_are_ids : (first count : ℕ) → are_ids (numbered_ids first count) ≡ true
ids_are_ids first zero = refl
ids_are_ids first (suc count) = and_from (is_id (numbered_id first)) (are_ids (numbered_ids (first + 1) count)) (id_is_id first) (ids_are_ids (first + 1) count)
