-- The beginning of an answer is no longer than the answer.
use Rattle.std.proofs.Common.{◌≡◌, ◌≤◌, ℕ, List, [], ◌∷◌, ◌++◌, length, take, drop, map, nat_lt, ◌+◌, ◌||◌, ◌&&◌, Bool, true, false, refl, sym, ap, ◌∙◌, arith, length-append, take-append-drop}
use Rattle.std.specs.List.{flat_map}
use Rattle.std.proofs.lemmas.Bool.{and_parts}
use Rattle.std.proofs.lemmas.Bool.Decides.{nat_tests}
use Rattle.std.proofs.lemmas.List.{map-append}
use Rattle.std.proofs.lemmas.List.Concat.{flat_map-append}
use Rattle.std.proofs.lemmas.List.Elements.{filter-append}
use Rattle.cluster_types.specs.declared.record.Record.{Record}
use Rattle.cluster_defs.specs.Queries.{plain, is_too_long}
use Rattle.cluster_defs.specs.Texts.{parted}
use Rattle.cluster_defs.specs.Filter.{is_found, found}
use Rattle.cluster_defs.specs.FilterContents.{record_text, front_text, end_text, records_content}
use Rattle.db_query.specs.Found.{listed}
use Rattle.db_query.specs.Limited.{is_over}
use Rattle.cluster_defs.specs.declared.filter.Field.{Field}
use Rattle.cluster_defs.specs.declared.filter.Tests.{Tests}

parted_front : (xs ys : List (List ℕ)) → length (parted xs) ≤ length (parted (xs ++ ys))
parted_front [] ys = omega arith
parted_front (x ∷ xs) ys =
    let more : length (flat_map (λ p. 44 ∷ p) (xs ++ ys)) ≡ length (flat_map (λ p. 44 ∷ p) xs ++ flat_map (λ p. 44 ∷ p) ys) = ap length (flat_map-append (λ p. 44 ∷ p) xs ys) in
    omega (arith, more, length-append (flat_map (λ p. 44 ∷ p) xs) (flat_map (λ p. 44 ∷ p) ys), length-append x (flat_map (λ p. 44 ∷ p) xs), length-append x (flat_map (λ p. 44 ∷ p) (xs ++ ys)))

found_parts : (t : Tests) (rs : List Record) (k : ℕ) → found t rs ≡ found t (take k rs) ++ found t (drop k rs)
found_parts t rs k = ap (found t) (sym (take-append-drop k rs)) ∙ filter-append (λ r. is_found t r) (take k rs) (drop k rs)

records_front : (keys : List Field) (t : Tests) (rs : List Record) (k : ℕ)
    → length (parted (map (record_text keys) (found t (take k rs)))) ≤ length (parted (map (record_text keys) (found t rs)))
records_front keys t rs k =
    let whole : map (record_text keys) (found t rs) ≡ map (record_text keys) (found t (take k rs)) ++ map (record_text keys) (found t (drop k rs)) =
    ap (map (record_text keys)) (found_parts t rs k) ∙ map-append (record_text keys) (found t (take k rs)) (found t (drop k rs)) in
    omega (arith, ap (λ z. length (parted z)) whole, parted_front (map (record_text keys) (found t (take k rs))) (map (record_text keys) (found t (drop k rs))))

within : (front text rest close : List ℕ) → length text ≤ length rest → length (front ++ text) ≤ length (front ++ (rest ++ close))
within front text rest close h = omega (arith, h, length-append front text, length-append front (rest ++ close), length-append rest close)

passes_too : (limit m n : ℕ) → m ≤ n → nat_lt limit m ≡ true → nat_lt limit n ≡ true
passes_too limit m n le h = grind (arith, nat_tests, h)

by_content : (n : ℕ) (b : Bool) → nat_lt 16777216 n ≡ b → ((nat_lt 16777216 n || nat_lt 33000000 (n + 0)) || false) ≡ nat_lt 16777216 n
by_content n true h = rw h refl
by_content n false h =
    let small : nat_lt 33000000 (n + 0) ≡ false = grind (arith, nat_tests, h) in
    rw (h, small) refl

-- an answer without buffers passes the limits by its content alone
pub limit_of_content : (content : List ℕ) → is_too_long (plain content) ≡ nat_lt 16777216 (length content)
limit_of_content content = by_content (length content) (nat_lt 16777216 (length content)) refl

-- a beginning that passes the limit makes the whole too long
pub too_long : (keys : List Field) (t : Tests) (rs : List Record) (k : ℕ) → nat_lt 16777216 (length (listed keys (found t (take k rs))).text) ≡ true
    → is_too_long (plain (records_content keys (found t rs))) ≡ true
too_long keys t rs k h =
    let front = parted (map (record_text keys) (found t (take k rs))) in
    let all = parted (map (record_text keys) (found t rs)) in
    limit_of_content (records_content keys (found t rs))
    ∙ passes_too 16777216 (length (front_text ++ front)) (length (front_text ++ (all ++ end_text))) (within front_text front all end_text (records_front keys t rs k)) h

-- a beginning that is given up makes the whole pass the limits that it has to keep to
pub given_up : (is_limited : Bool) (keys : List Field) (t : Tests) (rs : List Record) (k : ℕ)
    → (is_limited && nat_lt 16777216 (length (listed keys (found t (take k rs))).text)) ≡ true → is_over is_limited (records_content keys (found t rs)) ≡ true
given_up is_limited keys t rs k h =
    let both = and_parts is_limited (nat_lt 16777216 (length (listed keys (found t (take k rs))).text)) h in
    let on : is_limited ≡ true = both.0 in
    let long : is_too_long (plain (records_content keys (found t rs))) ≡ true = too_long keys t rs k both.1 in
    rw (on, long) refl
