-- Metadata that was written is read back.
use Rattle.std.proofs.Common.{◌≡◌, ◌<◌, ◌≤◌, ◌^◌, ◌&&◌, ◌==◌, not, ℕ, suc, Bool, true, false, List, [], ◌∷◌, ◌++◌, length, codes, decimal, Some, Ok, option_and_then, nat_le, arith, refl, sym, ap, ◌∙◌, append_assoc, append-nil}
use Rattle.std.specs.Char.{digit_value}
use Rattle.std.specs.Str.{is_utf8}
use Rattle.std.specs.Str.Parse.{AllDigits}
use Rattle.std.proofs.lemmas.Bool.{and_parts, and_from, leb-true, not_from_false, ne_eqb}
use Rattle.std.proofs.lemmas.Fmt.{decimal_is_IsNumeral}
use Rattle.json.specs.Json as json
use Rattle.json.specs.Lex.{tokens}
use Rattle.json.specs.Tree.{json_tokens, depth, items_depth, HasNumbers, ItemsHaveNumbers}
use Rattle.json.proofs.Printed.Decimals.{IsNumber-decimal}
use Rattle.json.proofs.Printed.Tokens.{tokens-print}
use Rattle.json.proofs.Printed.Trees.{value-json_tokens, ArePrintable-json_tokens}
use Rattle.serde_json.specs.Data.{Data, Items, no_items, item, no_members, array, object, string, boolean, number, unsigned, put}
use Rattle.serde_json.specs.Events.{items_len}
use Rattle.serde_json.specs.Read.{read, of_json, of_items, max_depth}
use Rattle.serde_json.proofs.Numbers.{number_of-decimal}
use Rattle.cluster_types.specs.declared.event.Dep.{Dep}
use Rattle.cluster_defs.specs.declared.content.SubmitMeta.{SubmitMeta}
use Rattle.cluster_defs.specs.Fields.{is_id, id_in, each_of}
use Rattle.cluster_defs.specs.Json.{read_object}
use Rattle.cluster_defs.specs.Points.{whole_timeouts}
use Rattle.cluster_defs.specs.Submit.{submit_from, read_submit, at_most_4096, dependency_from}
use Rattle.cluster_defs.specs.Texts.{texts_list}
use Rattle.client_core.specs.Limits.{are_ids, is_dependency, is_within_limits}
use Rattle.client_core.specs.Messages.{flag_text, dependency_text, submit_metadata, dependency_once, meta_once}
use Rattle.client_core.proofs.Fractions.{Passed, neither, letter, closed, keyless, behind, dotless, untouched}
use Rattle.client_core.proofs.Strings.{Calm, Calm-append, calm_list}
use Rattle.client_core.proofs.Written.{strings, dependency_members, metadata_json, printed}

-- THE TIMEOUT IS LEFT AS IT IS

-- the same from whatever was passed
three : (P : Passed → Type 0) → P neither → P letter → P closed → (s : Passed) → P s
three P a b c neither = a
three P a b c letter = b
three P a b c closed = c

abbrev Passes : List ℕ → Passed → Type 0
Passes xs s = (keyless s xs ≡ true) × (behind s xs ≡ neither)

calm_flag : (b : Bool) → Calm (flag_text b)
calm_flag true = record { passes = three (Passes (codes "true")) (refl, refl) (refl, refl) (refl, refl) }
calm_flag false = record { passes = three (Passes (codes "false")) (refl, refl) (refl, refl) (refl, refl) }

calm_ids : Calm (codes "{\"dependencies\":")
calm_ids = record { passes = three (Passes (codes "{\"dependencies\":")) (refl, refl) (refl, refl) (refl, refl) }

calm_all : Calm (codes ",\"all\":")
calm_all = record { passes = three (Passes (codes ",\"all\":")) (refl, refl) (refl, refl) (refl, refl) }

calm_success : Calm (codes ",\"success\":")
calm_success = record { passes = three (Passes (codes ",\"success\":")) (refl, refl) (refl, refl) (refl, refl) }

calm_failure : Calm (codes ",\"failure\":")
calm_failure = record { passes = three (Passes (codes ",\"failure\":")) (refl, refl) (refl, refl) (refl, refl) }

calm_brace : Calm (codes "}")
calm_brace = record { passes = three (Passes (codes "}")) (refl, refl) (refl, refl) (refl, refl) }

calm_after : Calm (codes "{\"after\":")
calm_after = record { passes = three (Passes (codes "{\"after\":")) (refl, refl) (refl, refl) (refl, refl) }

calm_follow : Calm (codes ",\"follow\":")
calm_follow = record { passes = three (Passes (codes ",\"follow\":")) (refl, refl) (refl, refl) (refl, refl) }

calm_targets : Calm (codes ",\"targets\":")
calm_targets = record { passes = three (Passes (codes ",\"targets\":")) (refl, refl) (refl, refl) (refl, refl) }

calm_comma : Calm (codes ",")
calm_comma = record { passes = three (Passes (codes ",")) (refl, refl) (refl, refl) (refl, refl) }

calm_dependency : (d : Dep) → Calm (dependency_text d)
unfolding dependency_text
calm_dependency d =
    Calm-append _ _ (Calm-append _ _ (Calm-append _ _ (Calm-append _ _ (Calm-append _ _ (Calm-append _ _ (Calm-append _ _ (Calm-append _ _
    calm_ids (calm_list d.ids)) calm_all) (calm_flag d.all)) calm_success) (calm_flag d.success)) calm_failure) (calm_flag d.failure)) calm_brace

-- the part before the name of the timeout, and the part from there on
abbrev front_of : SubmitMeta → List ℕ
front_of meta =
    codes "{\"after\":" ++ dependency_text meta.after ++ codes ",\"follow\":" ++ dependency_text meta.follow ++ codes ",\"targets\":" ++ texts_list meta.targets ++ codes ","

abbrev back_of : SubmitMeta → List ℕ
back_of meta = codes "\"timeout\":" ++ (decimal meta.timeout ++ (codes ",\"retries\":" ++ (decimal meta.retries ++ codes "}")))

split : (p d r : List ℕ) → p ++ codes ",\"timeout\":" ++ d ++ codes ",\"retries\":" ++ r ++ codes "}" ≡ (p ++ codes ",") ++ (codes "\"timeout\":" ++ (d ++ (codes ",\"retries\":" ++ (r ++ codes "}"))))
split p d r = simp append_assoc refl

calm_front : (meta : SubmitMeta) → Calm (front_of meta)
calm_front meta =
    Calm-append _ _ (Calm-append _ _ (Calm-append _ _ (Calm-append _ _ (Calm-append _ _ (Calm-append _ _
    calm_after (calm_dependency meta.after)) calm_follow) (calm_dependency meta.follow)) calm_targets) (calm_list meta.targets)) calm_comma

dotless-append : (xs ys : List ℕ) → dotless xs ≡ true → dotless ys ≡ true → dotless (xs ++ ys) ≡ true
dotless-append [] ys h k = k
dotless-append (x ∷ xs) ys h k =
    let both = and_parts (not (x == 46)) (dotless xs) h in
    and_from (not (x == 46)) (dotless (xs ++ ys)) both.0 (dotless-append xs ys both.1 k)

dotless_digits : (ds : List ℕ) → AllDigits 10 ds → dotless ds ≡ true
dotless_digits [] h = refl
dotless_digits (d ∷ ds) h =
    let digit : digit_value d < 10 = h.0 in
    and_from (not (d == 46)) (dotless ds) (not_from_false (d == 46) (ne_eqb d 46 (λ is. grind arith))) (dotless_digits ds h.1)

dotless_back : (meta : SubmitMeta) → meta.timeout < 2 ^ 64 → meta.retries < 2 ^ 64 → dotless (back_of meta) ≡ true
dotless_back meta t r =
    dotless-append (decimal meta.timeout) (codes ",\"retries\":" ++ (decimal meta.retries ++ codes "}")) (dotless_digits (decimal meta.timeout) (decimal_is_IsNumeral meta.timeout t).0.1)
    (dotless-append (decimal meta.retries) (codes "}") (dotless_digits (decimal meta.retries) (decimal_is_IsNumeral meta.retries r).0.1) refl)

timeout_kept : (meta : SubmitMeta) → meta.timeout < 2 ^ 64 → meta.retries < 2 ^ 64 → whole_timeouts (submit_metadata meta) ≡ submit_metadata meta
unfolding submit_metadata
timeout_kept meta t r =
    let same = split (codes "{\"after\":" ++ dependency_text meta.after ++ codes ",\"follow\":" ++ dependency_text meta.follow ++ codes ",\"targets\":" ++ texts_list meta.targets) (decimal meta.timeout) (decimal meta.retries) in
    ap whole_timeouts same ∙ untouched (front_of meta) (back_of meta) ((calm_front meta).passes neither).0 (dotless_back meta t r) ∙ sym same

-- THE VALUE THAT IS READ

abbrev texts_data : List (List ℕ) → Items
texts_data [] = no_items
texts_data (text ∷ texts) = item (string text) (texts_data texts)

texts_read : (texts : List (List ℕ)) → of_items (strings texts) ≡ Some (texts_data texts)
texts_read [] = refl
texts_read (text ∷ texts) = rw (texts_read texts) refl

abbrev dependency_data : Dep → Data
dependency_data d =
    object (put (codes "failure") (boolean d.failure) (put (codes "success") (boolean d.success) (put (codes "all") (boolean d.all) (put (codes "dependencies") (array (texts_data d.ids)) no_members))))

dependency_read : (d : Dep) → of_json (json.object (dependency_members d)) ≡ Some (dependency_data d)
dependency_read d = rw (texts_read d.ids) refl

abbrev metadata_data : SubmitMeta → Data
metadata_data meta =
    object (put (codes "retries") (number (unsigned meta.retries)) (put (codes "timeout") (number (unsigned meta.timeout)) (put (codes "targets") (array (texts_data meta.targets))
    (put (codes "follow") (dependency_data meta.follow) (put (codes "after") (dependency_data meta.after) no_members)))))

metadata_read : (meta : SubmitMeta) → meta.timeout < 2 ^ 64 → meta.retries < 2 ^ 64 → of_json (metadata_json meta) ≡ Some (metadata_data meta)
metadata_read meta t r =
    rw (dependency_read meta.after, dependency_read meta.follow, texts_read meta.targets, number_of-decimal meta.timeout t, number_of-decimal meta.retries r) refl

flat : (texts : List (List ℕ)) → items_depth (strings texts) ≡ 0
flat [] = refl
flat (text ∷ texts) = rw (flat texts) refl

numbers_flat : (texts : List (List ℕ)) → ItemsHaveNumbers (strings texts)
numbers_flat [] = tt
numbers_flat (text ∷ texts) = (tt, numbers_flat texts)

has_numbers : (meta : SubmitMeta) → meta.timeout < 2 ^ 64 → meta.retries < 2 ^ 64 → HasNumbers (metadata_json meta)
has_numbers meta t r =
    ((numbers_flat meta.after.ids, (tt, (tt, (tt, tt)))), ((numbers_flat meta.follow.ids, (tt, (tt, (tt, tt)))), (numbers_flat meta.targets, (IsNumber-decimal meta.timeout t, (IsNumber-decimal meta.retries r, tt)))))

shallow : (meta : SubmitMeta) → depth (metadata_json meta) ≤ max_depth
shallow meta = rw (flat meta.after.ids, flat meta.follow.ids, flat meta.targets) (omega arith)

text_read : (meta : SubmitMeta) → meta.timeout < 2 ^ 64 → meta.retries < 2 ^ 64 → read (submit_metadata meta) ≡ Some (metadata_data meta)
text_read meta t r =
    let ts = json_tokens (metadata_json meta) in
    let back : tokens (submit_metadata meta) ≡ ts ++ [] = ap tokens (printed meta) ∙ tokens-print ts (ArePrintable-json_tokens (metadata_json meta) (has_numbers meta t r)) ∙ sym (append-nil ts) in
    ap (λ o. option_and_then of_json (option_and_then (λ p. json.if_last p.0 p.1) o)) (ap (json.value max_depth) back ∙ value-json_tokens (metadata_json meta) max_depth [] (shallow meta))
    ∙ metadata_read meta t r

-- WHAT THE VALUE SAYS

ids_read : (texts : List (List ℕ)) → are_ids texts ≡ true → each_of id_in (texts_data texts) ≡ Some texts
ids_read [] h = refl
ids_read (text ∷ texts) h =
    let both = and_parts (is_id text) (are_ids texts) h in
    rw (both.0, ids_read texts both.1) refl

how_many : (texts : List (List ℕ)) → items_len (texts_data texts) ≡ length texts
how_many [] = refl
how_many (text ∷ texts) = ap suc (how_many texts)

few_ids : (texts : List (List ℕ)) → nat_le (length texts) 4096 ≡ true → are_ids texts ≡ true → at_most_4096 (texts_data texts) ≡ Some texts
few_ids texts few h = rw (how_many texts, few) (ids_read texts h)

dependency_said : (field : List ℕ) (d : Dep) → is_dependency d ≡ true → dependency_from field (Some (dependency_data d)) ≡ Ok (dependency_once d)
dependency_said field d h =
    let both = and_parts (nat_le (length d.ids) 4096) (are_ids d.ids) h in
    rw (few_ids d.ids both.0 both.1) refl

metadata_said : (meta : SubmitMeta) → is_within_limits meta ≡ true → submit_from (metadata_data meta) ≡ Ok (meta_once meta)
metadata_said meta h =
    let a = and_parts (is_dependency meta.after && is_dependency meta.follow && are_ids meta.targets && nat_le meta.timeout 1000000000) (nat_le meta.retries 1000) h in
    let b = and_parts (is_dependency meta.after && is_dependency meta.follow && are_ids meta.targets) (nat_le meta.timeout 1000000000) a.0 in
    let c = and_parts (is_dependency meta.after && is_dependency meta.follow) (are_ids meta.targets) b.0 in
    let d = and_parts (is_dependency meta.after) (is_dependency meta.follow) c.0 in
    rw (dependency_said (codes "after") meta.after d.0, dependency_said (codes "follow") meta.follow d.1, ids_read meta.targets c.1, b.1, a.1) refl

object_read : (meta : SubmitMeta) → is_utf8 (submit_metadata meta) ≡ true → meta.timeout < 2 ^ 64 → meta.retries < 2 ^ 64 → read_object (submit_metadata meta) ≡ Ok (metadata_data meta)
object_read meta utf8 t r = rw (utf8, text_read meta t r) refl

-- the metadata of a request reads as what was meant, with each id of a dependency once
pub reads_back : (meta : SubmitMeta) → is_within_limits meta ≡ true → is_utf8 (submit_metadata meta) ≡ true → read_submit (submit_metadata meta) ≡ Ok (meta_once meta)
unfolding read_submit
reads_back meta h utf8 =
    let a = and_parts (is_dependency meta.after && is_dependency meta.follow && are_ids meta.targets && nat_le meta.timeout 1000000000) (nat_le meta.retries 1000) h in
    let b = and_parts (is_dependency meta.after && is_dependency meta.follow && are_ids meta.targets) (nat_le meta.timeout 1000000000) a.0 in
    let low = leb-true meta.timeout 1000000000 b.1 in
    let few = leb-true meta.retries 1000 a.1 in
    let t : meta.timeout < 2 ^ 64 = omega (arith, low) in
    let r : meta.retries < 2 ^ 64 = omega (arith, few) in
    rw (timeout_kept meta t r, object_read meta utf8 t r) (metadata_said meta h)
