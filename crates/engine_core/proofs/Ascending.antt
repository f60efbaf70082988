-- The user expressions of a request come by ascending name.
use Rattle.std.proofs.Common.{◌≡◌, ℕ, Bool, true, false, List, [], ◌∷◌, Option, Some, None, Result, Ok, Err, Ordering, Less, Equal, Greater, nat_cmp, refl, sym, ap, subst, ◌∙◌, codes, map, option_map, option_and_then, is_some, cond}
use Rattle.std.specs.Cmp.Lexicographic.{slice_cmp}
use Rattle.std.specs.List.{AllByRecursion}
use Rattle.std.specs.List.Sorted.{IsStrictlySortedBy}
use Rattle.std.specs.Ordering.{match_ordering, ordering_reverse}
use Rattle.std.specs.Str.{is_utf8}
use Rattle.std.proofs.lemmas.Cmp.{nat_list_cmp_total}
use Rattle.json.specs.Json as json
use Rattle.json.specs.Lex.{tokens}
use Rattle.serde_json.specs.Data.{Num, Data, Items, null, boolean, number, string, array, object, Members, no_members, member, put}
use Rattle.serde_json.specs.Find.{get, get_member, as_object, as_str}
use Rattle.serde_json.specs.Read.{of_json, of_items, of_members, number_of, max_depth, read}
use Rattle.cluster_defs.specs.declared.fault.ReadError.TheVariants.{NotObject}
use Rattle.cluster_defs.specs.Json.{Reading, reading_then, json_of, object_in, read_object}
use Rattle.cluster_defs.specs.Fields.{or_bad, flag_from}
use Rattle.engine_core.specs.declared.request.Expression.{Expression}
use Rattle.engine_core.specs.declared.request.ExecuteRequest.{ExecuteRequest}
use Rattle.engine_core.specs.Request.{code_from, expression, expression_in, expressions_of, expressions_in, expressions_from, execute_from, read_execute, names_of}

abbrev names_in : Members → List (List ℕ)
names_in no_members = []
names_in (member name value members) = name ∷ names_in members

abbrev Ascends : List (List ℕ) → Type 0
Ascends names = IsStrictlySortedBy (slice_cmp nat_cmp) names

abbrev Above : List ℕ → List (List ℕ) → Type 0
Above low names = AllByRecursion (λ name. slice_cmp nat_cmp low name ≡ Less) names

-- one more member among those that ascend
above_chosen : (low k m : List ℕ) (d e : Data) (ms more : Members) (o : Ordering) → slice_cmp nat_cmp low k ≡ Less → Above low (m ∷ names_in ms) → Above low (names_in more) → Above low (names_in (match_ordering o (member k d (member m e ms)) (member m d ms) (member m e more)))
above_chosen low k m d e ms more Less first above rest = (first, above)
above_chosen low k m d e ms more Equal first above rest = above
above_chosen low k m d e ms more Greater first above rest = (above.0, rest)

above_put : (low k : List ℕ) (d : Data) (ms : Members) → slice_cmp nat_cmp low k ≡ Less → Above low (names_in ms) → Above low (names_in (put k d ms))
above_put low k d no_members first above = (first, tt)
above_put low k d (member m e ms) first above =
    above_chosen low k m d e ms (put k d ms) (slice_cmp nat_cmp k m) first above (above_put low k d ms first above.1)

above_lower : (low m : List ℕ) (names : List (List ℕ)) → slice_cmp nat_cmp low m ≡ Less → Above m names → Above low names
above_lower low m [] first above = tt
above_lower low m (name ∷ names) first above =
    (nat_list_cmp_total.trans low m name first above.0, above_lower low m names first above.1)

turned : (k m : List ℕ) → slice_cmp nat_cmp k m ≡ Greater → slice_cmp nat_cmp m k ≡ Less
turned k m e = nat_list_cmp_total.antisymm m k ∙ ap ordering_reverse e

chosen : (k m : List ℕ) (d e : Data) (ms more : Members) (o : Ordering) → slice_cmp nat_cmp k m ≡ o → Ascends (m ∷ names_in ms) → (slice_cmp nat_cmp m k ≡ Less → Above m (names_in more)) → Ascends (names_in more) → Ascends (names_in (match_ordering o (member k d (member m e ms)) (member m d ms) (member m e more)))
unfolding IsStrictlySortedBy
chosen k m d e ms more Less is sorted above rest = ((is, above_lower k m (names_in ms) is sorted.0), sorted)
chosen k m d e ms more Equal is sorted above rest = sorted
chosen k m d e ms more Greater is sorted above rest = (above (turned k m is), rest)

put_ascends : (k : List ℕ) (d : Data) (ms : Members) → Ascends (names_in ms) → Ascends (names_in (put k d ms))
unfolding IsStrictlySortedBy
put_ascends k d no_members sorted = (tt, tt)
put_ascends k d (member m e ms) sorted =
    chosen k m d e ms (put k d ms) (slice_cmp nat_cmp k m) refl sorted (λ first. above_put m k d ms first sorted.0) (put_ascends k d ms sorted.1)

some_is : {B : Type 0} (a b : B) → ◌≡◌ {A = Option B} (Some a) (Some b) → a ≡ b
some_is a b e = cc

ok_same : (a b : List Expression) → ◌≡◌ {A = Reading (List Expression)} (Ok a) (Ok b) → a ≡ b
ok_same a b e = cc

list_same : (a b : List Expression) → ◌≡◌ {A = Option (List Expression)} (Some a) (Some b) → a ≡ b
list_same a b e = cc

expression_same : (a b : Expression) → ◌≡◌ {A = Option Expression} (Some a) (Some b) → a ≡ b
expression_same a b e = cc

data_same : (a b : Data) → ◌≡◌ {A = Option Data} (Some a) (Some b) → a ≡ b
data_same a b e = cc

request_same : (a b : ExecuteRequest) → ◌≡◌ {A = Reading ExecuteRequest} (Ok a) (Ok b) → a ≡ b
request_same a b e = cc

mapped : {A B : Type 0} (o : Option A) (f : A → B) (b : B) → option_map f o ≡ Some b → (a : A) × (o ≡ Some a) × (f a ≡ b)
mapped None f b e = cc
mapped (Some a) f b e = (a, refl, some_is (f a) b e)

-- what an `Option` went on with
went_on : {A B : Type 0} (o : Option A) (go : A → Option B) (b : B) → option_and_then go o ≡ Some b → (a : A) × (o ≡ Some a) × (go a ≡ Some b)
went_on None go b e = cc
went_on (Some a) go b e = (a, refl, e)

-- a value that some JSON text stands for
abbrev IsRead : Data → Type 0
IsRead d = (j : json.Json) × (of_json j ≡ Some d)

abbrev AreRead : Members → Type 0
AreRead no_members = Unit {0}
AreRead (member name value members) = IsRead value × AreRead members

read_chosen : (k m : List ℕ) (d e : Data) (ms more : Members) (o : Ordering) → IsRead d → AreRead (member m e ms) → AreRead more → AreRead (match_ordering o (member k d (member m e ms)) (member m d ms) (member m e more))
read_chosen k m d e ms more Less one all rest = (one, all)
read_chosen k m d e ms more Equal one all rest = (one, all.1)
read_chosen k m d e ms more Greater one all rest = (all.0, rest)

put_read : (k : List ℕ) (d : Data) (ms : Members) → IsRead d → AreRead ms → AreRead (put k d ms)
put_read k d no_members one all = (one, tt)
put_read k d (member m e ms) one all = read_chosen k m d e ms (put k d ms) (slice_cmp nat_cmp k m) one all (put_read k d ms one all.1)

some_same : (a b : Members) → ◌≡◌ {A = Option Members} (Some a) (Some b) → a ≡ b
some_same a b e = cc

-- the members of an object that is read ascend, and were read themselves
members_read : (js : json.Members) (found out : Members) → of_members js found ≡ Some out → Ascends (names_in found) → AreRead found → Ascends (names_in out) × AreRead out
members_read json.no_members found out e sorted all =
    let same = some_same found out e in
    (subst (λ ms. Ascends (names_in ms)) same sorted, subst AreRead same all)
members_read (json.member k j js) found out e sorted all =
    let went = went_on (of_json j) (λ d. of_members js (put k d found)) out e in
    members_read js (put k went.0 found) out went.2 (put_ascends k went.0 found sorted) (put_read k went.0 found (j, went.1) all)

object_members : (o : Option Members) (ms : Members) → option_map object o ≡ Some (object ms) → o ≡ Some ms
object_members None ms e = cc
object_members (Some found) ms e = cc

no_number : (o : Option Num) (ms : Members) → option_map number o ≡ Some (object ms) → ⊥
no_number None ms e = cc
no_number (Some n) ms e = cc

no_array : (o : Option Items) (ms : Members) → option_map array o ≡ Some (object ms) → ⊥
no_array None ms e = cc
no_array (Some n) ms e = cc

abbrev Good : Members → Type 0
Good ms = Ascends (names_in ms) × AreRead ms

object_read : (j : json.Json) (ms : Members) → of_json j ≡ Some (object ms) → Good ms
unfolding IsStrictlySortedBy
object_read json.null ms e = cc
object_read (json.boolean b) ms e = cc
object_read (json.number s) ms e = absurd (no_number (number_of s) ms e)
object_read (json.string s) ms e = cc
object_read (json.array js) ms e = absurd (no_array (of_items js) ms e)
object_read (json.object js) ms e = members_read js no_members ms (object_members (of_members js no_members) ms e) tt tt

found_chosen : (o : Ordering) (e v : Data) (rest : Option Data) → IsRead e → (rest ≡ Some v → IsRead v) → match_ordering o rest (Some e) rest ≡ Some v → IsRead v
found_chosen Less e v rest one more is = more is
found_chosen Equal e v rest one more is = subst IsRead (data_same e v is) one
found_chosen Greater e v rest one more is = more is

member_read : (k : List ℕ) (ms : Members) (v : Data) → AreRead ms → get_member k ms ≡ Some v → IsRead v
member_read k no_members v all e = cc
member_read k (member m d ms) v all e =
    found_chosen (slice_cmp nat_cmp k m) d v (get_member k ms) all.0 (member_read k ms v all.1) e

field_read : (k : List ℕ) (d v : Data) → IsRead d → get k d ≡ Some v → IsRead v
field_read k null v r e = cc
field_read k (boolean b) v r e = cc
field_read k (number n) v r e = cc
field_read k (string s) v r e = cc
field_read k (array ds) v r e = cc
field_read k (object ms) v r e = member_read k ms v (object_read r.0 ms r.1).1 e

-- expressions have the names of the members
one_expression : (name : List ℕ) (value : Data) (text : Option (List ℕ)) (e : Expression) → option_map (expression name) text ≡ Some e → e.name ≡ name
one_expression name value None e is = cc
one_expression name value (Some code) e is = sym (ap (λ (x : Expression). x.name) (expression_same (expression name code) e is))

names_same : (ms : Members) (es : List Expression) → expressions_of ms ≡ Some es → names_of es ≡ names_in ms
names_same no_members es e = ap names_of (sym (list_same [] es e))
names_same (member name value ms) es e =
    let first = went_on (expression_in name value) (λ x. option_map (λ rest. x ∷ rest) (expressions_of ms)) es e in
    let rest = mapped (expressions_of ms) (λ rest. first.0 ∷ rest) es first.2 in
    ap names_of (sym rest.2) ∙ ap (λ z. z ∷ names_of rest.0) (one_expression name value (as_str value) first.0 first.1) ∙ ap (λ z. name ∷ z) (names_same ms rest.0 rest.1)

object_ascends : (value : Data) (es : List Expression) → IsRead value → expressions_in value ≡ Some es → Ascends (names_of es)
object_ascends null es r e = cc
object_ascends (boolean b) es r e = cc
object_ascends (number n) es r e = cc
object_ascends (string s) es r e = cc
object_ascends (array ds) es r e = cc
object_ascends (object ms) es r e = subst Ascends (sym (names_same ms es e)) (object_read r.0 ms r.1).0

bad_ok : (field : List ℕ) (o : Option (List Expression)) (es : List Expression) → or_bad field o ≡ Ok es → o ≡ Some es
bad_ok field None es e = cc
bad_ok field (Some found) es e = cc

field_ascends : (field : List ℕ) (o : Option Data) (es : List Expression) → ((value : Data) → o ≡ Some value → IsRead value) → expressions_from field o ≡ Ok es → Ascends (names_of es)
unfolding IsStrictlySortedBy
field_ascends field None es r e = subst (λ z. Ascends (names_of z)) (ok_same [] es e) tt
field_ascends field (Some value) es r e = object_ascends value es (r value refl) (bad_ok field (expressions_in value) es e)

-- what a reading went on with
read_on : {A B : Type 0} (r : Reading A) (go : A → Reading B) (b : B) → reading_then r go ≡ Ok b → (a : A) × (r ≡ Ok a) × (go a ≡ Ok b)
read_on (Ok a) go b e = (a, refl, e)
read_on (Err fault) go b e = cc

-- a text's value was read
read_when : (b : Bool) (o : Option Data) (value : Data) → cond b o None ≡ Some value → o ≡ Some value
read_when true o value e = e
read_when false o value e = cc

text_read : (octets : List ℕ) (value : Data) → json_of octets ≡ Some value → IsRead value
text_read octets value e =
    let went = went_on (option_and_then (λ p. json.if_last p.0 p.1) (json.value max_depth (tokens octets))) of_json value (read_when (is_utf8 octets) (read octets) value e) in
    (went.0, went.2)

kept : (b : Bool) (found value : Data) → ◌≡◌ {A = Reading Data} (cond b (Ok found) (Err NotObject)) (Ok value) → found ≡ value
kept true found value e = cc
kept false found value e = cc

object_of : (o : Option Data) (value : Data) → object_in o ≡ Ok value → o ≡ Some value
object_of None value e = cc
object_of (Some found) value e = ap Some (kept (is_some (as_object found)) found value e)

-- the fields of a request, one after another
abbrev request_of : List ℕ → Bool → Bool → List Expression → ExecuteRequest
request_of code silent store_history es = record { code = code; silent = silent; store_history = store_history; user_expressions = es }

abbrev with_expressions : Data → List ℕ → Bool → Bool → Reading ExecuteRequest
with_expressions value code silent store_history =
    reading_then (expressions_from (codes "user_expressions") (get (codes "user_expressions") value)) (λ es. Ok (request_of code silent store_history es))

abbrev with_history : Data → List ℕ → Bool → Reading ExecuteRequest
with_history value code silent = reading_then (flag_from (codes "store_history") true (get (codes "store_history") value)) (with_expressions value code silent)

abbrev with_silence : Data → List ℕ → Reading ExecuteRequest
with_silence value code = reading_then (flag_from (codes "silent") false (get (codes "silent") value)) (with_history value code)

request_ascends : (value : Data) (request : ExecuteRequest) → IsRead value → execute_from value ≡ Ok request → Ascends (names_of request.user_expressions)
request_ascends value request r e =
    let code = read_on (code_from (codes "code") (get (codes "code") value)) (with_silence value) request e in
    let silent = read_on (flag_from (codes "silent") false (get (codes "silent") value)) (with_history value code.0) request code.2 in
    let history = read_on (flag_from (codes "store_history") true (get (codes "store_history") value)) (with_expressions value code.0 silent.0) request silent.2 in
    let field = expressions_from (codes "user_expressions") (get (codes "user_expressions") value) in
    let es = read_on field (λ es. Ok (request_of code.0 silent.0 history.0 es)) request history.2 in
    let same = request_same (request_of code.0 silent.0 history.0 es.0) request es.2 in
    subst (λ (z : ExecuteRequest). Ascends (names_of z.user_expressions)) same
    (field_ascends (codes "user_expressions") (get (codes "user_expressions") value) es.0 (λ v found. field_read (codes "user_expressions") value v r found) es.1)

pub names_ascend : (content : List ℕ) (request : ExecuteRequest) → read_execute content ≡ Ok request → IsStrictlySortedBy (slice_cmp nat_cmp) (names_of request.user_expressions)
unfolding read_execute
names_ascend content request e =
    let object = read_on (read_object content) execute_from request e in
    request_ascends object.0 request (text_read content object.0 (object_of (json_of content) object.0 object.1)) object.2
