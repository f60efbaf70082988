-- A borrowed value and its data: how a text is read, and what a look-up finds.
use Rattle.std.proofs.Common.{◌≡◌, ℕ, negsuc, List, [], ◌∷◌, Bool, true, false, true≢false, cond, ◌&&◌, Option, Some, None, is_some, unwrap_or, option_map, option_and_then, bytes_eq, nat_lt, nat_le, ◌^◌, Float, Bor, refl, sym, ap, ◌∙◌}
use Rattle.std.proofs.lemmas.Slice.Eq.{bytes_eq-Decides}
use Rattle.std.specs.Float.{binary64, float_is_finite}
use Rattle.fast_float.specs.Text.{Parts, digits_of, nearest}
use Rattle.json.specs.Json as json
use Rattle.json.specs.Lex.{tokens}
use Rattle.json.specs.Token.{Token}
use Rattle.json.specs.Find as look
use Rattle.json.specs.Value.{value_view}
use Rattle.json.specs.declared.value.Value.{Value}
use Rattle.serde_json.specs.Data.{Num, negative, float, Data, number, array, object, Items, item, Members, no_members, put}
use Rattle.serde_json.specs.Find.{get, get_member, as_null, as_bool, as_str, as_u64}
use Rattle.serde_json.specs.Read.{number_of, number_from, is_integer, of_json, of_items, of_members, max_depth, read}
use Rattle.serde_json.proofs.Views.{get_member-put, get_member-put_other}
use Rattle.cluster_defs.specs.Fields.{whole_in}
use Rattle.jupyter_header.specs.Borrowed.{data_of, items, members, in_range, items_in_range, members_in_range, view}

-- a reading that is refused where something is out of range
abbrev pub kept : {A : Type 0} → Bool → A → Option A
kept true value = Some value
kept false value = None

of_number : (read : Option Num) (default : Num) → option_map number read ≡ kept (is_some read) (number (unwrap_or read default))
of_number None default = refl
of_number (Some n) default = refl

under : {A B : Type 0} (f : A → B) (b : Bool) (a : A) → option_map f (kept b a) ≡ kept b (f a)
under f true a = refl
under f false a = refl

one_more : (b c : Bool) (d : Data) (ds : Items) → option_and_then (λ x. option_map (item x) (kept c ds)) (kept b d) ≡ kept (b && c) (item d ds)
one_more true c d ds = under (item d) c ds
one_more false c d ds = refl

put_in : (b c : Bool) (d : Data) (rest : Data → Option Members) (all : Members) → rest d ≡ kept c all → option_and_then rest (kept b d) ≡ kept (b && c) all
put_in true c d rest all h = h
put_in false c d rest all h = refl

mutual
  pub read_as : (j : json.Json) → of_json j ≡ kept (in_range j) (data_of j)
  read_as json.null = refl
  read_as (json.boolean b) = refl
  read_as (json.number s) = of_number (number_of s) _
  read_as (json.string s) = refl
  read_as (json.array js) = ap (option_map array) (items_read_as js) ∙ under array (items_in_range js) (items js)
  read_as (json.object ms) = ap (option_map object) (members_read_as ms no_members) ∙ under object (members_in_range ms) (members ms no_members)

  pub items_read_as : (js : json.Items) → of_items js ≡ kept (items_in_range js) (items js)
  items_read_as json.no_items = refl
  items_read_as (json.item j js) = rw (read_as j, items_read_as js) (one_more (in_range j) (items_in_range js) (data_of j) (items js))

  pub members_read_as : (ms : json.Members) (found : Members) → of_members ms found ≡ kept (members_in_range ms) (members ms found)
  members_read_as json.no_members found = refl
  members_read_as (json.member k j ms) found =
      rw (read_as j) (put_in (in_range j) (members_in_range ms) (data_of j) (λ d. of_members ms (put k d found)) (members ms (put k (data_of j) found)) (members_read_as ms (put k (data_of j) found)))

-- what is found in the later members, or else before
abbrev pub or_before : Option Data → Option Data → Option Data
or_before None before = before
or_before (Some d) before = Some d

found_at : (q k : List ℕ) (j : json.Json) (found : Members) (b : Bool) → bytes_eq k q ≡ b → get_member q (put k (data_of j) found) ≡ or_before (option_map data_of (cond b (Some j) None)) (get_member q found)
found_at q k j found true same = let is : k ≡ q = (bytes_eq-Decides k q).0 same in rw (← is) (get_member-put k (data_of j) found)
found_at q k j found false other = get_member-put_other q k (data_of j) found (λ is. differ is other) where
  differ : q ≡ k → bytes_eq k q ≡ false → ⊥
  differ is apart = absurd (true≢false (sym ((bytes_eq-Decides k q).1 (sym is)) ∙ apart))

later : (o : Option json.Json) (here : Option json.Json) (before : Option Data) → or_before (option_map data_of o) (or_before (option_map data_of here) before) ≡ or_before (option_map data_of (look.later_or o here)) before
later None here before = refl
later (Some j) here before = refl

pub get_members : (q : List ℕ) (ms : json.Members) (found : Members) → get_member q (members ms found) ≡ or_before (option_map data_of (look.get_member q ms)) (get_member q found)
get_members q json.no_members found = refl
get_members q (json.member k j ms) found =
    get_members q ms (put k (data_of j) found)
    ∙ ap (or_before (option_map data_of (look.get_member q ms))) (found_at q k j found (bytes_eq k q) refl)
    ∙ later (look.get_member q ms) (cond (bytes_eq k q) (Some j) None) (get_member q found)

nothing_before : (o : Option Data) → or_before o None ≡ o
nothing_before None = refl
nothing_before (Some d) = refl

pub get_data_of : (q : List ℕ) (j : json.Json) → get q (data_of j) ≡ option_map data_of (look.get q j)
get_data_of q json.null = refl
get_data_of q (json.boolean b) = refl
get_data_of q (json.number s) = refl
get_data_of q (json.string s) = refl
get_data_of q (json.array js) = refl
get_data_of q (json.object ms) = get_members q ms no_members ∙ nothing_before _

viewed : {A : Type 0} (r : Option (Bor (Value A))) → option_map (λ v. view v.now) r ≡ option_map data_of (option_map (λ v. value_view v.now) r)
viewed None = refl
viewed (Some v) = refl

-- what `get` finds
pub found : {A : Type 0} (r : Option (Bor (Value A))) (q : List ℕ) (j : json.Json) → option_map (λ v. value_view v.now) r ≡ look.get q j → option_map (λ v. view v.now) r ≡ get q (data_of j)
found r q j h = viewed r ∙ ap (option_map data_of) h ∙ sym (get_data_of q j)

pub text_of : (j : json.Json) → as_str (data_of j) ≡ look.as_str j
text_of json.null = refl
text_of (json.boolean b) = refl
text_of (json.number s) = refl
text_of (json.string s) = refl
text_of (json.array js) = refl
text_of (json.object ms) = refl

pub flag_of : (j : json.Json) → as_bool (data_of j) ≡ look.as_bool j
flag_of json.null = refl
flag_of (json.boolean b) = refl
flag_of (json.number s) = refl
flag_of (json.string s) = refl
flag_of (json.array js) = refl
flag_of (json.object ms) = refl

pub null_of : (j : json.Json) → is_some (as_null (data_of j)) ≡ look.is_null j
null_of json.null = refl
null_of (json.boolean b) = refl
null_of (json.number s) = refl
null_of (json.string s) = refl
null_of (json.array js) = refl
null_of (json.object ms) = refl

whole_of : (read : Option Num) → as_u64 (unwrap_or read (negative (negsuc 0))) ≡ option_and_then as_u64 read
whole_of None = refl
whole_of (Some n) = refl

-- the whole number that a value is
pub whole_in_number : (s : List ℕ) → whole_in (data_of (json.number s)) ≡ option_and_then as_u64 (number_of s)
whole_in_number s = whole_of (number_of s)

negative_whole : (b : Bool) (n : Num) (x : Option Num) → as_u64 n ≡ None → option_and_then as_u64 x ≡ None → option_and_then as_u64 (cond b (Some n) x) ≡ None
negative_whole true n x h k = h
negative_whole false n x h k = k

float_whole : (b : Bool) (x : Float) → option_and_then as_u64 (cond b (Some (float x)) None) ≡ None
float_whole true x = refl
float_whole false x = refl

-- a numeral with a sign writes no whole number
pub below_zero : (p : Parts) → option_and_then as_u64 (number_from true p) ≡ None
below_zero p = negative_whole (is_integer p && nat_lt 0 (digits_of p) && nat_le (digits_of p) (2 ^ 63)) _ _ refl (float_whole (float_is_finite (nearest binary64 true p)) (nearest binary64 true p))

-- a text of one value
pub is_read : (text : List ℕ) (j : json.Json) → json.value max_depth (tokens text) ≡ Some (j, []) → in_range j ≡ true → read text ≡ Some (data_of j)
is_read text j h all = rw h (read_as j ∙ rw all refl)

pub out_of_range : (text : List ℕ) (j : json.Json) → json.value max_depth (tokens text) ≡ Some (j, []) → in_range j ≡ false → read text ≡ None
out_of_range text j h some = rw h (read_as j ∙ rw some refl)

pub goes_on : (text : List ℕ) (j : json.Json) (t : Token) (ts : List Token) → json.value max_depth (tokens text) ≡ Some (j, t ∷ ts) → read text ≡ None
goes_on text j t ts h = rw h refl

pub no_value : (text : List ℕ) → json.value max_depth (tokens text) ≡ None → read text ≡ None
no_value text h = rw h refl
