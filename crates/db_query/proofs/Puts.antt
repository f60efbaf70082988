-- The keys of an object, as it is written and as it is read.
use Rattle.std.proofs.Common.{◌≡◌, ℕ, List, Bool, true, false, ◌&&◌, Ordering, Less, Equal, Greater, nat_cmp, is_eq, refl, sym, ap, ◌∙◌}
use Rattle.std.proofs.lemmas.Map.Text.{is_eq-slice_cmp}
use Rattle.std.proofs.lemmas.Slice.Eq.{bytes_eq-Decides}
use Rattle.std.specs.Cmp.Lexicographic.{slice_cmp}
use Rattle.std.specs.Ordering.{match_ordering}
use Rattle.json.specs.Json as json
use Rattle.serde_json.specs.Data.{Data, Members, no_members, member, put}
use Rattle.jupyter_header.specs.Borrowed.{data_of, members}
use Rattle.cluster_defs.specs.FilterWords.{is_word}
use Rattle.db_query.specs.Members.{each_name, only_names}
use Rattle.cluster_defs.specs.FilterReadings.{each_key, has_only}
use Rattle.cluster_defs.specs.declared.filter.Vocabulary.{Vocabulary}

swapped : (a b c : Bool) → (a && (b && c)) ≡ (b && (a && c))
swapped true true c = refl
swapped true false c = refl
swapped false true c = refl
swapped false false c = refl

twice : (a b : Bool) → (a && b) ≡ (a && (a && b))
twice true b = refl
twice false b = refl

turned : (a b c : Bool) → (a && (b && c)) ≡ ((b && a) && c)
turned true true c = refl
turned true false c = refl
turned false true c = refl
turned false false c = refl

and_true : (b : Bool) → (b && true) ≡ b
and_true true = refl
and_true false = refl

put_at : (words : Vocabulary) (o : Ordering) (k l : List ℕ) (d e : Data) (ms : Members) → slice_cmp nat_cmp k l ≡ o
    → each_key words (put k d ms) ≡ (is_word words k && each_key words ms)
    → each_key words (match_ordering o (member k d (member l e ms)) (member l d ms) (member l e (put k d ms))) ≡ (is_word words k && (is_word words l && each_key words ms))
put_at words Less k l d e ms is later = refl
put_at words Equal k l d e ms is later =
    let same : k ≡ l = (bytes_eq-Decides k l).0 (sym (is_eq-slice_cmp k l) ∙ ap is_eq is) in
    twice (is_word words l) (each_key words ms) ∙ ap (λ z. is_word words z && (is_word words l && each_key words ms)) (sym same)
put_at words Greater k l d e ms is later = ap (λ b. is_word words l && b) later ∙ swapped (is_word words l) (is_word words k) (each_key words ms)

-- a member that is put at its key
put_key : (words : Vocabulary) (k : List ℕ) (d : Data) (ms : Members) → each_key words (put k d ms) ≡ (is_word words k && each_key words ms)
put_key words k d no_members = refl
put_key words k d (member l e ms) = put_at words _ k l d e ms refl (put_key words k d ms)

put_keys : (words : Vocabulary) (ms : json.Members) (found : Members) → each_key words (members ms found) ≡ (each_name words ms && each_key words found)
put_keys words json.no_members found = refl
put_keys words (json.member k j ms) found =
    put_keys words ms (put k (data_of j) found) ∙ ap (λ b. each_name words ms && b) (put_key words k (data_of j) found)
    ∙ turned (each_name words ms) (is_word words k) (each_key words found)

-- the names that are written are the keys that are read
named : (words : Vocabulary) (ms : json.Members) → each_name words ms ≡ each_key words (members ms no_members)
named words ms = sym (put_keys words ms no_members ∙ and_true (each_name words ms))

pub named_only : (words : Vocabulary) (j : json.Json) → has_only words (data_of j) ≡ only_names words j
named_only words json.null = refl
named_only words (json.boolean b) = refl
named_only words (json.number s) = refl
named_only words (json.string s) = refl
named_only words (json.array js) = refl
named_only words (json.object ms) = sym (named words ms)
