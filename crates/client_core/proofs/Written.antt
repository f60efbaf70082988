-- The metadata of a task is the text of a JSON value.
use Rattle.std.proofs.Common.{◌≡◌, ℕ, Bool, true, false, List, [], ◌∷◌, ◌++◌, map, flat_map, codes, decimal, refl, sym, ap, ◌∙◌, append_assoc}
use Rattle.json.specs.Token.{Token, boolean}
use Rattle.json.specs.Json as json
use Rattle.json.specs.Print.{print, print_from, token_text, quoted, escape_byte}
use Rattle.json.specs.Tree.{json_tokens, items_tokens, members_tokens}
use Rattle.cluster_types.specs.declared.event.Dep.{Dep}
use Rattle.cluster_defs.specs.declared.content.SubmitMeta.{SubmitMeta}
use Rattle.cluster_defs.specs.Texts.{parted, texts_list}
use Rattle.client_core.specs.Messages.{flag_text, dependency_text, submit_metadata}

abbrev pub strings : List (List ℕ) → json.Items
strings [] = json.no_items
strings (text ∷ texts) = json.item (json.string text) (strings texts)

abbrev pub dependency_members : Dep → json.Members
dependency_members d =
    json.member (codes "dependencies") (json.array (strings d.ids))
    (json.member (codes "all") (json.boolean d.all) (json.member (codes "success") (json.boolean d.success) (json.member (codes "failure") (json.boolean d.failure) json.no_members)))

abbrev pub metadata_members : SubmitMeta → json.Members
metadata_members meta =
    json.member (codes "after") (json.object (dependency_members meta.after))
    (json.member (codes "follow") (json.object (dependency_members meta.follow))
    (json.member (codes "targets") (json.array (strings meta.targets))
    (json.member (codes "timeout") (json.number (decimal meta.timeout)) (json.member (codes "retries") (json.number (decimal meta.retries)) json.no_members))))

abbrev pub metadata_json : SubmitMeta → json.Json
metadata_json meta = json.object (metadata_members meta)

others : (texts : List (List ℕ)) (rest : List Token)
    → print_from true (items_tokens (strings texts) ++ rest) ≡ flat_map (λ piece. 44 ∷ piece) (map quoted texts) ++ (93 ∷ print_from true rest)
unfolding print_from
others [] rest = refl
others (text ∷ texts) rest =
    ap (λ t. 44 ∷ (quoted text ++ t)) (others texts rest)
    ∙ sym (append_assoc (44 ∷ quoted text) (flat_map (λ piece. 44 ∷ piece) (map quoted texts)) (93 ∷ print_from true rest))

listed : (texts : List (List ℕ)) (rest : List Token) → print_from false (items_tokens (strings texts) ++ rest) ≡ parted (map quoted texts) ++ (93 ∷ print_from true rest)
unfolding print_from
listed [] rest = refl
listed (text ∷ texts) rest =
    ap (λ t. quoted text ++ t) (others texts rest)
    ∙ sym (append_assoc (quoted text) (flat_map (λ piece. 44 ∷ piece) (map quoted texts)) (93 ∷ print_from true rest))

-- a list and what follows it
list_of : (texts : List (List ℕ)) (rest : List Token) → 91 ∷ print_from false (items_tokens (strings texts) ++ rest) ≡ texts_list texts ++ print_from true rest
list_of texts rest = ap (λ t. 91 ∷ t) (listed texts rest ∙ sym (append_assoc (parted (map quoted texts)) (93 ∷ []) (print_from true rest)))

flag_of : (b : Bool) → token_text (boolean b) ≡ flag_text b
flag_of true = refl
flag_of false = refl

-- a dependency and what follows it
dependency_of : (d : Dep) (rest : List Token) → 123 ∷ print_from false (members_tokens (dependency_members d) ++ rest) ≡ dependency_text d ++ print_from true rest
unfolding print_from escape_byte dependency_text
dependency_of d rest =
    let flags = members_tokens (json.member (codes "all") (json.boolean d.all) (json.member (codes "success") (json.boolean d.success) (json.member (codes "failure") (json.boolean d.failure) json.no_members))) in
    let ids : 91 ∷ print_from false ((items_tokens (strings d.ids) ++ flags) ++ rest) ≡ texts_list d.ids ++ print_from true (flags ++ rest) =
    ap (λ ts. 91 ∷ print_from false ts) (append_assoc (items_tokens (strings d.ids)) flags rest) ∙ list_of d.ids (flags ++ rest) in
    ap (λ t. codes "{\"dependencies\":" ++ t) ids
    ∙ simp (append_assoc, flag_of d.all, flag_of d.success, flag_of d.failure) refl

-- what stands behind `after`, behind `follow` and behind `targets`
abbrev numbers : SubmitMeta → json.Members
numbers meta = json.member (codes "timeout") (json.number (decimal meta.timeout)) (json.member (codes "retries") (json.number (decimal meta.retries)) json.no_members)

abbrev behind_follow : SubmitMeta → json.Members
behind_follow meta = json.member (codes "targets") (json.array (strings meta.targets)) (numbers meta)

abbrev behind_after : SubmitMeta → json.Members
behind_after meta = json.member (codes "follow") (json.object (dependency_members meta.follow)) (behind_follow meta)

numbers_of : (meta : SubmitMeta) → print_from true (members_tokens (numbers meta)) ≡ codes ",\"timeout\":" ++ (decimal meta.timeout ++ (codes ",\"retries\":" ++ (decimal meta.retries ++ codes "}")))
unfolding print_from escape_byte
numbers_of meta = refl

behind_follow_of : (meta : SubmitMeta) → print_from true (members_tokens (behind_follow meta)) ≡ codes ",\"targets\":" ++ (texts_list meta.targets ++ print_from true (members_tokens (numbers meta)))
unfolding print_from escape_byte
behind_follow_of meta = ap (λ t. codes ",\"targets\":" ++ t) (list_of meta.targets (members_tokens (numbers meta)))

behind_after_of : (meta : SubmitMeta) → print_from true (members_tokens (behind_after meta)) ≡ codes ",\"follow\":" ++ (dependency_text meta.follow ++ print_from true (members_tokens (behind_follow meta)))
unfolding print_from escape_byte
behind_after_of meta = ap (λ t. codes ",\"follow\":" ++ t) (dependency_of meta.follow (members_tokens (behind_follow meta)))

whole_of : (meta : SubmitMeta) → print (json_tokens (metadata_json meta)) ≡ codes "{\"after\":" ++ (dependency_text meta.after ++ print_from true (members_tokens (behind_after meta)))
unfolding print_from escape_byte
whole_of meta = ap (λ t. codes "{\"after\":" ++ t) (dependency_of meta.after (members_tokens (behind_after meta)))

grouped : (a b c d e f g h i j k : List ℕ) → a ++ b ++ c ++ d ++ e ++ f ++ g ++ h ++ i ++ j ++ k ≡ a ++ (b ++ (c ++ (d ++ (e ++ (f ++ (g ++ (h ++ (i ++ (j ++ k)))))))))
grouped a b c d e f g h i j k = simp append_assoc refl

-- the text is that of the value's tokens
pub printed : (meta : SubmitMeta) → submit_metadata meta ≡ print (json_tokens (metadata_json meta))
unfolding submit_metadata
printed meta =
    grouped (codes "{\"after\":") (dependency_text meta.after) (codes ",\"follow\":") (dependency_text meta.follow) (codes ",\"targets\":") (texts_list meta.targets) (codes ",\"timeout\":")
    (decimal meta.timeout) (codes ",\"retries\":") (decimal meta.retries) (codes "}")
    ∙ sym (whole_of meta ∙ ap (λ t. codes "{\"after\":" ++ (dependency_text meta.after ++ t))
    (behind_after_of meta ∙ ap (λ t. codes ",\"follow\":" ++ (dependency_text meta.follow ++ t))
    (behind_follow_of meta ∙ ap (λ t. codes ",\"targets\":" ++ (texts_list meta.targets ++ t)) (numbers_of meta))))
