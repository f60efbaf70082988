-- Outcomes that are too heavy by themselves make an answer too long.
use Rattle.std.proofs.Common.{◌≡◌, ◌≤◌, ◌+◌, ℕ, List, [], ◌∷◌, ◌++◌, length, map, sum, flat_map, min, nat_lt, Bool, true, false, true≢false, ◌&&◌, ◌||◌, codes, decimal, refl, sym, ap, ◌∙◌, arith, length-append}
use Rattle.std.proofs.lemmas.Bool.Decides.{nat_tests}
use Rattle.std.proofs.lemmas.List.{map-append}
use Rattle.std.proofs.lemmas.List.Sums.{sum_by-append}
use Rattle.json.specs.Print.{quoted}
use Rattle.cluster_defs.specs.Texts.{parted, texts_list, engine_or_null, settled_member, result_content, Settled}
use Rattle.cluster_defs.specs.Words.{Id}
use Rattle.cluster_types.specs.declared.config.Channel.{Channel}
use Rattle.cluster_defs.specs.declared.answer.Answer.{Answer}
use Rattle.cluster_defs.specs.Queries.{refusal, is_hub, is_too_long, limited}
use Rattle.hub_queries.specs.declared.weights.Measure.{Measure}
use Rattle.hub_queries.specs.declared.weights.Measure.TheVariants.{Text, BufferCount, BufferOctets}
use Rattle.hub_queries.specs.Weights.{measure, weight, is_heavy}
use Rattle.std.proofs.lemmas.Bool.{and_parts}

pub weight_append : (by : Measure) (rs ss : List Settled) → weight by (rs ++ ss) ≡ weight by rs + weight by ss
weight_append by [] ss = let same : weight by ss ≡ 0 + weight by ss = omega arith in same
weight_append by (r ∷ rs) ss = let more = weight_append by rs ss in omega (arith, more)

pub saturated : (a b top : ℕ) → min (min a top + min b top) top ≡ min (a + b) top
saturated a b top = grind arith

member_long : (a h b m c k d e f : List ℕ) → length h + length m + length k ≤ length ((((((((a ++ h) ++ b) ++ m) ++ c) ++ k) ++ d) ++ e) ++ f)
member_long a h b m c k d e f = omega (
  arith,
  length-append a h,
  length-append (a ++ h) b,
  length-append ((a ++ h) ++ b) m,
  length-append (((a ++ h) ++ b) ++ m) c,
  length-append ((((a ++ h) ++ b) ++ m) ++ c) k,
  length-append (((((a ++ h) ++ b) ++ m) ++ c) ++ k) d,
  length-append ((((((a ++ h) ++ b) ++ m) ++ c) ++ k) ++ d) e,
  length-append (((((((a ++ h) ++ b) ++ m) ++ c) ++ k) ++ d) ++ e) f,
)

member_within : (r : Settled) → measure Text r.outcome ≤ length (settled_member r)
unfolding settled_member
member_within r =
    member_long
    (quoted r.id ++ codes ":{\"engine\":" ++ engine_or_null r.engine ++ codes ",\"verdict\":" ++ quoted r.verdict ++ codes ",\"cause\":" ++ quoted r.cause ++ codes ",\"header\":")
    r.outcome.header (codes ",\"metadata\":") r.outcome.metadata (codes ",\"content\":") r.outcome.content (codes ",\"buffers\":") (decimal (length r.outcome.buffers)) (codes "}")

rest_within : (rs : List Settled) → weight Text rs ≤ length (flat_map (λ p. 44 ∷ p) (map settled_member rs))
rest_within [] = omega arith
rest_within (r ∷ rs) = omega (arith, member_within r, rest_within rs, length-append (44 ∷ settled_member r) (flat_map (λ p. 44 ∷ p) (map settled_member rs)))

parted_within : (rs : List Settled) → weight Text rs ≤ length (parted (map settled_member rs))
parted_within [] = omega arith
parted_within (r ∷ rs) = omega (arith, member_within r, rest_within rs, length-append (settled_member r) (flat_map (λ p. 44 ∷ p) (map settled_member rs)))

content_long : (a b c : List ℕ) → length b ≤ length ((a ++ (123 ∷ (b ++ 125 ∷ []))) ++ c)
content_long a b c = omega (arith, length-append a (123 ∷ (b ++ 125 ∷ [])), length-append (a ++ (123 ∷ (b ++ 125 ∷ []))) c, length-append b (125 ∷ []))

text_within : (pending completed : List Id) (rs : List Settled) → weight Text rs ≤ length (result_content pending completed rs)
unfolding result_content
text_within pending completed rs =
    let inner : length (parted (map settled_member rs)) ≤ length (result_content pending completed rs) =
    content_long (codes "{\"status\":\"ok\",\"pending\":" ++ texts_list pending ++ codes ",\"completed\":" ++ texts_list completed ++ codes ",\"results\":") (parted (map settled_member rs)) (codes "}") in
    omega (arith, parted_within rs, inner)

count_is : (rs : List Settled) → weight BufferCount rs ≡ length (flat_map (λ r. r.outcome.buffers) rs)
count_is [] = refl
count_is (r ∷ rs) = omega (arith, count_is rs, length-append r.outcome.buffers (flat_map (λ r. r.outcome.buffers) rs))

sum_lengths : (xs ys : List (List ℕ)) → sum (map length (xs ++ ys)) ≡ sum (map length xs) + sum (map length ys)
sum_lengths xs ys = ap sum (map-append length xs ys) ∙ sum_by-append (λ x. x) (map length xs) (map length ys)

octets_is : (rs : List Settled) → weight BufferOctets rs ≡ sum (map length (flat_map (λ r. r.outcome.buffers) rs))
octets_is [] = refl
octets_is (r ∷ rs) = omega (arith, octets_is rs, sum_lengths r.outcome.buffers (flat_map (λ r. r.outcome.buffers) rs))

or3 : (a b c x y z : Bool) → (a ≡ true → x ≡ true) → (b ≡ true → y ≡ true) → (c ≡ true → z ≡ true) → ((a || b) || c) ≡ true → ((x || y) || z) ≡ true
or3 true b c x y z f g h k = rw (f refl) refl
or3 false true c true y z f g h k = refl
or3 false true c false y z f g h k = rw (g refl) refl
or3 false false true true y z f g h k = refl
or3 false false true false true z f g h k = refl
or3 false false true false false z f g h k = h refl
or3 false false false x y z f g h k = absurd (true≢false (sym k))

more_passes : (limit m n : ℕ) → m ≤ n → nat_lt limit m ≡ true → nat_lt limit n ≡ true
more_passes limit m n le h = grind (arith, nat_tests, h)

pub heavy_is_long : (pending completed : List Id) (rs : List Settled) → is_heavy rs ≡ true
    → is_too_long (record { content = result_content pending completed rs; buffers = flat_map (λ r. r.outcome.buffers) rs }) ≡ true
heavy_is_long pending completed rs heavy =
    let content = result_content pending completed rs in
    let buffers = flat_map (λ r. r.outcome.buffers) rs in
    or3 (nat_lt 16777216 (weight Text rs)) (nat_lt 33000000 (weight BufferOctets rs)) (nat_lt 58 (weight BufferCount rs))
    (nat_lt 16777216 (length content)) (nat_lt 33000000 (length content + sum (map length buffers))) (nat_lt 58 (length buffers))
    (more_passes 16777216 (weight Text rs) (length content) (text_within pending completed rs))
    (more_passes 33000000 (weight BufferOctets rs) (length content + sum (map length buffers)) (omega (arith, octets_is rs)))
    (more_passes 58 (weight BufferCount rs) (length buffers) (omega (arith, count_is rs)))
    heavy

gives_way : (channel : Channel) (a : Answer) → is_hub channel ≡ true → is_too_long a ≡ true → refusal (codes "ReplyTooLong") [] [] ≡ limited channel a
gives_way channel a hub long = rw (hub, long) refl

-- an answer whose outcomes are too heavy gives way
pub heavy_gives_way : (channel : Channel) (pending completed : List Id) (rs : List Settled) → (is_hub channel && is_heavy rs) ≡ true
    → refusal (codes "ReplyTooLong") [] [] ≡ limited channel (record { content = result_content pending completed rs; buffers = flat_map (λ r. r.outcome.buffers) rs })
heavy_gives_way channel pending completed rs h =
    let parts = and_parts (is_hub channel) (is_heavy rs) h in
    gives_way channel (record { content = result_content pending completed rs; buffers = flat_map (λ r. r.outcome.buffers) rs }) parts.0 (heavy_is_long pending completed rs parts.1)
