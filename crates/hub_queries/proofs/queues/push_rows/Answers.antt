use Rattle.std.proofs.Common.{◌≡◌, ◌<◌, ◌++◌, ◌∷◌, [], ℕ, List, length, take, get_or, flat_map, string_bytes, arith, sym, ap, ◌∙◌, append_assoc}
use Rattle.std.proofs.lemmas.List.{get_or-map, length-map}
use Rattle.cluster_defs.specs.Texts.{queue_member}
use Rattle.cluster_defs.specs.RecordAnswers.{queue_in}
use Rattle.hub_queries.specs.Rows.{row_of}
use Rattle.hub_queries.proofs.Parts.{flat_more}
use Rattle.hub_queries.proofs.queues.push_rows.Goals as goal

pub loop-row-preserved : goal.loop-row-preserved
loop-row-preserved c = λ verbose records numbers same.
    let at = c.loop-row.row-index in
    let row = c.row-item.result in
    let n = row.number in
    let old = string_bytes c.args.text.now in
    let member : ℕ → List ℕ = λ m. 44 ∷ queue_member verbose (queue_in records m) in
    let front = flat_map member (take at numbers) in
    let inside : at < length numbers = omega (arith, ap length same, length-map numbers (row_of verbose records)) in
    let is : row ≡ row_of verbose records (get_or numbers at n) =
    c.row-item.is ∙ ap (λ z. get_or z at row) same ∙ get_or-map (row_of verbose records) numbers at n row inside in
    let number : get_or numbers at n ≡ n = sym (ap (λ z. z.number) is) in
    let told : string_bytes c.in_ok-member.member ≡ queue_member verbose (queue_in records n) =
    c.in_ok-member.ensures verbose records (is ∙ ap (row_of verbose records) number) in
    let word : c.as_str.result.now ≡ queue_member verbose (queue_in records n) = c.as_str.ensures.value ∙ told in
    c.in_ok-push_str-2.ensures.bytes ∙ ap (λ z. string_bytes c.push_str.new.self ++ z) word
    ∙ ap (λ z. z ++ queue_member verbose (queue_in records n)) (c.in_ok-push_str.ensures.bytes ∙ ap (λ z. z ++ 44 ∷ []) (c.loop-row.invariant verbose records numbers same))
    ∙ append_assoc (old ++ front) (44 ∷ []) (queue_member verbose (queue_in records n)) ∙ append_assoc old front (member n)
    ∙ ap (λ z. old ++ z) (sym (flat_more member numbers at n inside number))
