use Rattle.std.proofs.Common.{◌≡◌, ◌<◌, ◌+◌, ◌-◌, ◌^◌, ◌++◌, ◌∷◌, [], ℕ, List, Option, length, min, take, get_or, filter_map, arith, sym, ap, ◌∙◌}
use Rattle.std.specs.Option.{option_and_then, option_to_list}
use Rattle.std.proofs.lemmas.List.{take_more}
use Rattle.cluster_defs.specs.Texts.{Settled}
use Rattle.cluster_defs.specs.RecordAnswers.{record_in, left_in}
use Rattle.hub_queries.specs.Weights.{weight}
use Rattle.hub_queries.proofs.Parts.{filter_map_more}
use Rattle.hub_queries.proofs.Weighing.{weight_append, saturated}
use Rattle.hub_queries.proofs.weights.weight_of.Goals as goal

pub loop-id-preserved : goal.loop-id-preserved
loop-id-preserved g c =
    let ids = c.args.ids.now in
    let by = c.args.by in
    let at = c.loop-id.id-index in
    let id = c.id-item.result in
    let left : List ℕ → Option Settled = λ i. option_and_then left_in (record_in (g.R.Records.records c.args.table.now) i) in
    let front = filter_map left (take at ids) in
    let same : c.as_slice-id-items.result.now ≡ ids = c.as_slice-id-items.ensures in
    let inside : at < length ids = omega (arith, ap length same) in
    let is : id ≡ get_or ids at id = c.id-item.is ∙ ap (λ z. get_or z at id) same in
    let one : take (at + 1) ids ≡ take at ids ++ id ∷ [] = take_more ids at id inside ∙ ap (λ z. take at ids ++ z ∷ []) (sym is) in
    let more : filter_map left (take (at + 1) ids) ≡ front ++ option_to_list (left id) = ap (filter_map left) one ∙ filter_map_more left (take at ids) id in
    let told : c.measure_found.result ≡ min (weight by (option_to_list (left id))) (2 ^ 64 - 1) =
    c.measure_found.ensures ∙ ap (λ o. min (weight by (option_to_list (option_and_then left_in o))) (2 ^ 64 - 1)) c.find.ensures in
    let added : c.saturating_add-total.result ≡ min (c.loop-id.total + c.measure_found.result) (2 ^ 64 - 1) = c.saturating_add-total.ensures in
    added ∙ ap (λ n. min (n + c.measure_found.result) (2 ^ 64 - 1)) c.loop-id.invariant ∙ ap (λ n. min (min (weight by front) (2 ^ 64 - 1) + n) (2 ^ 64 - 1)) told
    ∙ saturated (weight by front) (weight by (option_to_list (left id))) (2 ^ 64 - 1)
    ∙ ap (λ n. min n (2 ^ 64 - 1)) (sym (weight_append by front (option_to_list (left id)))) ∙ ap (λ z. min (weight by z) (2 ^ 64 - 1)) (sym more)
