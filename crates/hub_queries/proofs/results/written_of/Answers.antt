use Rattle.std.proofs.Common.{◌≡◌, ◌<◌, ◌+◌, ◌^◌, ◌++◌, ◌∷◌, [], ℕ, List, Option, length, take, get_or, filter_map, arith, sym, ap, ◌∙◌, length-take-le}
use Rattle.std.specs.Option.{option_and_then, option_to_list}
use Rattle.std.proofs.lemmas.List.{take_more}
use Rattle.cluster_defs.specs.Texts.{Settled}
use Rattle.cluster_defs.specs.RecordAnswers.{record_in, left_in}
use Rattle.hub_queries.specs.Results.{written_results}
use Rattle.hub_queries.proofs.Parts.{filter_map_more, filter_map_short}
use Rattle.hub_queries.proofs.results.written_of.Goals as goal

pub loop-id-preserved : goal.loop-id-preserved
loop-id-preserved g c =
    let ids = c.args.ids.now in
    let at = c.loop-id.id-index in
    let id = c.id-item.result in
    let left : List ℕ → Option Settled = λ i. option_and_then left_in (record_in (g.R.Records.records c.args.table.now) i) in
    let front = take at ids in
    let same : c.as_slice-id-items.result.now ≡ ids = c.as_slice-id-items.ensures in
    let inside : at < length ids = omega (arith, ap length same) in
    let is : id ≡ get_or ids at id = c.id-item.is ∙ ap (λ z. get_or z at id) same in
    let one : take (at + 1) ids ≡ front ++ id ∷ [] = take_more ids at id inside ∙ ap (λ z. front ++ z ∷ []) (sym is) in
    let long : length front ≡ at = length-take-le at ids (omega arith) in
    let short : length (filter_map left front) + 1 < 2 ^ 64 = omega (arith, filter_map_short left front, long) in
    c.in_ok-add_found.ensures (filter_map left front) short c.loop-id.invariant
    ∙ ap (λ o. written_results (filter_map left front ++ option_to_list (option_and_then left_in o))) c.find.ensures
    ∙ ap written_results (sym (filter_map_more left front id) ∙ ap (filter_map left) (sym one))
