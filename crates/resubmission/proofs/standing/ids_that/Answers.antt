use Rattle.std.proofs.Common.{◌≡◌, ◌<◌, ◌+◌, ◌++◌, ◌∷◌, [], List, ℕ, Bool, length, take, get_or, filter, if◌then◌else◌, arith, sym, ap, ◌∙◌}
use Rattle.std.proofs.lemmas.List.{take_more}
use Rattle.std.proofs.lemmas.List.Elements.{filter-append}
use Rattle.cluster_defs.specs.RecordAnswers.{record_in}
use Rattle.resubmission.specs.Standings.{stands}
use Rattle.resubmission.proofs.standing.ids_that.Goals as goal

pub loop-id-preserved : goal.loop-id-preserved
loop-id-preserved g c =
    let ids = c.args.ids.now in
    let at = c.loop-id.id-index in
    let id = c.id-item.result in
    let p : List ℕ → Bool = λ i. stands c.args.standing (record_in (g.R.Records.records c.args.table.now) i) in
    let same : c.as_slice-id-items.result.now ≡ ids = c.as_slice-id-items.ensures in
    let inside : at < length ids = omega (arith, ap length same) in
    let is : id ≡ get_or ids at id = c.id-item.is ∙ ap (λ z. get_or z at id) same in
    let one : take (at + 1) ids ≡ take at ids ++ id ∷ [] = take_more ids at id inside ∙ ap (λ z. take at ids ++ z ∷ []) (sym is) in
    let wanted : c.stands-wanted.result ≡ p id = c.stands-wanted.ensures ∙ ap (stands c.args.standing) c.find.ensures in
    c.in_ok-push_if.ensures ∙ ap (λ z. z ++ (if c.stands-wanted.result then id ∷ [] else [])) c.loop-id.invariant
    ∙ ap (λ b. filter p (take at ids) ++ (if b then id ∷ [] else [])) wanted
    ∙ sym (filter-append p (take at ids) (id ∷ [])) ∙ ap (filter p) (sym one)
