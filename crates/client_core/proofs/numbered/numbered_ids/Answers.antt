use Rattle.std.proofs.Common.{◌+◌, [], ◌∷◌, ◌++◌, refl, sym, ap₂, ◌∙◌}
use Rattle.std.proofs.lemmas.List.FromFn.{map-range_with_len_more}
use Rattle.client_core.specs.Numbers.{numbered_id}
use Rattle.client_core.proofs.numbered.numbered_ids.Goals as goal

pub loop-place-preserved : goal.loop-place-preserved
loop-place-preserved c =
    c.in_ok-push.ensures.ok
    ∙ ap₂ (λ ids id. ids ++ id ∷ []) c.loop-place.invariant c.in_ok-numbered_id.ensures
    ∙ sym (map-range_with_len_more numbered_id c.args.first c.loop-place.place (c.args.first + c.loop-place.place) refl)
