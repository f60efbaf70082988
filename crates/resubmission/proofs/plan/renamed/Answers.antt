use Rattle.std.proofs.Common.{◌≡◌, ◌<◌, ◌+◌, ◌++◌, ◌∷◌, [], length, take, get_or, map, arith, sym, ap, ◌∙◌, length-take-le}
use Rattle.std.proofs.lemmas.List.{take_more, map-append}
use Rattle.cluster_defs.specs.Texts.{resubmit_id}
use Rattle.cluster_defs.specs.Purges.{copies_from}
use Rattle.resubmission.specs.Plans.{copy_of}
use Rattle.resubmission.proofs.Copies.{copies_more}
use Rattle.resubmission.proofs.plan.renamed.Goals as goal

pub loop-place-preserved : goal.loop-place-preserved
loop-place-preserved c =
    let ids = c.args.ids.now in
    let place = c.loop-place.place in
    let id = c.id-item.result in
    let first = c.args.last + 1 in
    let front = take place ids in
    let same : c.as_slice-id-items.result.now ≡ ids = c.as_slice-id-items.ensures in
    let inside : place < length ids = omega (arith, ap length same) in
    let is : id ≡ get_or ids place id = c.id-item.is ∙ ap (λ z. get_or z place id) same in
    let one : take (place + 1) ids ≡ front ++ id ∷ [] = take_more ids place id inside ∙ ap (λ z. front ++ z ∷ []) (sym is) in
    let long : length front ≡ place = length-take-le place ids (omega arith) in
    let number : c.args.last + place + 1 ≡ first + length front = omega (arith, long) in
    let made : c.in_ok-new.new ≡ resubmit_id (first + length front) = c.in_ok-new.ensures ∙ ap resubmit_id number in
    let kept : c.in_ok-clone.field-0 ≡ id = c.in_ok-clone.ensures.cases in
    ap (map copy_of) c.in_ok-push.ensures.ok ∙ map-append copy_of c.loop-place.renamed _
    ∙ ap (λ z. z ++ record { old = c.in_ok-clone.field-0; new = c.in_ok-new.new } ∷ []) c.loop-place.invariant
    ∙ ap (λ z. copies_from first front ++ record { old = z; new = c.in_ok-new.new } ∷ []) kept
    ∙ ap (λ z. copies_from first front ++ record { old = id; new = z } ∷ []) made
    ∙ sym (copies_more first front id) ∙ ap (copies_from first) (sym one)
