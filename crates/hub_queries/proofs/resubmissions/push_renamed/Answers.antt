use Rattle.std.proofs.Common.{◌≡◌, ◌<◌, ◌++◌, ℕ, List, length, take, map, get_or, string_bytes, arith, sym, ap, ◌∙◌, append_assoc}
use Rattle.cluster_defs.specs.Texts.{parted, text_member}
use Rattle.jupyter_header.specs.Comma.{comma}
use Rattle.resubmission.specs.Plans.{pair_of}
use Rattle.resubmission.specs.declared.plan.Renaming.{Renaming}
use Rattle.hub_queries.proofs.resubmissions.push_renamed.Goals as goal
use Rattle.jupyter_header.proofs.CommasMore.{members_more}

pub loop-place-preserved : goal.loop-place-preserved
loop-place-preserved c =
    let renamed = c.args.renamed.now in
    let place = c.loop-place.place in
    let one = c.renaming-item.result in
    let member : Renaming → List ℕ = λ r. text_member (pair_of r) in
    let old = string_bytes c.args.text.now in
    let front = parted (map member (take place renamed)) in
    let same : c.as_slice-renaming-items.result.now ≡ renamed = c.as_slice-renaming-items.ensures in
    let inside : place < length renamed = omega (arith, ap length same) in
    let is : one ≡ get_or renamed place one = c.renaming-item.is ∙ ap (λ z. get_or z place one) same in
    c.in_ok-push_renaming.ensures ∙ ap (λ z. z ++ (comma place ++ member one)) c.loop-place.invariant
    ∙ append_assoc old front (comma place ++ member one) ∙ ap (λ z. old ++ z) (sym (members_more member renamed place one inside is))
