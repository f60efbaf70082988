use Rattle.std.proofs.Common.{◌++◌, map, take, get_or, string_bytes, ap, ◌∙◌, append_assoc, arith}
use Rattle.cluster_defs.specs.Texts.{parted}
use Rattle.jupyter_header.specs.Comma.{comma}
use Rattle.cluster_defs.specs.FilterContents.{field_member}
use Rattle.cluster_defs.specs.declared.filter.Field.TheVariants.{MsgId}
use Rattle.db_query.proofs.Firsts.{member_more}
use Rattle.db_query.proofs.listing.push_members.Goals as goal

pub loop-place-preserved : goal.loop-place-preserved
loop-place-preserved c =
    let keys = c.args.keys.now in
    let place = c.loop-place.place in
    let task = c.args.task.now in
    let old = string_bytes c.args.text.now in
    let front = parted (map (field_member task) (take place keys)) in
    let added = comma place ++ field_member task (get_or keys place MsgId) in
    c.in_ok-push_member.ensures ∙ ap (λ z. z ++ added) c.loop-place.invariant ∙ append_assoc old front added
    ∙ ap (λ z. old ++ z) (member_more task keys place MsgId (omega arith))
