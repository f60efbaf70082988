use Rattle.std.proofs.Common.{◌≡◌, ◌∙◌, sym, ap, subst}
use Rattle.cluster_types.specs.declared.config.Channel.{Channel}
use Rattle.cluster_types.specs.declared.message.Message.{Message}
use Rattle.cluster_defs.specs.Event.{event_of}
use Rattle.cluster_defs.specs.Connections.{channel_on}
use Rattle.cluster_defs.specs.Histories.{History, facts}
use Rattle.controller_desk.specs.Calls.{HasActed}
use Rattle.controller_desk.specs.Readings.{event_read}
use Rattle.controller_desk.proofs.Acting.{is_heard, has_entered}
use Rattle.controller_desk.proofs.lent.act_on.Goals as goal

pub returns-in-Ok-clause-acted : goal.returns-in-Ok-clause-acted
returns-in-Ok-clause-acted g c = let v = c.args.store.now in let r = c.in_ok-reading.reading in
    let live = ap (λ (h : History). channel_on (facts h).connections c.args.conn) (sym c.core.ensures.history) ∙ (sym c.channel_of.ensures ∙ c.in-Some.is) in
    let right = subst (λ (ch : Channel). event_read r.meaning ≡ event_of ch r.message) c.in_ok-reading.ensures.1 r.right.0 in
    let means = is_heard v.history c.args.conn c.in-Some.channel r.message r.meaning c.in-Ok.understood live right c.in-Ok.is in
    subst (λ (m : Message). HasActed v c.args.stamp.moment c.args.stamp.word c.args.conn m c.enter_on.result c.enter_on.new.store) c.in_ok-reading.ensures.0
    (has_entered v c.args.stamp.moment c.args.stamp.word c.args.conn r.message c.enter_on.result c.enter_on.new.store means c.enter_on.ensures.entered c.enter_on.ensures.tried)
