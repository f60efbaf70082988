use Rattle.std.proofs.Common.{sym, ◌∙◌, ap}
use Rattle.std.specs.Prelude.{option_map}
use Rattle.tape_drive.proofs.Found.{none_found, found_at, given_at}
use Rattle.cluster_types.specs.declared.config.Channel.{Channel}
use Rattle.zmtp_peer.specs.declared.phase.PeerFed.{PeerFed}
use Rattle.tape_drive.specs.Links.{link_on, given_on}
use Rattle.tape_drive.proofs.links.hear_on.Goals as goal

pub returns-in_default-clause-links : goal.returns-in_default-clause-links
returns-in_default-clause-links c =
    sym (none_found 0 c.args.conn c.args.octets.now c.args.links.now (sym c.place_of.ensures.place ∙ c.in_default.is)).1

pub returns-in_default-clause-given : goal.returns-in_default-clause-given
returns-in_default-clause-given c =
    sym (ap (given_on c.args.octets.now) (none_found 0 c.args.conn c.args.octets.now c.args.links.now (sym c.place_of.ensures.place ∙ c.in_default.is)).0)

pub returns-in-Some-2-clause-links : goal.returns-in-Some-2-clause-links
returns-in-Some-2-clause-links c =
    (found_at c.args.conn c.args.octets.now c.args.links.now c.index-links-place.result c.in-Some.place (sym c.place_of.ensures.place ∙ c.in-Some.is)).heard_at c.feed.new.self c.in_ok-fed.ensures.link

pub returns-in-Some-2-clause-given : goal.returns-in-Some-2-clause-given
returns-in-Some-2-clause-given c =
    let link = (found_at c.args.conn c.args.octets.now c.args.links.now c.index-links-place.result c.in-Some.place (sym c.place_of.ensures.place ∙ c.in-Some.is)).link in
    ap (option_map {U = Channel × PeerFed} (λ f. (c.channel-channel.result, f))) (sym c.in-Some-2.is)
    ∙ given_at c.args.octets.now (link_on c.args.links.now c.args.conn) _ c.channel-channel.result c.in_ok-fed.field-0 link c.channel-channel.ensures c.in_ok-fed.ensures.given

pub returns-in-None-clause-links : goal.returns-in-None-clause-links
returns-in-None-clause-links c =
    (found_at c.args.conn c.args.octets.now c.args.links.now c.index-links-place.result c.in-Some.place (sym c.place_of.ensures.place ∙ c.in-Some.is)).heard_at c.feed.new.self c.in_ok-fed.ensures.link

pub returns-in-None-clause-given : goal.returns-in-None-clause-given
returns-in-None-clause-given c =
    let link = (found_at c.args.conn c.args.octets.now c.args.links.now c.index-links-place.result c.in-Some.place (sym c.place_of.ensures.place ∙ c.in-Some.is)).link in
    ap (option_map {U = Channel × PeerFed} (λ f. (c.channel-channel.result, f))) (sym c.in-None.is)
    ∙ given_at c.args.octets.now (link_on c.args.links.now c.args.conn) _ c.channel-channel.result c.in_ok-fed.field-0 link c.channel-channel.ensures c.in_ok-fed.ensures.given
