use Rattle.std.proofs.Common.{◌≡◌, ◌+◌, ◌<◌, ◌^◌, suc, arith, sym, subst}
use Rattle.record_codec.specs.Spelling.{IsName}
use Rattle.controller_desk.specs.Ups.{ups}
use Rattle.link_messages.proofs.Named.{named}
use Rattle.controller_desk.proofs.Numbers.{next_is_free}
use Rattle.controller_desk.proofs.lent.open_on.Goals as goal

pub take_plain-requires-clause-taken : goal.take_plain-requires-clause-taken
take_plain-requires-clause-taken g c =
    let is = c.requires.counted in
    let next : c.args.last.now + 1 ≡ suc (ups c.args.store.now.history) = omega (arith, is) in
    rw (c.requires.set.begun, next) (next_is_free c.args.store.now.history c.requires.set.numbers)

pub take_plain-requires-clause-fits : goal.take_plain-requires-clause-fits
take_plain-requires-clause-fits g c =
    let most = c.requires.set.counted in
    let few = c.requires.set.entries in
    let is = c.requires.counted in
    let small : c.args.last.now + 1 < 2 ^ 32 = omega (arith, most, few, is) in
    (c.args.stamp.dated, subst IsName (sym (c.in_ok-identity.ensures)) (named _ c.args.identity.now small c.requires.identity))
