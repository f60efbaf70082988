use Rattle.std.proofs.Common.{◌≡◌, ◌≤◌, length, ap, arith, subst}
use Rattle.std.specs.Prelude.{IfOk}
use Rattle.record_codec.specs.Records.{spellings}
use Rattle.journal_standby.proofs.Shorts.{short_list}
use Rattle.standby_tests.proofs.standbys.list.Goals as goal

pub returns-clause-short : goal.returns-clause-short
returns-clause-short g c =
    let size = subst (λ r. IfOk r (λ list. length (spellings list) ≤ length c.expect-octets.result.items)) c.expect.ensures c.list_of.ensures.size in
    let items = subst (λ r. IfOk r (λ v. v.items ≡ c.args.octets.now)) c.expect-octets.ensures c.from_slice.ensures.items in
    short_list c.expect.result (omega (arith, size, ap length items, c.if-octets-gt2147483648.false))
