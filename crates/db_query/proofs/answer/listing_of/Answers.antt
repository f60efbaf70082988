use Rattle.std.proofs.Common.{◌≡◌, ◌<◌, ◌+◌, ◌^◌, ◌++◌, ◌&&◌, length, take, nat_lt, refl, inr, arith, sym, ap, ◌∙◌, length-take-le}
use Rattle.cluster_defs.specs.Filter.{found}
use Rattle.db_query.specs.Found.{found_one, listed, Listed}
use Rattle.db_query.proofs.Finds.{found_more, found_short}
use Rattle.db_query.proofs.Fronts.{given_up}
use Rattle.db_query.proofs.answer.listing_of.Goals as goal

pub loop-place-preserved : goal.loop-place-preserved
loop-place-preserved g c =
    let records = g.R.Records.records c.args.table.now in
    let asked = c.args.asked.now in
    let place = c.loop-place.place in
    let front = found asked.tests (take place records) in
    let many : c.count-place-end.result ≡ length records = c.count-place-end.ensures in
    let long : length (take place records) ≡ place = length-take-le place records (omega (arith, many)) in
    let short : length front + 1 < 2 ^ 64 = omega (arith, found_short asked.tests (take place records), long, many) in
    c.in_ok-add_found.ensures front short c.loop-place.invariant
    ∙ ap (λ o. listed asked.keys (front ++ found_one asked o)) c.at.ensures
    ∙ ap (listed asked.keys) (sym (found_more asked records place))

pub returns-then-gives_up-clause-err : goal.returns-then-gives_up-clause-err
returns-then-gives_up-clause-err g c =
    let records = g.R.Records.records c.args.table.now in
    let asked = c.args.asked.now in
    let place = c.loop-place.place in
    let front = found asked.tests (take place records) in
    let many : c.count-place-end.result ≡ length records = c.count-place-end.ensures in
    let long : length (take place records) ≡ place = length-take-le place records (omega (arith, many)) in
    let short : length front + 1 < 2 ^ 64 = omega (arith, found_short asked.tests (take place records), long, many) in
    let written : c.add_found.new.self ≡ listed asked.keys (found asked.tests (take (place + 1) records)) =
    c.in_ok-add_found.ensures front short c.loop-place.invariant
    ∙ ap (λ o. listed asked.keys (front ++ found_one asked o)) c.at.ensures
    ∙ ap (listed asked.keys) (sym (found_more asked records place)) in
    let octets : c.len.result ≡ length (listed asked.keys (found asked.tests (take (place + 1) records))).text = c.len.ensures ∙ ap (λ (l : Listed). length l.text) written in
    let test = ap (λ n. c.args.is_limited && nat_lt 16777216 n) octets in
    inr (refl, given_up c.args.is_limited asked.keys asked.tests records (place + 1) (sym test ∙ sym c.gives_up.ensures ∙ c.if-gives_up.true))
