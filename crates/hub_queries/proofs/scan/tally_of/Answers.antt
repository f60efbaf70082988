use Rattle.std.proofs.Common.{◌≡◌, ◌<◌, ◌+◌, ◌^◌, ◌++◌, length, take, Bool, arith, sym, ap, ◌∙◌, length-take-le}
use Rattle.cluster_types.specs.declared.record.Record.{Record}
use Rattle.cluster_defs.specs.RecordAnswers.{ids_where}
use Rattle.hub_queries.specs.Kinds.{is_kind}
use Rattle.resubmission.specs.Wheres.{id_if}
use Rattle.resubmission.proofs.Wheres.{where_more}
use Rattle.hub_queries.specs.Tallies.{tallied}
use Rattle.hub_queries.proofs.Wheres.{where_short}
use Rattle.hub_queries.proofs.scan.tally_of.Goals as goal

pub loop-place-preserved : goal.loop-place-preserved
loop-place-preserved g c =
    let records = g.R.Records.records c.args.table.now in
    let place = c.loop-place.place in
    let p : Record → Bool = λ r. is_kind c.args.kind r in
    let front = ids_where p (take place records) in
    let many : c.count-place-end.result ≡ length records = c.count-place-end.ensures in
    let long : length (take place records) ≡ place = length-take-le place records (omega (arith, many)) in
    let short : length front + 1 < 2 ^ 64 = omega (arith, where_short p (take place records), long, many) in
    c.in_ok-add_kind.ensures c.args.verbose front short c.loop-place.invariant
    ∙ ap (λ o. tallied c.args.verbose (front ++ id_if p o)) c.at.ensures
    ∙ ap (tallied c.args.verbose) (sym (where_more p records place))
