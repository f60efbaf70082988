use Rattle.std.proofs.Common.{◌++◌, ◌&&◌, is_some, not, take, Bool, sym, ap, ◌∙◌}
use Rattle.std.specs.Option.{option_copied}
use Rattle.cluster_types.specs.declared.record.Record.{Record}
use Rattle.cluster_defs.specs.RecordAnswers.{ids_where}
use Rattle.resubmission.specs.Wheres.{id_if}
use Rattle.resubmission.proofs.Wheres.{where_more}
use Rattle.resubmission.proofs.purge.kept_ids.Goals as goal

pub loop-place-preserved : goal.loop-place-preserved
loop-place-preserved g c =
    let records = g.R.Records.records c.args.table.now in
    let place = c.loop-place.place in
    let p : Record → Bool = λ r. is_some r.settled && not r.purged in
    c.in_ok-push_kept.ensures ∙ ap (λ z. z ++ id_if p (option_copied c.at.result)) c.loop-place.invariant
    ∙ ap (λ o. ids_where p (take place records) ++ id_if p o) c.at.ensures ∙ sym (where_more p records place)
