use Rattle.std.proofs.Common.{◌++◌, drop, arith}
use Rattle.std.specs.List.{flat_map}
use Rattle.std.proofs.lemmas.List.Elements.{All-same, All-drop}
use Rattle.record_codec.specs.Spelling.{HasRecord}
use Rattle.database_text.specs.Compact.{open_batch, batches}
use Rattle.database_text.proofs.WrittenFronts.{sent_more, sent_some}
use Rattle.database_text.proofs.Takes.{batch_off, short_both, short_rest}
use Rattle.database_text.proofs.writing.put_batches.Goals as goal
use Rattle.cluster_types.proofs.Options.{at_err}

pub returns-in_err-put_batch-clause-err : goal.returns-in_err-put_batch-clause-err
returns-in_err-put_batch-clause-err g c =
    let batch = c.split_at.result.0.now in
    let behind = c.split_at.result.1.now in
    at_err _ (sent_some c.loop-rest.invariant.sent (c.loop-rest.pending.items ++ open_batch batch) (flat_map open_batch (batches behind)) (g.K.Sink.written c.put_batch.new.output)
    (batch_off c.loop-rest.rest.now batch behind c.first_batch.result c.first_batch.ensures.is c.split_at.ensures.front c.split_at.ensures.back c.loop-rest.pending.items) c.in_err-put_batch.ensures.err)

pub loop-rest-preserved : goal.loop-rest-preserved
loop-rest-preserved g c =
    let rest = c.loop-rest.rest.now in
    let batch = c.split_at.result.0.now in
    let behind = c.split_at.result.1.now in
    let n = c.first_batch.result in
    record {
      has = All-same HasRecord behind (drop n rest) c.split_at.ensures.back (All-drop HasRecord n rest c.loop-rest.invariant.has);
      sent = sent_more c.loop-rest.invariant.sent (c.loop-rest.pending.items ++ open_batch batch) c.put_batch.new.pending.items (flat_map open_batch (batches behind)) (g.K.Sink.written c.put_batch.new.output)
          (batch_off rest batch behind n c.first_batch.ensures.is c.split_at.ensures.front c.split_at.ensures.back c.loop-rest.pending.items) c.in_ok-put_batch.ensures.ok;
      short = λ others. c.loop-rest.invariant.short (short_both rest batch behind n c.first_batch.ensures.is c.split_at.ensures.front c.split_at.ensures.back c.in_ok-put_batch.ensures.short others);
      long = λ all. short_rest rest batch behind n c.first_batch.ensures.is c.split_at.ensures.front c.split_at.ensures.back (c.loop-rest.invariant.long all);
      later = omega (arith, c.in_ok-put_batch.ensures.later);
    }
