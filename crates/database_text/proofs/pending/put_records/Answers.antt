use Rattle.std.proofs.Common.{◌+◌, drop, arith}
use Rattle.record_codec.specs.Records.{spellings}
use Rattle.database_text.proofs.WrittenFronts.{sent_more, sent_some, record_off}
use Rattle.database_text.proofs.pending.put_records.Goals as goal
use Rattle.cluster_types.proofs.Options.{at_err}

pub returns-in_err-put_full-clause-err : goal.returns-in_err-put_full-clause-err
returns-in_err-put_full-clause-err g c =
    at_err _ (sent_some c.loop-entry.invariant.sent c.write_entry.new.into.items (spellings (drop (c.loop-entry.entry-index + 1) c.args.entries.now)) (g.K.Sink.written c.put_full.new.output)
    (record_off c.args.entries.now c.loop-entry.entry-index c.entry-item.result c.loop-entry.pending.items c.write_entry.new.into.items (omega arith) c.entry-item.is c.in_ok-write_entry.ensures.«record»)
    c.in_err-put_full.ensures.err)

pub loop-entry-preserved : goal.loop-entry-preserved
loop-entry-preserved g c = record {
  sent = sent_more c.loop-entry.invariant.sent c.write_entry.new.into.items c.put_full.new.pending.items (spellings (drop (c.loop-entry.entry-index + 1) c.args.entries.now)) (g.K.Sink.written c.put_full.new.output)
      (record_off c.args.entries.now c.loop-entry.entry-index c.entry-item.result c.loop-entry.pending.items c.write_entry.new.into.items (omega arith) c.entry-item.is c.in_ok-write_entry.ensures.«record»)
      c.in_ok-put_full.ensures.ok;
  later = omega (arith, c.in_ok-put_full.ensures.later);
}
