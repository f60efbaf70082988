use Rattle.std.proofs.Common.{arith}
use Rattle.std.proofs.lemmas.Result.{err_from_is_err_and}
use Rattle.record_codec.specs.Reading.{blobs_at}
use Rattle.record_codec.proofs.Loops.{buffer_on, buffer_ends, buffers_done}
use Rattle.record_codec.proofs.message.buffers.Goals as goal

pub returns-in_err-buffer : goal.returns-in_err-buffer
returns-in_err-buffer c =
    let p = err_from_is_err_and c.from_residual.result c.from_residual.ensures.1 in
    rw (p.1, p.2) (buffer_ends c.in_err-buffer.field-0.0 c.loop.list c.args.count c.loop.counter c.loop.rest.now (blobs_at c.args.count c.args.octets.now) (omega arith) c.in_err-buffer.ensures c.loop.invariant)

pub loop-preserved : goal.loop-preserved
loop-preserved c =
    rw c.in_ok-push.ensures.ok (buffer_on c.loop.list c.args.count c.loop.counter c.loop.rest.now c.in_ok-buffer.buffer c.in_ok-buffer.after.now (blobs_at c.args.count c.args.octets.now) (omega arith) c.in_ok-buffer.ensures c.loop.invariant)

pub returns : goal.returns
returns c = buffers_done c.loop.list c.args.count c.loop.counter c.loop.rest.now (blobs_at c.args.count c.args.octets.now) (omega arith) c.loop.invariant
