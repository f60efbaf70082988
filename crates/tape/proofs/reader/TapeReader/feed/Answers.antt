use Rattle.std.proofs.Common.{arith, ◌∙◌}
use Rattle.std.proofs.lemmas.List.{take_rest}
use Rattle.tape.proofs.Chunk.{tape_goes_on, records_go_on}
use Rattle.tape.proofs.reader.TapeReader.feed.Goals as goal

pub loop-at-preserved : goal.loop-at-preserved
loop-at-preserved c =
    let is = rw (take_rest c.args.piece.now c.loop-at.at) at c.in_ok-n.ensures.after in
    let list-is = rw (take_rest c.args.piece.now c.loop-at.at) at c.in_ok-n.ensures.records in
    record {
      within = omega (arith, c.in_ok-n.ensures.count.1);
      after = tape_goes_on c.loop-at.self c.take.new.self c.args.piece.now c.loop-at.at c.in_ok-n.n is ∙ c.loop-at.invariant.after;
      records = records_go_on c.loop-at.self c.take.new.self c.args.piece.now c.loop-at.at c.in_ok-n.n c.loop-at.list c.take.new.list is list-is ∙ c.loop-at.invariant.records;
      fits = c.in_ok-n.ensures.fits c.loop-at.invariant.fits;
    }
