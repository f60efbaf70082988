use Rattle.std.proofs.Common.{◌≡◌, ◌∷◌}
use Rattle.tape.specs.Spelling.{all_spelled}
use Rattle.quick_commands.specs.Generated.{generated}
use Rattle.quick_commands.proofs.Writing.{rest_fits, spelled_more}
use Rattle.quick_commands.proofs.generator.generate.Goals as goal

pub loop-octets-preserved : goal.loop-octets-preserved
loop-octets-preserved c =
    let whole = all_spelled (generated c.args.seed c.args.tasks) in
    let is : c.loop-octets.generator ≡ c.in-Some.record ∷ c.next.new.self = rw c.in-Some.is at c.in_ok-record.ensures.taken in
    record {
      written = rw c.in_ok-put.ensures (spelled_more c.loop-octets.octets.items whole c.in-Some.record c.next.new.self c.loop-octets.generator is c.loop-octets.invariant.written);
      fit = rest_fits c.in-Some.record c.next.new.self c.loop-octets.generator is c.loop-octets.invariant.fit;
    }
