use Rattle.std.proofs.Common.{◌≡◌, length}
use Rattle.arith_syntax.specs.Reading.{close}
use Rattle.arith_syntax.proofs.reader.Reader.close.Given as goal

abbrev pub invariant-loop-pending : goal.invariant-loop-pending
invariant-loop-pending l = close l.tight l.self.code l.self.waits ≡ close l.fn.tight l.fn.self.code l.fn.self.waits

abbrev pub decreases-loop-pending : goal.decreases-loop-pending
decreases-loop-pending l = length l.self.waits
