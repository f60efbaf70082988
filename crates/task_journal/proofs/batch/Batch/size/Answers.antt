use Rattle.std.proofs.Common.{◌≡◌, ◌+◌, List, ℕ, length, drop, ap, arith}
use Rattle.cluster_types.specs.declared.entry.Entry.{Entry}
use Rattle.record_codec.specs.Records.{spellings}
use Rattle.task_journal.specs.Batch.{entries_in}
use Rattle.task_journal.proofs.Batches.{short_of}
use Rattle.task_journal.proofs.batch.Batch.size.Goals as goal

pub overflow_sub-result : goal.overflow_sub-result
overflow_sub-result c =
    let long = short_of c.self.inside.octets.items (entries_in c.self.inside.count (drop 9 c.self.inside.octets.items)) c.self.invariant.0 in
    omega (arith, long, c.len.ensures, c.self.inside.octets.ok.0)

pub returns : goal.returns
returns c =
    let long = short_of c.self.inside.octets.items (entries_in c.self.inside.count (drop 9 c.self.inside.octets.items)) c.self.invariant.0 in
    let same : length (spellings (entries_in c.self.inside.count (drop 9 c.self.inside.octets.items))) ≡ length (spellings c.args.self.now) = ap (λ (es : List Entry). length (spellings es)) c.self.view_is in
    omega (arith, long, same, c.len.ensures, c.self.inside.octets.ok.0)
