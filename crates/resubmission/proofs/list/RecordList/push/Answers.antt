use Rattle.std.proofs.Common.{is_ok, subst, sym}
use Rattle.cluster_types.specs.Records.{AreRecords}
use Rattle.resubmission.proofs.Pushes.{kept_or_pushed}
use Rattle.resubmission.proofs.list.RecordList.push.Goals as goal

pub invariant_of-self : goal.invariant_of-self
invariant_of-self c = record {
  sound = subst AreRecords (sym c.push.ensures.items) (kept_or_pushed (is_ok c.push.result) c.args.self.now.items.items c.args.task c.args.self.now.sound (sym c.if-not-takes.ensures));
}
