use Rattle.std.proofs.Common.{◌≡◌, ◌≤◌, ◌++◌, false, reverse, length}
use Rattle.std.specs.Prelude.{map}
use Rattle.cluster_defs.specs.Histories.{History}
use Rattle.edges.specs.Keeping.{Keeps}
use Rattle.tape.specs.Spelling.{all_spelled}
use Rattle.tape_drive.specs.Served.{IsOnWay, HoldsSome, IsTouched}
use Rattle.tape_drive.specs.Steps.{stepped_all, fitting, full_at, AreTaken}
use Rattle.tape_drive.specs.Sends.{steps_send, sent_at}
use Rattle.tape_drive.proofs.drive.Drive.serve_inputs.Given as goal

-- where the history will have come to, what will be written, and at which size it is full, with what is left; and what was
-- made of the disk so far
abbrev pub invariant-loop-input : goal.invariant-loop-input
invariant-loop-input g l = record {
  taken : AreTaken (reverse l.inputs.items);
  full : full_at l.self.stand.limits l.self.stand.history (reverse l.inputs.items) ≡ full_at l.fn.self.stand.limits l.fn.self.stand.history (reverse l.fn.inputs.items);
  stand : record l.self.stand { history = stepped_all l.self.stand.history (fitting l.self.stand.limits l.self.stand.history (reverse l.inputs.items)) }
      ≡ record l.fn.self.stand { history = stepped_all l.fn.self.stand.history (fitting l.fn.self.stand.limits l.fn.self.stand.history (reverse l.fn.inputs.items)) };
  octets : l.into.items ++ all_spelled (map (sent_at l.moment) (steps_send l.key l.self.stand.links l.self.stand.history (fitting l.self.stand.limits l.self.stand.history (reverse l.inputs.items))))
      ≡ l.fn.into.items ++ all_spelled (map (sent_at l.moment) (steps_send l.key l.fn.self.stand.links l.fn.self.stand.history (fitting l.fn.self.stand.limits l.fn.self.stand.history (reverse l.fn.inputs.items))));
  kept : Keeps l.fn.into.items l.into.items;
  on_way : (h : History) → IsOnWay l.self.stand.limits l.self.stand.history (reverse l.inputs.items) h → IsOnWay l.fn.self.stand.limits l.fn.self.stand.history (reverse l.fn.inputs.items) h;
  any_moment : g.D.Disk.tells → l.fn.self.failed ≡ false → IsTouched g.D.Disk.moment g.D.Disk.image g.D.Disk.image_since l.fn.self.disk l.self.disk false (HoldsSome (IsOnWay l.fn.self.stand.limits l.fn.self.stand.history (reverse l.fn.inputs.items)));
  failed : l.self.failed ≡ l.fn.self.failed;
  later : g.D.Disk.faults l.fn.self.disk ≤ g.D.Disk.faults l.self.disk;
}

abbrev pub decreases-loop-input : goal.decreases-loop-input
decreases-loop-input g l = length l.inputs.items
