use Rattle.std.proofs.Common.{◌≡◌, ◌∙◌, ap, inr, subst}
use Rattle.std.specs.Arc.{arc_value}
use Rattle.controller_desk.specs.Contents.{content_of}
use Rattle.controller_threads.specs.Ends.{EndCause}
use Rattle.history_lock.specs.declared.known.Content.{Content}
use Rattle.history_lock.specs.declared.known.View.{View}
use Rattle.history_lock.specs.Names.{LockId, lock_id}
use Rattle.standing_commands.specs.Serving.{lock_of}
use Rattle.standing_commands.proofs.serving.serve_store.Goals as goal

pub returns : goal.returns
returns g c =
    let at_start : EndCause (lock_of c.in-Ok-try_clone.shared) (content_of g.T.Disk.Disk.faults c.args.store) g.L.Listener.links g.L.Listener.faults c.args.spawner.now.faults c.serve-end.new.spawner.faults c.serve-end.result =
    subst (λ (start : Content). EndCause (lock_of c.in-Ok-try_clone.shared) start g.L.Listener.links g.L.Listener.faults c.args.spawner.now.faults c.serve-end.new.spawner.faults c.serve-end.result) (ap (λ (v : View). v.seen) c.in-Ok-new.ensures.known ∙ ap (content_of g.T.Disk.Disk.faults) c.in-Ok.ensures) c.serve-end.ensures in
    let arcs : arc_value c.in-Ok-try_clone.shared ≡ arc_value c.in-Ok-new-2.desk = c.in-Ok-try_clone.ensures in
    let same : lock_of c.in-Ok-try_clone.shared ≡ lock_of c.in-Ok-new-2.desk = ap (λ d. lock_id d.lock) arcs in
    inr (record {
      desk = c.in-Ok-new-2.desk;
      end = c.serve-end.result;
      cause = subst (λ (l : LockId). EndCause l (content_of g.T.Disk.Disk.faults c.args.store) g.L.Listener.links g.L.Listener.faults c.args.spawner.now.faults c.serve-end.new.spawner.faults c.serve-end.result) same at_start;
      is = c.shown_end.ensures;
    })
