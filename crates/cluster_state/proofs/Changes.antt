-- Which messages change anything, kind by kind.
use Rattle.std.proofs.Common.{◌≡◌, ℕ, List, Bool, true, false, not, cond, ◌||◌, refl, ◌∙◌, Some, None}
use Rattle.std.specs.Prelude.{is_some}
use Rattle.cluster_types.specs.declared.message.Message.{Message}
use Rattle.cluster_types.specs.declared.event.Submission.{Submission}
use Rattle.cluster_types.specs.declared.event.Event.TheVariants.{Submit, Direct, Reply, Join, Leave, Pong, Purge, Resubmit, Abort}
use Rattle.cluster_defs.specs.Words.{Id, is_empty}
use Rattle.cluster_defs.specs.Engines.{joined, left_engine, echoed}
use Rattle.cluster_defs.specs.Tasks.{counts}
use Rattle.cluster_defs.specs.Facts.{Facts}
use Rattle.cluster_defs.specs.Acceptance.{acceptance, is_accepted}
use Rattle.cluster_defs.specs.Aborts.{aborted_by}
use Rattle.cluster_defs.specs.Purges.{purged_by, copied_by}
use Rattle.cluster_defs.specs.Steps.{changes}
use Rattle.cluster_types.proofs.Booleans.{or_false}

chosen : {T : Type 0} (b : Bool) (x : T) → is_some (cond b (Some x) None) ≡ b
chosen true x = refl
chosen false x = refl

-- a test first, of some
first_of : (b : Bool) → (b || false || false || false || false || false || false || false) ≡ b
first_of true = refl
first_of false = refl

pub changes_submit : (f : Facts) (conn : ℕ) (m : Message) (s : Submission) → changes f conn m (Some (Submit s)) ≡ is_accepted (acceptance f (record { direct = false; submission = s }) m)
changes_submit f conn m s = first_of _ ∙ chosen (is_accepted (acceptance f (record { direct = false; submission = s }) m)) _

pub changes_direct : (f : Facts) (conn : ℕ) (m : Message) (s : Submission) → changes f conn m (Some (Direct s)) ≡ is_accepted (acceptance f (record { direct = true; submission = s }) m)
changes_direct f conn m s = first_of _ ∙ chosen (is_accepted (acceptance f (record { direct = true; submission = s }) m)) _

pub changes_join : (f : Facts) (conn : ℕ) (m : Message) (uuid : List ℕ) → changes f conn m (Some (Join uuid)) ≡ is_some (joined f.engines conn (Some (Join uuid)))
changes_join f conn m uuid = by (is_some (joined f.engines conn (Some (Join uuid))))
  where
    by : (b : Bool) → (b || false || false || false || false || false || false) ≡ b
    by true = refl
    by false = refl

pub changes_leave : (f : Facts) (conn : ℕ) (m : Message) → changes f conn m (Some Leave) ≡ is_some (left_engine f.engines.live conn (Some Leave))
changes_leave f conn m = by (is_some (left_engine f.engines.live conn (Some Leave)))
  where
    by : (b : Bool) → (b || false || false || false || false || false) ≡ b
    by true = refl
    by false = refl

pub changes_pong : (f : Facts) (conn : ℕ) (m : Message) (beat : ℕ) → changes f conn m (Some (Pong beat)) ≡ is_some (echoed f.engines.live conn f.beats (Some (Pong beat)))
changes_pong f conn m beat = by (is_some (echoed f.engines.live conn f.beats (Some (Pong beat))))
  where
    by : (b : Bool) → (b || false || false || false || false) ≡ b
    by true = refl
    by false = refl

pub changes_purge : (f : Facts) (conn : ℕ) (m : Message) (all : Bool) (ids : List Id) → changes f conn m (Some (Purge all ids)) ≡ is_some (purged_by f (Some (Purge all ids)))
changes_purge f conn m all ids = by (is_some (purged_by f (Some (Purge all ids))))
  where
    by : (b : Bool) → (b || false || false || false) ≡ b
    by true = refl
    by false = refl

pub changes_resubmit : (f : Facts) (conn : ℕ) (m : Message) (ids : List Id) → changes f conn m (Some (Resubmit ids)) ≡ is_some (copied_by f (Some (Resubmit ids)))
changes_resubmit f conn m ids = by (is_some (copied_by f (Some (Resubmit ids))))
  where
    by : (b : Bool) → (b || false || false) ≡ b
    by true = refl
    by false = refl

pub changes_reply : (f : Facts) (conn : ℕ) (m : Message) (name : Id) (header : List ℕ) (ok declined : Bool) → changes f conn m (Some (Reply name header ok declined)) ≡ counts f.engines.live conn header (f.task name)
changes_reply f conn m name header ok declined = refl

pub changes_abort : (f : Facts) (conn : ℕ) (m : Message) (ids : List Id) → changes f conn m (Some (Abort ids)) ≡ not (is_empty (aborted_by f (Some (Abort ids))))
changes_abort f conn m ids = or_false (not (is_empty (aborted_by f (Some (Abort ids)))))
