-- What an entry comes to, worked out before it is taken.
use Rattle.std.specs.Prelude.{◌≡◌, ℕ, List, map, Option, Some, None, Bool, true, false, Result, Ok, Err}
use Rattle.cluster_types.specs.declared.message.Message.{Message}
use Rattle.cluster_types.specs.declared.event.Event.{Event}
use Rattle.cluster_types.specs.declared.event.Event.TheVariants as events
use Rattle.cluster_types.specs.declared.entry.Input.TheVariants.{In}
use Rattle.cluster_types.specs.declared.entry.Entry.{Entry}
use Rattle.cluster_types.specs.declared.entry.Entry.TheVariants as entries
use Rattle.cluster_types.specs.declared.verdict.Verdict.{Verdict}
use Rattle.cluster_types.specs.declared.verdict.Cause.{Cause}
use Rattle.cluster_defs.specs.Words.{once}
use Rattle.cluster_defs.specs.Acceptance.{acceptance}
use Rattle.cluster_defs.specs.Engines.{joining, left_engine}
use Rattle.cluster_defs.specs.Facts.{Facts}
use Rattle.cluster_defs.specs.Aborts.{Aborting, aborting}
use Rattle.cluster_defs.specs.Purges.{Copy, Purging, purge_list, purging, Resubmitting, resubmitting, Makes}
use Rattle.resubmission.specs.Aborting.{aborting_of}
use Rattle.resubmission.specs.declared.plan.Renaming.{Renaming}
use Rattle.resubmission.specs.declared.plan.ResubmitRefusal.{ResubmitRefusal}
use Rattle.resubmission.specs.Plans.{copy_of, refusal_of}
use Rattle.resubmission.specs.Purging.{purging_of}
use Rattle.cluster_state.specs.declared.settling.Settling.{Settling}
use Rattle.cluster_state.specs.declared.ruling.Ruling.{Ruling}
use Rattle.cluster_state.specs.declared.ruling.Ruling.TheVariants.{Demand, Join, Leave, Purge, Resubmit, Abort, Settle, Other}
use Rattle.task_table.specs.Seen.{Seen, seen_in}
use Rattle.cluster_state.specs.Plain.{Plain, facts_in}
use Rattle.cluster_state.specs.Settling.{IsSettling}

-- WHAT A RULING IS

abbrev pub IsPurge : Purging → Ruling → Type 0
IsPurge what (Purge plan) = purging_of plan ≡ what
IsPurge what _ = ⊥

abbrev pub IsResubmit : Resubmitting → Ruling → Type 0
IsResubmit what (Resubmit (Ok renamed)) = what ≡ Makes (map copy_of renamed)
IsResubmit what (Resubmit (Err refused)) = refusal_of what ≡ Some refused
IsResubmit what _ = ⊥

abbrev pub IsAbort : Aborting → Ruling → Type 0
IsAbort what (Abort plan) = aborting_of plan ≡ what
IsAbort what _ = ⊥

abbrev pub IsSettle : Verdict → Cause → ℕ → Option Seen → Ruling → Type 0
IsSettle verdict cause moment task (Settle settling) = IsSettling verdict cause moment task settling
IsSettle verdict cause moment task _ = ⊥

-- of a message with this meaning, where these facts stand
abbrev pub IsTold : Facts → ℕ → Message → Event → Ruling → Type 0
IsTold f conn m (events.Submit s) r = r ≡ Demand (acceptance f (record { direct = false; submission = s }) m)
IsTold f conn m (events.Direct s) r = r ≡ Demand (acceptance f (record { direct = true; submission = s }) m)
IsTold f conn m (events.Join uuid) r = r ≡ Join (joining f.engines conn uuid)
IsTold f conn m events.Leave r = r ≡ Leave (left_engine f.engines.live conn (Some events.Leave))
IsTold f conn m (events.Purge all ids) r = IsPurge (purging f (purge_list f all ids)) r
IsTold f conn m (events.Resubmit ids) r = IsResubmit (resubmitting f (once ids)) r
IsTold f conn m (events.Abort ids) r = IsAbort (aborting f (once ids)) r
IsTold f conn m _ r = r ≡ Other

-- of an entry with this meaning, where the data are these
abbrev pub IsRuled : Plain → Entry → Option Event → Ruling → Type 0
IsRuled p (entries.Input (In conn moment word m)) (Some event) r = IsTold (facts_in p) conn m event r
IsRuled p (entries.Settle id verdict cause) event r = IsSettle verdict cause p.moment (seen_in p.tasks id) r
IsRuled p e event r = r ≡ Other

-- the copies that a resubmission makes
abbrev pub copies_planned : Result (List Renaming) ResubmitRefusal → Option (List Copy)
copies_planned (Ok renamed) = Some (map copy_of renamed)
copies_planned (Err refused) = None

-- OF WHICH KIND IT IS

abbrev pub is_demand : Ruling → Bool
is_demand (Demand _) = true
is_demand _ = false

abbrev pub is_join : Ruling → Bool
is_join (Join _) = true
is_join _ = false

abbrev pub is_leave : Ruling → Bool
is_leave (Leave _) = true
is_leave _ = false

abbrev pub is_purge : Ruling → Bool
is_purge (Purge _) = true
is_purge _ = false

abbrev pub is_resubmit : Ruling → Bool
is_resubmit (Resubmit _) = true
is_resubmit _ = false

abbrev pub is_abort : Ruling → Bool
is_abort (Abort _) = true
is_abort _ = false

abbrev pub is_settle : Ruling → Bool
is_settle (Settle _) = true
is_settle _ = false
