-- What a ruling lets in is what the definitions let in.
use Rattle.std.proofs.Common.{◌≡◌, ℕ, List, Bool, true, false, cond, refl, sym, ap, subst, ◌∙◌, Option, Some, None, Ok, Err}
use Rattle.std.specs.Prelude.{◌==◌, bytes_eq, Result, is_some, is_ok}
use Rattle.cluster_types.specs.Limits.{most_engines}
use Rattle.cluster_defs.specs.declared.engine.Engine.{Engine}
use Rattle.cluster_defs.specs.declared.engine.Joining.TheVariants.{Repeat, AlreadyJoined, UsedUp, Accepted}
use Rattle.cluster_defs.specs.Engines.{Engines, joining, joining_new, joining_at, is_joined, engine_on, engine_named}
use Rattle.cluster_defs.specs.Aborts.{Aborting}
use Rattle.cluster_defs.specs.Purges.{Purging, Resubmitting, NeverKnown, Gone, Running, NoRoom, Makes, made}
use Rattle.resubmission.specs.declared.abort.AbortPlan.{AbortPlan}
use Rattle.resubmission.specs.declared.plan.Renaming.{Renaming}
use Rattle.resubmission.specs.declared.plan.ResubmitRefusal.{ResubmitRefusal}
use Rattle.resubmission.specs.declared.purge.PurgePlan.{PurgePlan}
use Rattle.resubmission.specs.Aborting.{aborting_of}
use Rattle.resubmission.specs.Plans.{refusal_of}
use Rattle.resubmission.specs.Purging.{purging_of}
use Rattle.cluster_state.specs.declared.ruling.Ruling.{Ruling}
use Rattle.cluster_state.specs.declared.ruling.Ruling.TheVariants.{Demand, Join, Leave, Purge, Resubmit, Abort, Settle, Other}
use Rattle.cluster_state.specs.Ruled.{IsPurge, IsResubmit, IsAbort, copies_planned, is_purge, is_resubmit, is_abort}

pub purge_there : (what : Purging) (r : Ruling) → IsPurge what r → is_purge r ≡ true
purge_there what (Purge plan) is = refl
purge_there what (Demand a) is = absurd is
purge_there what (Join j) is = absurd is
purge_there what (Leave engine) is = absurd is
purge_there what (Resubmit planned) is = absurd is
purge_there what (Abort plan) is = absurd is
purge_there what (Settle settling) is = absurd is
purge_there what Other is = absurd is

pub purge_is : (what : Purging) (r : Ruling) (plan : PurgePlan) → IsPurge what r → r ≡ Purge plan → purging_of plan ≡ what
purge_is what r plan h is = subst (IsPurge what) is h

pub resubmit_there : (what : Resubmitting) (r : Ruling) → IsResubmit what r → is_resubmit r ≡ true
resubmit_there what (Resubmit planned) is = refl
resubmit_there what (Demand a) is = absurd is
resubmit_there what (Join j) is = absurd is
resubmit_there what (Leave engine) is = absurd is
resubmit_there what (Purge plan) is = absurd is
resubmit_there what (Abort plan) is = absurd is
resubmit_there what (Settle settling) is = absurd is
resubmit_there what Other is = absurd is

none_made : (what : Resubmitting) (refused : ResubmitRefusal) → refusal_of what ≡ Some refused → None ≡ made what
none_made (NeverKnown ids) refused is = refl
none_made (Gone ids) refused is = refl
none_made (Running ids) refused is = refl
none_made NoRoom refused is = refl
none_made (Makes copies) refused is = cc

copies_are : (what : Resubmitting) (planned : Result (List Renaming) ResubmitRefusal) → IsResubmit what (Resubmit planned) → copies_planned planned ≡ made what
copies_are what (Ok renamed) is = sym (ap made is)
copies_are what (Err refused) is = none_made what refused is

pub resubmit_is : (what : Resubmitting) (r : Ruling) (planned : Result (List Renaming) ResubmitRefusal) → IsResubmit what r → r ≡ Resubmit planned → copies_planned planned ≡ made what
resubmit_is what r planned h is = copies_are what planned (subst (IsResubmit what) is h)

some_copies : (planned : Result (List Renaming) ResubmitRefusal) → is_some (copies_planned planned) ≡ is_ok planned
some_copies (Ok renamed) = refl
some_copies (Err refused) = refl

pub resubmit_told : (what : Resubmitting) (r : Ruling) (planned : Result (List Renaming) ResubmitRefusal) → IsResubmit what r → r ≡ Resubmit planned → is_ok planned ≡ is_some (made what)
resubmit_told what r planned h is = sym (some_copies planned) ∙ ap is_some (resubmit_is what r planned h is)

pub abort_there : (what : Aborting) (r : Ruling) → IsAbort what r → is_abort r ≡ true
abort_there what (Abort plan) is = refl
abort_there what (Demand a) is = absurd is
abort_there what (Join j) is = absurd is
abort_there what (Leave engine) is = absurd is
abort_there what (Purge plan) is = absurd is
abort_there what (Resubmit planned) is = absurd is
abort_there what (Settle settling) is = absurd is
abort_there what Other is = absurd is

pub abort_is : (what : Aborting) (r : Ruling) (plan : AbortPlan) → IsAbort what r → r ≡ Abort plan → aborting_of plan ≡ what
abort_is what r plan h is = subst (IsAbort what) is h

-- an engine that joins has a number
pub has_number : (engines : Engines) (conn : ℕ) (uuid : List ℕ) → is_joined (joining engines conn uuid) ≡ true → (engines.next == most_engines) ≡ false
has_number engines conn uuid on = at (engine_on engines.live conn) on
  where
    again : (e : Engine) (b : Bool) → is_joined (cond b (Repeat e.number) (AlreadyJoined e.number)) ≡ true → (engines.next == most_engines) ≡ false
    again e true is = cc
    again e false is = cc

    last : (b : Bool) → (engines.next == most_engines) ≡ b → is_joined (cond b UsedUp Accepted) ≡ true → (engines.next == most_engines) ≡ false
    last true same is = cc
    last false same is = same

    new : (holder : Option Engine) → is_joined (joining_new engines.next holder) ≡ true → (engines.next == most_engines) ≡ false
    new (Some holder) is = cc
    new None is = last (engines.next == most_engines) refl is

    at : (e : Option Engine) → is_joined (joining_at engines uuid e) ≡ true → (engines.next == most_engines) ≡ false
    at (Some e) is = again e (bytes_eq e.uuid uuid) is
    at None is = new (engine_named engines.live uuid) is
