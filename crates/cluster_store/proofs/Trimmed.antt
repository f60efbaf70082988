-- What a call of the journal that answered no error tells.
use Rattle.std.proofs.Common.{◌≡◌, Bool, true, false, Result, Ok, Err, refl}
use Rattle.std.specs.Prelude.{OnOk, is_err, ◌↔◌}
use Rattle.task_journal.specs.declared.fault.AppendFault.{AppendFault}
use Rattle.task_journal.specs.declared.fault.AppendFault.TheVariants.{Reopen}

pub on_done : {A E : Type 0} (r : Result A E) {P : Type 0} → OnOk r P → is_err r ≡ false → P
on_done (Ok x) p done = p
on_done (Err e) p done = cc

-- no call had failed before
pub was_fine : {A : Type 0} (r : Result A AppendFault) (failed : Bool) → ((r ≡ Err Reopen) ↔ (failed ≡ true)) → is_err r ≡ false → failed ≡ false
was_fine (Ok x) true both done = absurd (apart (both.1 refl))
  where
    apart : Ok x ≡ Err Reopen → ⊥
    apart is = cc
was_fine (Ok x) false both done = refl
was_fine (Err e) failed both done = cc
