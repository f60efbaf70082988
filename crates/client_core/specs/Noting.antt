-- What is noted of a task that settled.
use Rattle.std.specs.Prelude.{Bool, true, false, Option, Some, None, ℤ}
use Rattle.client_core.specs.declared.answered.Answered.{Answered}
use Rattle.client_core.specs.declared.answered.Answered.TheVariants.{Value, Failed}
use Rattle.client_core.specs.declared.noted.Noted.{Noted}

abbrev pub value_in : Answered → Option ℤ
value_in (Value value) = Some value
value_in (Failed ename evalue) = None

-- the flag, and the value where the flag is true
abbrev pub note_of : Answered → Bool → Noted
note_of answered true = record { ok = true; value = value_in answered }
note_of answered false = record { ok = false; value = None }
