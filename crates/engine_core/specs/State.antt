-- What an engine is.
use Rattle.std.specs.Prelude.{ℕ, Bool, false, ◌&&◌, List, [], length, nat_lt, nat_le}
use Rattle.arith_eval.specs.Names.{Environment, value_in}
use Rattle.engine_core.specs.declared.kernel.Kernel.{Kernel}

-- 1 to 200 octets
abbrev pub is_uuid : List ℕ → Bool
is_uuid uuid = nat_lt 0 (length uuid) && nat_le (length uuid) 200

-- an engine: what it evaluates in, how many replies it gave, and whether it ran out of memory in an answer
pub record State : Type 0 where
  pub uuid : List ℕ
  pub kernel : Kernel
  pub replies : ℕ
  pub spent : Bool

-- no name has a value, and nothing was counted or replied
abbrev pub new_engine : List ℕ → State
new_engine uuid = record { uuid = uuid; kernel = record { names = []; count = 0 }; replies = 0; spent = false }

-- the values of names, and the execution count
pub record Session : Type 0 where
  pub names : Environment
  pub count : ℕ

abbrev pub session : Kernel → Session
session kernel = record { names = value_in kernel.names; count = kernel.count }

-- what answers depend on
pub record Standing : Type 0 where
  pub uuid : List ℕ
  pub session : Session
  pub replies : ℕ

abbrev pub standing : State → Standing
standing state = record { uuid = state.uuid; session = session state.kernel; replies = state.replies }
