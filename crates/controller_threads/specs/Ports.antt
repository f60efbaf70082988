-- Ports that have ended.
use Rattle.std.specs.Prelude.{◌≡◌, List, [], Bool, true, false, Option, Some, None, IsSome}
use Rattle.cluster_types.specs.declared.config.Channel.{Channel}
use Rattle.cluster_types.specs.declared.config.Channel.TheVariants as channels
use Rattle.controller_threads.specs.declared.ports.Ports.{Ports}

-- no link is left, where it is told
abbrev pub is_used_up : {A : Type 0} → Option (List A) → Bool
is_used_up (Some []) = true
is_used_up _ = false

module _ {P I O : Type 0} (links : P → Option (List (I × O))) where
  -- no link is left of a port
  abbrev pub HasNoLink : P → Type 0
  HasNoLink port = is_used_up (links port) ≡ true

  -- of none of the four
  pub record HaveNoLinks (ports : Ports P) : Type 0 where
    pub hub : HasNoLink ports.hub
    pub task : HasNoLink ports.task
    pub mux : HasNoLink ports.mux
    pub engine : HasNoLink ports.engine

-- all four are there
pub record AreAll {P : Type 0} (ports : Ports (Option P)) : Type 0 where
  pub hub : IsSome ports.hub
  pub task : IsSome ports.task
  pub mux : IsSome ports.mux
  pub engine : IsSome ports.engine

module _ {P : Type 0} where
  -- none is there yet
  abbrev pub no_ports : Ports (Option P)
  no_ports = record { hub = None; task = None; mux = None; engine = None }

  -- the same with the port of one channel
  abbrev pub with_port : Channel → P → Ports (Option P) → Ports (Option P)
  with_port channels.Hub port ports = record ports { hub = Some port }
  with_port channels.Task port ports = record ports { task = Some port }
  with_port channels.Mux port ports = record ports { mux = Some port }
  with_port channels.Engine port ports = record ports { engine = Some port }
