-- How an engine ends.
use Rattle.std.specs.Prelude.{List, ℕ, Option, Some, None}
use Rattle.edges.specs.Streams.{IsAtEnd}
use Rattle.engine_core.specs.State.{Standing, new_engine, standing}
use Rattle.link_commands.specs.Working.{IsWhole}
use Rattle.link_commands.specs.declared.engine.EngineEnd.{EngineEnd}
use Rattle.link_commands.specs.declared.engine.EngineEnd.TheVariants.{Done, NotDialled, LinkFault, ZmtpFault, OutOfMemory}
use Rattle.link_commands.specs.Links.{Dials, Dialled, DialledAtMost, IsDialled, HasFailed}
use Rattle.zmtp_peer.specs.declared.fault.PeerFault.{PeerFault}

-- an engine served a link that was dialled: all that came was answered, and the stream has this fault, or none
pub record HasServed {I O : Type 0} (links : Dials I O) (key uuid : List ℕ) (fault : Option PeerFault) (i : I) (o : O) : Type 0 where
  pub reader : I
  pub writer : O
  pub after : Standing
  pub link : IsDialled links reader writer
  pub whole : IsWhole key (standing (new_engine uuid)) (links.tells.left reader) (links.tells.left i) (links.tells.written writer) (links.tells.written o) after fault

-- the channel of engines
abbrev pub engine_channel : ℕ
engine_channel = 3

-- how an engine ended: each end with its cause. It dials the channel of engines, once.
abbrev pub EngineEnds : {I O : Type 0} → Dials I O → (key uuid : List ℕ) → EngineEnd I O → Type 0
EngineEnds links key uuid (Done i o) = Dialled engine_channel links × HasServed links key uuid None i o × IsAtEnd (links.tells.left i)
EngineEnds links key uuid (ZmtpFault fault i o) = Dialled engine_channel links × HasServed links key uuid (Some fault) i o
EngineEnds links key uuid (LinkFault i o) = Dialled engine_channel links × HasFailed links.tells i o
EngineEnds links key uuid NotDialled = Dialled engine_channel links × links.failed
EngineEnds links key uuid OutOfMemory = DialledAtMost engine_channel links
