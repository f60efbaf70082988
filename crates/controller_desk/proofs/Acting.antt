-- A message that means something on its connection.
use Rattle.std.proofs.Common.{◌≡◌, ℕ, Some, Result, Ok, Err, IfOk, sym, ap, ◌∙◌}
use Rattle.std.specs.Prelude.{option_map}
use Rattle.cluster_types.specs.declared.config.Channel.{Channel}
use Rattle.cluster_types.specs.declared.message.Message.{Message}
use Rattle.cluster_types.specs.declared.event.Reason.{Reason}
use Rattle.cluster_types.specs.declared.entry.Input.TheVariants.{In}
use Rattle.cluster_intake.specs.declared.understood.Understood.{Understood}
use Rattle.cluster_defs.specs.Event.{event_of}
use Rattle.cluster_defs.specs.Connections.{channel_on}
use Rattle.cluster_defs.specs.Histories.{History, facts}
use Rattle.cluster_store.specs.Stores.{StoreView}
use Rattle.controller_desk.specs.declared.acted.Acted.{Acted}
use Rattle.controller_desk.specs.declared.acted.Acted.TheVariants.{Entered, Junk, Gone}
use Rattle.controller_desk.specs.declared.fault.ActError.{ActError}
use Rattle.controller_desk.specs.Calls.{HasTried, HasActed}
use Rattle.controller_desk.specs.Readings.{event_read, IsHeard}

pub is_heard : (history : History) (conn : ℕ) (channel : Channel) (message : Message) (meaning : Result Understood Reason) (u : Understood) → channel_on (facts history).connections conn ≡ Some channel →
    event_read meaning ≡ event_of channel message → meaning ≡ Ok u → IsHeard history conn message
is_heard history conn channel message meaning u live right is = record {
  event = u.event;
  is = ap (option_map (λ (c : Channel). event_of c message)) live ∙ ap Some (sym right ∙ ap event_read is);
}

pub has_entered : {D : Type 0} (old : StoreView D) (moment word conn : ℕ) (message : Message) (result : Result Acted ActError) (new : StoreView D) → IsHeard old.history conn message →
    IfOk result (λ acted. acted ≡ Entered) → HasTried old (In conn moment word message) result new → HasActed old moment word conn message result new
has_entered old moment word conn message (Ok Entered) new means entered tried = (means, tried)
has_entered old moment word conn message (Ok (Junk reason)) new means entered tried = absurd cc
has_entered old moment word conn message (Ok Gone) new means entered tried = absurd cc
has_entered old moment word conn message (Err e) new means entered tried = (tried, λ not. means)
