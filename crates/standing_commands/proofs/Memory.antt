-- A command that had no memory.
use Rattle.std.proofs.Common.{◌≡◌, ℕ, List, Option, Some, None, refl, inl, inr}
use Rattle.std.specs.Prelude.{IfSome}
use Rattle.command_words.specs.declared.standing.StandingCommand.{StandingCommand}
use Rattle.command_words.specs.declared.standing.StandingCommand.TheVariants.{Serve, Engine, Client}
use Rattle.link_commands.specs.Links.{Dials, IsUndialled, Prints}
use Rattle.link_commands.specs.declared.client.ClientEnd.TheVariants as clients
use Rattle.link_commands.specs.declared.engine.EngineEnd.TheVariants as engines
use Rattle.standing_commands.specs.Commands.{By, Serves}
use Rattle.standing_commands.specs.Serving.{no_memory}

-- each command may end so, where nothing was done
pub memory_by : {P I O D K A B : Type 0} (T : Type 0) (on : Serves D K P A B) (links : Dials I O) (coming : Option (List ℕ)) (output : Prints) (c : StandingCommand) →
    on.now ≡ on.before → IsUndialled links → output.now ≡ output.before →
    By {P = P} {I = I} {O = O} {D = D} {K = K} {T = T} {A = A} {B = B} on links coming output c (no_memory {P = P} {I = I} {O = O} {D = D} {K = K} {T = T})
memory_by T on links coming output (Serve host port database options) unstarted undialled unprinted = (unprinted, undialled, inl refl)
memory_by T on links coming output (Engine host port uuid key) unstarted undialled unprinted = (unprinted, unstarted, (engines.OutOfMemory, inr undialled, refl))
memory_by T on links coming output (Client host port action key) unstarted undialled unprinted = (unstarted, (clients.OutOfMemory, coming, (inr undialled, unprinted), refl))
