-- Only words without a reading are told that they have none.
use Rattle.std.proofs.Common.{◌≡◌, ◌∙◌, ℕ, List, Option, Some, None, true, false, sym, ap, refl, inl, inr}
use Rattle.std.specs.Prelude.{IfSome}
use Rattle.command_words.specs.Lines.{standing_status}
use Rattle.command_words.specs.declared.ending.Ending.TheVariants.{Done, Usage, ReadFault, WriteFault, DiskFault, BadTape, Damaged, OutOfMemory, HistoryFull, Different, StandbyDiffers, PrimaryRefused}
use Rattle.command_words.specs.declared.ending.StandingEnding.{StandingEnding}
use Rattle.command_words.specs.declared.ending.StandingEnding.TheVariants.{Plain, NotOk, ListenerFault, NoWorker, LinkFault}
use Rattle.command_words.specs.declared.standing.StandingCommand.{StandingCommand}
use Rattle.command_words.specs.declared.standing.StandingCommand.TheVariants.{Serve, Engine, Client}
use Rattle.controller_threads.specs.declared.end.ServeEnd.{ServeEnd}
use Rattle.controller_threads.specs.declared.end.ServeEnd.TheVariants as serves
use Rattle.link_commands.specs.Links.{Dials, Prints}
use Rattle.link_commands.specs.declared.client.ClientEnd.{ClientEnd}
use Rattle.link_commands.specs.declared.client.ClientEnd.TheVariants as clients
use Rattle.link_commands.specs.declared.engine.EngineEnd.{EngineEnd}
use Rattle.link_commands.specs.declared.engine.EngineEnd.TheVariants as engines
use Rattle.quick_commands.specs.Written.{ending_of_refusal}
use Rattle.standing_commands.specs.Commands.{By, Serves}
use Rattle.standing_commands.specs.Links.{engine_shown, client_shown}
use Rattle.standing_commands.specs.Serving.{shown_end}
use Rattle.standing_commands.specs.declared.shown.Shown.{Shown}
use Rattle.task_journal.specs.declared.fault.OpenFault.{OpenFault}
use Rattle.task_journal.specs.declared.fault.OpenFault.TheVariants as refusals

pub usage_of : (e : StandingEnding) → standing_status e ≡ 2 → e ≡ Plain Usage
usage_of (Plain Done) is = cc
usage_of (Plain Usage) is = refl
usage_of (Plain ReadFault) is = cc
usage_of (Plain WriteFault) is = cc
usage_of (Plain DiskFault) is = cc
usage_of (Plain (BadTape place)) is = cc
usage_of (Plain (Damaged place)) is = cc
usage_of (Plain OutOfMemory) is = cc
usage_of (Plain (HistoryFull entries bytes)) is = cc
usage_of (Plain (Different place)) is = cc
usage_of (Plain (StandbyDiffers place)) is = cc
usage_of (Plain (PrimaryRefused place)) is = cc
usage_of NotOk is = cc
usage_of ListenerFault is = cc
usage_of NoWorker is = cc
usage_of LinkFault is = cc

engine_not : (P D K T : Type 0) {I O : Type 0} (end : EngineEnd I O) → (engine_shown {P = P} {D = D} {K = K} {T = T} end).0 ≡ Plain Usage → ⊥
engine_not P D K T (engines.Done i o) is = cc
engine_not P D K T (engines.LinkFault i o) is = cc
engine_not P D K T (engines.ZmtpFault fault i o) is = cc
engine_not P D K T engines.NotDialled is = cc
engine_not P D K T engines.OutOfMemory is = cc

client_not : (P D K T : Type 0) {I O : Type 0} (end : ClientEnd I O) → (client_shown {P = P} {D = D} {K = K} {T = T} end).0 ≡ Plain Usage → ⊥
client_not P D K T (clients.Answered true i o) is = cc
client_not P D K T (clients.Answered false i o) is = cc
client_not P D K T (clients.Unanswered i o) is = cc
client_not P D K T (clients.LinkFault i o) is = cc
client_not P D K T (clients.ZmtpFault fault i o) is = cc
client_not P D K T clients.NotDialled is = cc
client_not P D K T (clients.OutputFault i o) is = cc
client_not P D K T clients.OutOfMemory is = cc

serve_not : (I O D : Type 0) {P K T : Type 0} (desk : K) (end : ServeEnd P T) → (shown_end {I = I} {O = O} {D = D} desk end).0 ≡ Plain Usage → ⊥
serve_not I O D desk (serves.Ended ports pass) is = cc
serve_not I O D desk (serves.Stopped pass) is = cc
serve_not I O D desk (serves.ListenerFault channel port) is = cc
serve_not I O D desk serves.SpawnFault is = cc
serve_not I O D desk (serves.DiskFault pass) is = cc
serve_not I O D desk (serves.HistoryFull entries bytes pass) is = cc
serve_not I O D desk serves.OutOfMemory is = cc

refusal_not : (why : OpenFault) → Plain (ending_of_refusal why) ≡ Plain Usage → ⊥
refusal_not (refusals.NotAJournal place) is = cc
refusal_not (refusals.Damaged place) is = cc
refusal_not refusals.DiskFault is = cc
refusal_not refusals.OutOfMemory is = cc

-- no command ends so
pub by_not_usage : {P I O D K T A B : Type 0} (on : Serves D K P A B) (links : Dials I O) (coming : Option (List ℕ)) (output : Prints) (c : StandingCommand) (result : StandingEnding × Shown P I O D K T) →
    By on links coming output c result → result.0 ≡ Plain Usage → ⊥
by_not_usage on links coming output (Serve host port database options) result (same, still, inl none) is = (let first : result.0 ≡ Plain OutOfMemory = ap (λ r. r.0) none in cc)
by_not_usage on links coming output (Serve host port database options) result (same, still, inr (inl unopened)) is = refusal_not unopened.why (sym (ap (λ r. r.0) unopened.is) ∙ is)
by_not_usage on links coming output (Serve host port database options) result (same, still, inr (inr (start, begun, over))) is = serve_not _ _ _ over.desk over.end (sym (ap (λ r. r.0) over.is) ∙ is)
by_not_usage on links coming output (Engine host port uuid key) result (same, still, (end, ends, shown)) is = engine_not _ _ _ _ end (sym (ap (λ r. r.0) shown) ∙ is)
by_not_usage on links coming output (Client host port action key) result (still, (end, later, ends, shown)) is = client_not _ _ _ _ end (sym (ap (λ r. r.0) shown) ∙ is)
