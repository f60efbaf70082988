-- How the commands over a link end, and what shows it.
use Rattle.std.specs.Prelude.{◌≡◌, ℕ, true, false, List, Option}
use Rattle.command_words.specs.declared.ending.Ending.TheVariants as plain
use Rattle.command_words.specs.declared.ending.StandingEnding.{StandingEnding}
use Rattle.command_words.specs.declared.ending.StandingEnding.TheVariants as endings
use Rattle.command_words.specs.declared.standing.Action.{Action}
use Rattle.link_commands.specs.Actions.{IsRequest, channel_for}
use Rattle.link_commands.specs.ClientEnds.{ClientEnds}
use Rattle.link_commands.specs.EngineEnds.{EngineEnds}
use Rattle.link_commands.specs.Links.{Dials, Prints}
use Rattle.link_commands.specs.declared.client.ClientEnd.{ClientEnd}
use Rattle.link_commands.specs.declared.client.ClientEnd.TheVariants as clients
use Rattle.link_commands.specs.declared.engine.EngineEnd.{EngineEnd}
use Rattle.link_commands.specs.declared.engine.EngineEnd.TheVariants as engines
use Rattle.standing_commands.specs.declared.shown.Shown.{Shown}
use Rattle.standing_commands.specs.declared.shown.Shown.TheVariants.{Nothing, Link}

-- how the program ends where an engine has ended so, and what shows it
abbrev pub engine_shown : {P I O D K T : Type 0} → EngineEnd I O → StandingEnding × Shown P I O D K T
engine_shown (engines.Done i o) = (endings.Plain plain.Done, Link i o)
engine_shown (engines.LinkFault i o) = (endings.LinkFault, Link i o)
engine_shown (engines.ZmtpFault fault i o) = (endings.LinkFault, Link i o)
engine_shown engines.NotDialled = (endings.LinkFault, Nothing)
engine_shown engines.OutOfMemory = (endings.Plain plain.OutOfMemory, Nothing)

-- the same of a client
abbrev pub client_shown : {P I O D K T : Type 0} → ClientEnd I O → StandingEnding × Shown P I O D K T
client_shown (clients.Answered true i o) = (endings.Plain plain.Done, Link i o)
client_shown (clients.Answered false i o) = (endings.NotOk, Link i o)
client_shown (clients.Unanswered i o) = (endings.LinkFault, Link i o)
client_shown (clients.LinkFault i o) = (endings.LinkFault, Link i o)
client_shown (clients.ZmtpFault fault i o) = (endings.LinkFault, Link i o)
client_shown clients.NotDialled = (endings.LinkFault, Nothing)
client_shown (clients.OutputFault i o) = (endings.Plain plain.WriteFault, Link i o)
client_shown clients.OutOfMemory = (endings.Plain plain.OutOfMemory, Nothing)

-- an engine worked over a dialler, until an end with its cause, which is shown
abbrev pub WorksAs : {P I O D K T : Type 0} → Dials I O → (key uuid : List ℕ) → StandingEnding × Shown P I O D K T → Type 0
WorksAs {P} {I} {O} links key uuid shown = (end : EngineEnd I O) × EngineEnds links key uuid end × (shown ≡ engine_shown end)

-- a client asked for an action under the next random words, until an end with its cause, which is shown
abbrev pub AsksAs : {P I O D K T : Type 0} → Dials I O → (key : List ℕ) → Action → (coming : Option (List ℕ)) → Prints → StandingEnding × Shown P I O D K T → Type 0
AsksAs {P} {I} {O} links key action coming output shown =
    (end : ClientEnd I O) × (later : Option (List ℕ)) × ClientEnds links (channel_for action) key (IsRequest action coming later) output end × (shown ≡ client_shown end)
