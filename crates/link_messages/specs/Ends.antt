-- How greetings end.
use Rattle.std.specs.Prelude.{⊤}
use Rattle.link_messages.specs.declared.end.SessionEnd.{SessionEnd}
use Rattle.link_messages.specs.declared.end.SessionEnd.TheVariants.{Ended, LinkFault, ZmtpFault, OutOfMemory}

-- the ends of a greeting
abbrev pub EndsGreeting : SessionEnd → Type 0
EndsGreeting Ended = ⊤
EndsGreeting LinkFault = ⊤
EndsGreeting (ZmtpFault fault) = ⊤
EndsGreeting OutOfMemory = ⊤
EndsGreeting _ = ⊥

-- its ends at a piece that was read
abbrev pub EndsPiece : SessionEnd → Type 0
EndsPiece LinkFault = ⊤
EndsPiece (ZmtpFault fault) = ⊤
EndsPiece OutOfMemory = ⊤
EndsPiece _ = ⊥
