use Rattle.std.proofs.Common.{◌≡◌, ◌++◌, take, drop}
use Rattle.std.specs.Prelude.{map}
use Rattle.pending_links.specs.Pending.{with_greeting}
use Rattle.pending_links.proofs.book.note_greetings.Given as goal

-- the links up to here are changed, the others are as they were
abbrev pub invariant-loop-place : goal.invariant-loop-place
invariant-loop-place l = l.links ≡ map (with_greeting l.number) (take l.place l.fn.links) ++ drop l.place l.fn.links
