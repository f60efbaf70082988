-- Why a book is halted, and what shows it.
use Rattle.std.specs.Prelude.{◌≡◌, nat_lt, Bool, true, Option, Some, None}
use Rattle.history_lock.specs.declared.known.Content.{Content}
use Rattle.controller_desk.specs.Contents.{fulls_seen, failed_seen}
use Rattle.run_book.specs.declared.halt.Halt.{Halt}
use Rattle.run_book.specs.declared.halt.Halt.TheVariants.{OutOfMemory, DiskFault, HistoryFull}

-- whether counts show a halt: a call of the disk failed; or a step that would have passed the limits was counted
abbrev pub shows : Halt → Content → Bool
shows OutOfMemory seen = true
shows DiskFault seen = nat_lt 0 (failed_seen seen)
shows (HistoryFull entries bytes) seen = nat_lt 0 (fulls_seen seen)

abbrev pub shows_if : Option Halt → Content → Bool
shows_if None seen = true
shows_if (Some halt) seen = shows halt seen

-- what was seen shows the halt, where there is one
abbrev pub IsShown : Option Halt → Content → Type 0
IsShown halt seen = shows_if halt seen ≡ true
