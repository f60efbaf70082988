-- A text that is compared with the lines of entries while both come.
use Rattle.std.specs.Prelude.{◌≡◌, ℕ, ◌+◌, ◌*◌, ◌^◌, List, ◌++◌, length}
use Rattle.cluster_types.specs.declared.entry.Entry.{Entry}
use Rattle.database_text.specs.Comparison.{Texts}
use Rattle.database_text.specs.Lines.{text}
use Rattle.task_journal.specs.Journal.{journal}
use Rattle.task_journal.specs.Cursor.{Standing, bound}
use Rattle.database_text.specs.Given.{Gave}

-- the lines of a list were printed, behind those before
abbrev pub HasPrinted : (old new : Texts) → List Entry → Type 0
HasPrinted old new list = new ≡ record old { printed = old.printed ++ text list }

-- the lines of the first entries of a disk were printed, and are so many octets longer than what came of the input
pub record IsAhead (tells : Type 0) (content : List ℕ) (texts : Texts) (at : Standing) (ahead : ℕ) : Type 0 where
  pub list : List Entry
  pub gave : Gave tells content (journal content) at list
  pub printed : texts.printed ≡ text list
  pub longer : length texts.input + ahead ≡ length texts.printed

-- no more pieces of the input than this are compared, whatever the disk holds
abbrev pub turns : Standing → ℕ → ℕ
turns at ahead = bound at * 2 ^ 64 + ahead
