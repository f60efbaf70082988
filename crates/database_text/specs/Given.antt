-- Entries that a disk gave while its journal was read.
use Rattle.std.specs.Prelude.{◌≡◌, ℕ, List, Result, Ok}
use Rattle.cluster_types.specs.declared.entry.Entry.{Entry}
use Rattle.database_text.specs.Lines.{text}
use Rattle.task_journal.specs.declared.fault.OpenFault.{OpenFault}
use Rattle.task_journal.specs.declared.found.Found.{Found}
use Rattle.task_journal.specs.Journal.{StandsFor, with_front, holding}
use Rattle.task_journal.specs.Cursor.{Standing, IsOn, shut, to_come}

-- where the disk tells: of what was to come these entries came, and the rest is still to come
pub record Gave (tells : Type 0) (content : List ℕ) (total : Result Found OpenFault) (at : Standing) (list : List Entry) : Type 0 where
  pub on : tells → IsOn at content
  pub places : List ℕ
  pub come : tells → total ≡ with_front (holding list places) (to_come at content)

-- nothing is still to come
abbrev pub HasEnded : List ℕ → Standing → Type 0
HasEnded content at = to_come at content ≡ Ok (shut at.gate)

-- a fact of the text of a list of entries, and where the disk tells, of each list that it stands for
abbrev pub OfText : (tells : Type 0) → List ℕ → (List ℕ → Type 0) → Type 0
OfText tells content P = ((list : List Entry) × P (text list)) × (tells → (list : List Entry) → StandsFor content list → P (text list))
