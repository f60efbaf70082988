-- What is said of a run.
use Rattle.std.specs.Prelude.{ℕ, List, ◌++◌, codes, decimal}
use Rattle.std.specs.Fmt.{signed_decimal}
use Rattle.quick_commands.specs.declared.summary.Summary.{Summary}

-- a word, a space, a number, and a line feed
unfoldable pub line : List ℕ → List ℕ → List ℕ
line word number = word ++ codes " " ++ number ++ codes "\n"

abbrev pub summary_lines : Summary → List ℕ
summary_lines s =
    line (codes "tasks") (decimal s.tasks)
    ++ line (codes "completed") (decimal s.completed)
    ++ line (codes "failed") (decimal s.failed)
    ++ line (codes "hands") (decimal s.hands)
    ++ line (codes "entries") (decimal s.entries)
    ++ line (codes "sum") (signed_decimal s.sum)
