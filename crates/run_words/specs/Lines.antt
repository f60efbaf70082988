-- How a command ends that runs codes on engines of its own: its status, and the line that says why.
use Rattle.std.specs.Prelude.{ℕ, List, ◌++◌, codes, decimal}
use Rattle.command_words.specs.Lines.{status, line, standing_line}
use Rattle.command_words.specs.declared.ending.StandingEnding.TheVariants as standings
use Rattle.run_words.specs.declared.ending.RunEnding.{RunEnding}
use Rattle.run_words.specs.declared.ending.RunEnding.TheVariants.{Plain, NoWorker, BadJob}

abbrev pub run_status : RunEnding → ℕ
run_status (Plain end) = status end
run_status NoWorker = 12
run_status (BadJob line) = 17

-- the line of a job whose line with this number has a fault
unfoldable pub job_line : ℕ → List ℕ
job_line number = codes "ipcluster: bad job at line " ++ decimal number ++ codes "\n"

-- the line of an end, with its line feed
abbrev pub run_line : RunEnding → List ℕ
run_line (Plain end) = line end
run_line NoWorker = standing_line standings.NoWorker
run_line (BadJob number) = job_line number
