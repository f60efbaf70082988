-- How the program ends: its status, and the line that says why.
use Rattle.std.specs.Prelude.{ℕ, List, [], ◌++◌, codes, decimal}
use Rattle.command_words.specs.declared.ending.Ending.{Ending}
use Rattle.command_words.specs.declared.ending.Ending.TheVariants.{Done, Usage, ReadFault, WriteFault, DiskFault, BadTape, Damaged, OutOfMemory, HistoryFull, Different, StandbyDiffers, PrimaryRefused}
use Rattle.command_words.specs.declared.ending.StandingEnding.{StandingEnding}
use Rattle.command_words.specs.declared.ending.StandingEnding.TheVariants.{Plain, NotOk, ListenerFault, NoWorker, LinkFault}

abbrev pub status : Ending → ℕ
status Done = 0
status Usage = 2
status ReadFault = 3
status WriteFault = 4
status DiskFault = 5
status (BadTape place) = 6
status (Damaged place) = 7
status OutOfMemory = 8
status (HistoryFull entries bytes) = 9
status (Different place) = 10
status (StandbyDiffers place) = 15
status (PrimaryRefused place) = 16

-- the line of an end, with its line feed
unfoldable pub line : Ending → List ℕ
line Done = []
line Usage = codes "ipcluster: the command line has no reading\n"
line ReadFault = codes "ipcluster: read fault\n"
line WriteFault = codes "ipcluster: write fault\n"
line DiskFault = codes "ipcluster: disk fault\n"
line (BadTape place) = codes "ipcluster: bad tape at " ++ decimal place ++ codes "\n"
line (Damaged place) = codes "ipcluster: damaged database at " ++ decimal place ++ codes "\n"
line OutOfMemory = codes "ipcluster: out of memory\n"
line (HistoryFull entries bytes) =
    codes "ipcluster: history full at " ++ decimal entries ++ codes " entries and " ++ decimal bytes ++ codes " bytes\n"
line (Different place) = codes "ipcluster: different at " ++ decimal place ++ codes "\n"
line (StandbyDiffers place) = codes "ipcluster: standby differs at entry " ++ decimal place ++ codes "\n"
line (PrimaryRefused place) = codes "ipcluster: primary refused at " ++ decimal place ++ codes "\n"

-- the same of the commands that are about a cluster at its ports
abbrev pub standing_status : StandingEnding → ℕ
standing_status (Plain end) = status end
standing_status NotOk = 1
standing_status ListenerFault = 11
standing_status NoWorker = 12
standing_status LinkFault = 13

unfoldable pub standing_line : StandingEnding → List ℕ
standing_line (Plain end) = line end
standing_line NotOk = []
standing_line ListenerFault = codes "ipcluster: listener fault\n"
standing_line NoWorker = codes "ipcluster: no worker could be started\n"
standing_line LinkFault = codes "ipcluster: link fault\n"
