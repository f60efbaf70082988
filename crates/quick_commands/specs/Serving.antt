-- What serving a tape is ended by.
use Rattle.std.specs.Prelude.{Bool, true, false, Result, Ok, Err}
use Rattle.command_words.specs.declared.ending.Ending.{Ending}
use Rattle.command_words.specs.declared.ending.Ending.TheVariants as endings
use Rattle.quick_commands.specs.declared.replay.ServeError.{ServeError}
use Rattle.quick_commands.specs.declared.replay.ServeError.TheVariants.{OutOfMemory, WriteFailed, DiskFailed}

abbrev pub is_disk_failure : {A : Type 0} → Result A ServeError → Bool
is_disk_failure (Ok x) = false
is_disk_failure (Err OutOfMemory) = false
is_disk_failure (Err WriteFailed) = false
is_disk_failure (Err DiskFailed) = true

abbrev pub ending_of : ServeError → Ending
ending_of OutOfMemory = endings.OutOfMemory
ending_of WriteFailed = endings.WriteFault
ending_of DiskFailed = endings.DiskFault
