-- The message that frames are.
use Rattle.std.specs.Prelude.{Option, Some, None, Result, Ok, Err}
use Rattle.cluster_types.specs.declared.message.Message.{Message}
use Rattle.jupyter_parts.specs.declared.fault.PartsError.{PartsError}

-- the message that frames are, where they are signed
abbrev pub signed : Result Message PartsError → Option Message
signed (Ok message) = Some message
signed (Err fault) = None
