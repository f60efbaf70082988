-- The headers of an engine's messages.
use Rattle.std.specs.Prelude.{ℕ, List, ◌++◌, codes, decimal}
use Rattle.edges.specs.Date.{date_of}
use Rattle.cluster_defs.specs.Texts.{resubmit_header}

-- the id of an engine's message with a number; a registration has the number 0, and the replies count from 1
unfoldable pub message_id : List ℕ → ℕ → List ℕ
message_id uuid number = uuid ++ codes "-" ++ decimal number

-- session and user are the uuid
abbrev pub engine_header : List ℕ → ℕ → List ℕ → ℕ → List ℕ
engine_header uuid number msg_type moment = resubmit_header (message_id uuid number) uuid uuid msg_type (date_of moment)
