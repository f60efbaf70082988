-- The tape of generated work, record by record.
use Rattle.std.specs.Prelude.{ℕ, ◌-◌, true, List, [], ◌∷◌, ◌++◌, map, codes, decimal}
use Rattle.std.specs.List.{flat_map, range_with_len}
use Rattle.cluster_types.specs.declared.config.Channel.{Channel}
use Rattle.cluster_types.specs.declared.config.Channel.TheVariants.{Task, Engine}
use Rattle.cluster_types.specs.declared.message.Message.{Message as MessageParts}
use Rattle.jupyter_parts.specs.Signed.{message_frames}
use Rattle.engine_core.specs.Answer.{registration}
use Rattle.tape.specs.declared.record.TapeRecord.{TapeRecord}
use Rattle.tape.specs.declared.record.TapeKind.{TapeKind}
use Rattle.tape.specs.declared.record.TapeKind.TheVariants.{Up, Message}
use Rattle.quick_commands.specs.Draws.{draw}
use Rattle.quick_commands.specs.Tasks.{task_message}

-- the most tasks of a tape
abbrev pub most_tasks : ℕ
most_tasks = 500000

-- the key of all signatures
unfoldable pub work_key : List ℕ
work_key = codes "work"

-- each record has the moment 0 and the word 0
abbrev pub at_zero : TapeKind → TapeRecord
at_zero kind = record { moment = 0; word = 0; kind = kind }

-- a bare connection comes up
abbrev pub up : ℕ → Channel → List ℕ → TapeRecord
up conn channel identity = at_zero (Up conn channel true identity)

-- a message comes on a connection, signed
abbrev pub sent : ℕ → MessageParts → TapeRecord
sent conn message = at_zero (Message conn (message_frames work_key message))

-- the uuid of the engine on a connection, which is its identity too
unfoldable pub engine_uuid : ℕ → List ℕ
engine_uuid conn = codes "e" ++ decimal (conn - 1)

-- an engine comes up, and asks to be registered
unfoldable pub engine_records : ℕ → List TapeRecord
engine_records conn = up conn Engine (engine_uuid conn) ∷ sent conn (registration (engine_uuid conn) 0) ∷ []

-- the engines on the connections 1 to 4, and then the client
unfoldable pub opening : List TapeRecord
opening = flat_map engine_records (1 ∷ 2 ∷ 3 ∷ 4 ∷ []) ++ up 5 Task (codes "client") ∷ []

-- the client submits a task: its number, and the number that was drawn for it
unfoldable pub task_record : ℕ → ℕ → TapeRecord
task_record k x = sent 5 (task_message k x)

-- so many tasks from the k-th on
unfoldable pub tasks_from : ℕ → ℕ → ℕ → List TapeRecord
tasks_from seed k count = map (λ i. task_record i (draw seed i)) (range_with_len k count)

-- the whole tape of a seed and so many tasks
abbrev pub generated : ℕ → ℕ → List TapeRecord
generated seed tasks = opening ++ tasks_from seed 1 tasks
