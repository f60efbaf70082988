-- The messages that submit the tasks, by the number of the task, from 1 on, and the number that was drawn for it.
use Rattle.std.specs.Prelude.{ℕ, ◌-◌, ◌/◌, ◌%◌, List, [], ◌++◌, nat_le, if◌then◌else◌, codes, decimal}
use Rattle.cluster_types.specs.declared.message.Message.{Message}
use Rattle.cluster_defs.specs.Texts.{empty_object}

unfoldable pub task_header : ℕ → List ℕ
task_header k =
    codes "{\"msg_id\":\"t" ++ decimal k
    ++ codes "\",\"session\":\"work\",\"username\":\"work\",\"date\":\"1970-01-01T00:00:00.000Z\",\"msg_type\":\"execute_request\",\"version\":\"5.3\"}"

-- that a task waits for another
unfoldable pub after_text : ℕ → List ℕ
after_text j = codes "{\"after\":[\"t" ++ decimal j ++ codes "\"]}"

-- the first eight wait for none, and each other one for that eight before it
abbrev pub task_metadata : ℕ → List ℕ
task_metadata k = if nat_le k 8 then empty_object else after_text (k - 8)

-- the sum of the last three digits of the number and the three before them
unfoldable pub task_content : ℕ → List ℕ
task_content x =
    codes "{\"code\":\"" ++ decimal (x % 1000) ++ codes "+" ++ decimal (x / 1000 % 1000)
    ++ codes "\",\"silent\":false,\"store_history\":true,\"user_expressions\":{},\"allow_stdin\":false,\"stop_on_error\":true}"

abbrev pub task_message : ℕ → ℕ → Message
task_message k x = record {
  target = [];
  header = task_header k;
  parent = empty_object;
  metadata = task_metadata k;
  content = task_content x;
  buffers = [];
}
