-- The messages that a client makes. Texts in JSON are written without blanks.
use Rattle.std.specs.Prelude.{ℕ, Bool, true, false, List, [], ◌++◌, codes, decimal}
use Rattle.json.specs.Print.{quoted}
use Rattle.cluster_types.specs.declared.event.Dep.{Dep}
use Rattle.cluster_types.specs.declared.message.Message.{Message}
use Rattle.cluster_defs.specs.declared.content.SubmitMeta.{SubmitMeta}
use Rattle.cluster_defs.specs.Submit.{once}
use Rattle.cluster_defs.specs.Texts.{texts_list, resubmit_header, empty_object}
use Rattle.edges.specs.Date.{date_of}

-- the type of a request to run code
unfoldable pub execute_request : List ℕ
execute_request = codes "execute_request"

-- the content of a request to run code (Jupyter messaging 5.3, "Execute")
unfoldable pub execute_content : List ℕ → List ℕ
execute_content code =
    codes "{\"code\":" ++ quoted code
    ++ codes ",\"silent\":false,\"store_history\":true,\"user_expressions\":{},\"allow_stdin\":false,\"stop_on_error\":true}"

abbrev pub flag_text : Bool → List ℕ
flag_text true = codes "true"
flag_text false = codes "false"

unfoldable pub dependency_text : Dep → List ℕ
dependency_text d =
    codes "{\"dependencies\":" ++ texts_list d.ids
    ++ codes ",\"all\":" ++ flag_text d.all
    ++ codes ",\"success\":" ++ flag_text d.success
    ++ codes ",\"failure\":" ++ flag_text d.failure ++ codes "}"

-- the metadata of a task
unfoldable pub submit_metadata : SubmitMeta → List ℕ
submit_metadata meta =
    codes "{\"after\":" ++ dependency_text meta.after
    ++ codes ",\"follow\":" ++ dependency_text meta.follow
    ++ codes ",\"targets\":" ++ texts_list meta.targets
    ++ codes ",\"timeout\":" ++ decimal meta.timeout
    ++ codes ",\"retries\":" ++ decimal meta.retries ++ codes "}"

-- what a reader of the metadata sees: each id of a dependency once, at its first place
abbrev pub dependency_once : Dep → Dep
dependency_once d = record d { ids = once d.ids }

abbrev pub meta_once : SubmitMeta → SubmitMeta
meta_once meta = record meta { after = dependency_once meta.after; follow = dependency_once meta.follow }

-- what a client sends beside its session, the id and the moment: to which engine, if to one alone, and what
pub record Request : Type 0 where
  pub target : List ℕ
  pub msg_type : List ℕ
  pub metadata : List ℕ
  pub content : List ℕ

-- a message of a client: its session stands for the user too, it answers nothing and has no buffers
abbrev pub message_under : List ℕ → List ℕ → ℕ → Request → Message
message_under session id moment request = record {
  target = request.target;
  header = resubmit_header id session session request.msg_type (date_of moment);
  parent = empty_object;
  metadata = request.metadata;
  content = request.content;
  buffers = [];
}

-- a task, which may run on any engine that its metadata lets it
abbrev pub task_request : SubmitMeta → List ℕ → Request
task_request meta code = record { target = []; msg_type = execute_request; metadata = submit_metadata meta; content = execute_content code }

-- a request to one engine
abbrev pub engine_request : List ℕ → List ℕ → Request
engine_request engine code = record { target = engine; msg_type = execute_request; metadata = empty_object; content = execute_content code }

-- a request to the hub
abbrev pub hub_request : List ℕ → List ℕ → Request
hub_request msg_type content = record { target = []; msg_type = msg_type; metadata = empty_object; content = content }
