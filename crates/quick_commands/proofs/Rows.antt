-- Worked rows: numbers that are drawn, and a task.
use Rattle.std.proofs.Common.{◌≡◌, List, ℕ, codes, refl}
use Rattle.std.specs.Fmt.{digits}
use Rattle.cluster_defs.specs.Texts.{empty_object}
use Rattle.quick_commands.specs.Draws.{next_draw, draw}
use Rattle.quick_commands.specs.Tasks.{task_header, after_text, task_metadata, task_content}

pub first_draw : draw 1 1 ≡ 1103527590
unfolding next_draw
first_draw = refl

pub second_draw : draw 1 2 ≡ 377401575
unfolding next_draw
second_draw = refl

first_header : task_header 1 ≡ codes "{\"msg_id\":\"t1\",\"session\":\"work\",\"username\":\"work\",\"date\":\"1970-01-01T00:00:00.000Z\",\"msg_type\":\"execute_request\",\"version\":\"5.3\"}"
unfolding task_header digits
first_header = refl

eighth_metadata : task_metadata 8 ≡ codes "{}"
unfolding empty_object
eighth_metadata = refl

ninth_metadata : task_metadata 9 ≡ codes "{\"after\":[\"t1\"]}"
unfolding after_text digits
ninth_metadata = refl

first_content : task_content 1103527590 ≡ codes "{\"code\":\"590+527\",\"silent\":false,\"store_history\":true,\"user_expressions\":{},\"allow_stdin\":false,\"stop_on_error\":true}"
unfolding task_content digits
first_content = refl
