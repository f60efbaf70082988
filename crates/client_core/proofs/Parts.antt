-- One part of a reply, read beside other parts that always read.
use Rattle.std.proofs.Common.{◌≡◌, List, ℕ, Bool, true, false, Ok, Err, codes, refl, sym, ap, ◌∙◌}
use Rattle.std.specs.Str.{is_utf8, chars}
use Rattle.serde_json.proofs.OnLiterals.{serde_json_on_literals}
use Rattle.cluster_defs.specs.declared.content.ReplyMeta.{ReplyMeta}
use Rattle.cluster_defs.specs.declared.fault.ReadError.{ReadError}
use Rattle.cluster_defs.specs.Json.{Reading, reading_then}
use Rattle.cluster_defs.specs.Reply.{read_task, read_declined, read_status, read_reply}

some_task : read_task (codes "{\"msg_id\":\"0\"}") ≡ Ok (codes "0")
unfolding serde_json_on_literals is_utf8 chars read_task
some_task = refl

not_declined : read_declined (codes "{}") ≡ Ok false
unfolding serde_json_on_literals is_utf8 chars read_declined
not_declined = refl

some_status : read_status (codes "{\"status\":\"ok\"}") ≡ Ok true
unfolding serde_json_on_literals is_utf8 chars read_status
some_status = refl

-- a reply of which only the parent header may be at fault
abbrev of_task : Reading (List ℕ) → Reading ReplyMeta
of_task task = reading_then task (λ id. Ok (record { task = id; ok = true; declined = false }))

abbrev of_status : Reading Bool → Reading ReplyMeta
of_status status = reading_then status (λ ok. Ok (record { task = codes "0"; ok = ok; declined = false }))

pub reads_task : (parent : List ℕ) → read_reply parent (codes "{}") (codes "{\"status\":\"ok\"}") ≡ of_task (read_task parent)
reads_task parent = rw (not_declined, some_status) refl

pub reads_status : (content : List ℕ) → read_reply (codes "{\"msg_id\":\"0\"}") (codes "{}") content ≡ of_status (read_status content)
reads_status content = rw (some_task, not_declined) refl

task_read : (reading : Reading (List ℕ)) (m : ReplyMeta) → of_task reading ≡ Ok m → reading ≡ Ok m.task
task_read (Ok id) m h = ap (λ r. reading_then r (λ n. Ok n.task)) h
task_read (Err fault) m h = absurd (cc)

task_fault : (reading : Reading (List ℕ)) (e : ReadError) → of_task reading ≡ Err e → reading ≡ Err e
task_fault (Ok id) e h = absurd (cc)
task_fault (Err fault) e h = ap (λ r. reading_then r (λ n. Ok n.task)) h

status_read : (reading : Reading Bool) (m : ReplyMeta) → of_status reading ≡ Ok m → reading ≡ Ok m.ok
status_read (Ok ok) m h = ap (λ r. reading_then r (λ n. Ok n.ok)) h
status_read (Err fault) m h = absurd (cc)

status_fault : (reading : Reading Bool) (e : ReadError) → of_status reading ≡ Err e → reading ≡ Err e
status_fault (Ok ok) e h = absurd (cc)
status_fault (Err fault) e h = ap (λ r. reading_then r (λ n. Ok n.ok)) h

pub task_of_reply : (parent : List ℕ) (m : ReplyMeta) → read_reply parent (codes "{}") (codes "{\"status\":\"ok\"}") ≡ Ok m → read_task parent ≡ Ok m.task
task_of_reply parent m h = task_read (read_task parent) m (sym (reads_task parent) ∙ h)

pub no_task : (parent : List ℕ) (e : ReadError) → read_reply parent (codes "{}") (codes "{\"status\":\"ok\"}") ≡ Err e → read_task parent ≡ Err e
no_task parent e h = task_fault (read_task parent) e (sym (reads_task parent) ∙ h)

pub status_of_reply : (content : List ℕ) (m : ReplyMeta) → read_reply (codes "{\"msg_id\":\"0\"}") (codes "{}") content ≡ Ok m → read_status content ≡ Ok m.ok
status_of_reply content m h = status_read (read_status content) m (sym (reads_status content) ∙ h)

pub no_status : (content : List ℕ) (e : ReadError) → read_reply (codes "{\"msg_id\":\"0\"}") (codes "{}") content ≡ Err e → read_status content ≡ Err e
no_status content e h = status_fault (read_status content) e (sym (reads_status content) ∙ h)
