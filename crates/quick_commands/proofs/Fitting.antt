-- Each record of a tape has a spelling.
use Rattle.std.proofs.Common.{◌≡◌, ℕ, zero, suc, ◌+◌, ◌-◌, ◌*◌, ◌/◌, ◌%◌, ◌^◌, ◌<◌, ◌≤◌, Bool, true, false, if◌then◌else◌, nat_le, List, [], ◌∷◌, ◌++◌, length, codes, decimal, All, flat_map, refl, sym, ap, subst, ◌∙◌, append_assoc, length-append, arith}
use Rattle.std.proofs.lemmas.List.Elements.{All-nil, All-cons, All-append, All-from_recursion}
use Rattle.std.proofs.lemmas.Fmt.{length-decimal-le}
use Rattle.std.specs.Fmt.{digits}
use Rattle.cluster_types.specs.declared.config.Channel.{Channel}
use Rattle.cluster_types.specs.declared.config.Channel.TheVariants.{Task, Engine}
use Rattle.sha2.specs.Sha256.{sha256}
use Rattle.sha2.proofs.Facts256.{length-sha256}
use Rattle.hex.specs.Hex.{lower_digits}
use Rattle.hex.proofs.HexLemmas.{length-encode_with}
use Rattle.json.specs.Print.{escape_byte, quoted}
use Rattle.hmac_sign.specs.Hmac.{with_pad, hmac, tag_of}
use Rattle.edges.specs.Date.{from_month, from_year, civil_date, digits as date_digits, day_text, time_text, date_of}
use Rattle.cluster_defs.specs.Texts.{empty_object, header_text}
use Rattle.jupyter_parts.specs.Signed.{delimiter, signature}
use Rattle.engine_core.specs.Headers.{message_id}
use Rattle.engine_core.specs.Contents.{registration_content}
use Rattle.engine_core.specs.Answer.{registration}
use Rattle.tape.specs.Spelling.{Fits, FitsBlob}
use Rattle.tape.specs.declared.record.TapeRecord.{TapeRecord}
use Rattle.quick_commands.specs.Draws.{draw}
use Rattle.quick_commands.specs.Tasks.{task_header, after_text, task_metadata, task_content}
use Rattle.quick_commands.specs.Generated.{most_tasks, work_key, up, sent, engine_uuid, engine_records, opening, task_record, tasks_from, generated}
use Rattle.edges.proofs.DateRows.{first}

-- a short piece between two others, whose lengths are known
between_fits : (before piece behind : List ℕ) (m n : ℕ) → length before ≡ m → length behind ≡ n → length piece ≤ 30 → m + n < 1000 → FitsBlob (before ++ piece ++ behind)
between_fits before piece behind m n is_before is_behind short few =
    omega (arith, length-append (before ++ piece) behind, length-append before piece)

number_short : (n : ℕ) → n < 2 ^ 32 → length (decimal n) ≤ 10
number_short n small = length-decimal-le 10 n (omega arith) (omega arith) (omega arith)

header_fits : (k : ℕ) → k < 2 ^ 32 → FitsBlob (task_header k)
unfolding task_header
header_fits k small =
    let number = number_short k small in
    between_fits
    (codes "{\"msg_id\":\"t")
    (decimal k)
    (codes "\",\"session\":\"work\",\"username\":\"work\",\"date\":\"1970-01-01T00:00:00.000Z\",\"msg_type\":\"execute_request\",\"version\":\"5.3\"}")
    12 116 refl refl (omega arith) (omega arith)

after_fits : (j : ℕ) → j < 2 ^ 32 → FitsBlob (after_text j)
unfolding after_text
after_fits j small =
    let number = number_short j small in
    between_fits (codes "{\"after\":[\"t") (decimal j) (codes "\"]}") 12 3 refl refl (omega arith) (omega arith)

empty_fits : FitsBlob empty_object
unfolding empty_object
empty_fits = omega arith

metadata_fits : (k : ℕ) → k < 2 ^ 32 → FitsBlob (task_metadata k)
metadata_fits k small =
    elim (nat_le k 8) as (λ (b : Bool). FitsBlob (if b then empty_object else after_text (k - 8))) [
      | true ↦ empty_fits
      | false ↦ after_fits (k - 8) (omega arith)
    ]

sum_short : (left right : List ℕ) → length left ≤ 10 → length right ≤ 10 → length (left ++ codes "+" ++ right) ≤ 30
sum_short left right l r = omega (arith, length-append (left ++ codes "+") right, length-append left (codes "+"))

regrouped : (a b c d e : List ℕ) → a ++ b ++ c ++ d ++ e ≡ a ++ (b ++ c ++ d) ++ e
regrouped a b c d e = simp append_assoc

content_fits : (x : ℕ) → FitsBlob (task_content x)
unfolding task_content
content_fits x =
    let left = decimal (x % 1000) in
    let right = decimal (x / 1000 % 1000) in
    let before = codes "{\"code\":\"" in
    let behind = codes "\",\"silent\":false,\"store_history\":true,\"user_expressions\":{},\"allow_stdin\":false,\"stop_on_error\":true}" in
    let short = sum_short left right (number_short (x % 1000) (omega arith)) (number_short (x / 1000 % 1000) (omega arith)) in
    subst FitsBlob (sym (regrouped before left (codes "+") right behind))
    (between_fits before (left ++ codes "+" ++ right) behind 9 101 refl refl short (omega arith))

tag_length : (key text : List ℕ) → length (tag_of key text) ≡ 64
unfolding hmac
tag_length key text =
    length-encode_with lower_digits (hmac key text)
    ∙ ap (λ (n : ℕ). 2 * n) (length-sha256 (with_pad 0x5c key ++ sha256 (with_pad 0x36 key ++ text)))

signature_fits : (key a b c d : List ℕ) → FitsBlob (signature key a b c d)
signature_fits key a b c d = omega (arith, tag_length key (a ++ b ++ c ++ d))

delimiter_fits : FitsBlob delimiter
unfolding delimiter
delimiter_fits = omega arith

up_fits : (conn : ℕ) (channel : Channel) (identity : List ℕ) → conn < 2 ^ 32 → length identity < 256 → Fits (up conn channel identity)
up_fits conn channel identity small short = record { moment = omega arith; word = omega arith; kind = (small, short) }

frames_fit : (a b c d e f : List ℕ) → FitsBlob a → FitsBlob b → FitsBlob c → FitsBlob d → FitsBlob e → FitsBlob f
    → All FitsBlob (a ∷ b ∷ c ∷ d ∷ e ∷ f ∷ [])
frames_fit a b c d e f pa pb pc pd pe pf =
    All-from_recursion FitsBlob (a ∷ b ∷ c ∷ d ∷ e ∷ f ∷ []) (pa, (pb, (pc, (pd, (pe, (pf, tt))))))

sent_fits : (conn : ℕ) (header metadata content : List ℕ) → conn < 2 ^ 32 → FitsBlob header → FitsBlob metadata → FitsBlob content
    → Fits (sent conn (record { target = []; header = header; parent = empty_object; metadata = metadata; content = content; buffers = [] }))
sent_fits conn header metadata content small h m c =
    let tag = signature work_key header empty_object metadata content in
    let frames = frames_fit delimiter tag header empty_object metadata content delimiter_fits (signature_fits work_key header empty_object metadata content) h empty_fits m c in
    record { moment = omega arith; word = omega arith; kind = (small, omega arith, omega arith, frames) }

task_fits : (k x : ℕ) → k < 2 ^ 32 → Fits (task_record k x)
unfolding task_record
task_fits k x small = sent_fits 5 (task_header k) (task_metadata k) (task_content x) (omega arith) (header_fits k small) (metadata_fits k small) (content_fits x)

tasks_fit : (seed k count : ℕ) → k + count ≤ 2 ^ 32 → All Fits (tasks_from seed k count)
unfolding tasks_from
tasks_fit seed k zero few = All-nil Fits
tasks_fit seed k (suc count) few =
    All-cons Fits (task_record k (draw seed k)) (tasks_from seed (k + 1) count) (task_fits k (draw seed k) (omega arith)) (tasks_fit seed (k + 1) count (omega arith))

abbrev registration_header : ℕ → List ℕ → List ℕ
registration_header conn date =
    header_text (quoted (message_id (engine_uuid conn) 0)) (quoted (engine_uuid conn)) (quoted (engine_uuid conn)) date (quoted (codes "registration_request"))

engine_fits : (conn : ℕ) → conn < 2 ^ 32 → length (engine_uuid conn) ≡ 2 → length (registration_header conn (codes "1970-01-01T00:00:00.000Z")) ≡ 132
    → length (registration_content (engine_uuid conn)) ≡ 13 → All Fits (engine_records conn)
unfolding engine_records
engine_fits conn small uuid header content =
    let at_date : length (registration_header conn (date_of 0)) ≡ 132 = ap (λ (date : List ℕ). length (registration_header conn date)) first ∙ header in
    let comes = up_fits conn Engine (engine_uuid conn) small (omega arith) in
    let asks = sent_fits conn (registration_header conn (date_of 0)) empty_object (registration_content (engine_uuid conn)) small (omega arith) empty_fits (omega arith) in
    All-from_recursion Fits (up conn Engine (engine_uuid conn) ∷ sent conn (registration (engine_uuid conn) 0) ∷ []) (comes, (asks, tt))

first_fits : All Fits (engine_records 1)
unfolding engine_uuid header_text message_id registration_content escape_byte digits
first_fits = engine_fits 1 (omega arith) refl refl refl

second_fits : All Fits (engine_records 2)
unfolding engine_uuid header_text message_id registration_content escape_byte digits
second_fits = engine_fits 2 (omega arith) refl refl refl

third_fits : All Fits (engine_records 3)
unfolding engine_uuid header_text message_id registration_content escape_byte digits
third_fits = engine_fits 3 (omega arith) refl refl refl

fourth_fits : All Fits (engine_records 4)
unfolding engine_uuid header_text message_id registration_content escape_byte digits
fourth_fits = engine_fits 4 (omega arith) refl refl refl

joined : (xs ys : List TapeRecord) → All Fits xs → All Fits ys → All Fits (xs ++ ys)
joined xs ys = All-append Fits xs ys

engines_fit : All Fits (flat_map engine_records (1 ∷ 2 ∷ 3 ∷ 4 ∷ []))
engines_fit =
    joined (engine_records 1) (engine_records 2 ++ (engine_records 3 ++ (engine_records 4 ++ []))) first_fits
    (joined (engine_records 2) (engine_records 3 ++ (engine_records 4 ++ [])) second_fits
    (joined (engine_records 3) (engine_records 4 ++ []) third_fits (joined (engine_records 4) [] fourth_fits (All-nil Fits))))

client_fits : All Fits (up 5 Task (codes "client") ∷ [])
client_fits = All-from_recursion Fits (up 5 Task (codes "client") ∷ []) (up_fits 5 Task (codes "client") (omega arith) (omega arith), tt)

opening_fits : All Fits opening
unfolding opening
opening_fits = joined (flat_map engine_records (1 ∷ 2 ∷ 3 ∷ 4 ∷ [])) (up 5 Task (codes "client") ∷ []) engines_fit client_fits

pub generated_fits : (seed tasks : ℕ) → tasks ≤ most_tasks → All Fits (generated seed tasks)
generated_fits seed tasks few = joined opening (tasks_from seed 1 tasks) opening_fits (tasks_fit seed 1 tasks (omega arith))
