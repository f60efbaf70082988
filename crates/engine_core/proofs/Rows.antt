-- Worked rows: what is read, what is sent, and whole answers.
use Rattle.std.proofs.Common.{◌≡◌, ◌<◌, ◌^◌, ◌++◌, refl, sym, subst, codes, ℕ, List, pos, negsuc, true, false, [], ◌∷◌, Ok, Err, Some, None, arith}
use Rattle.serde_json.proofs.OnLiterals.{serde_json_on_literals}
use Rattle.std.specs.Str.{is_utf8, chars}
use Rattle.std.specs.Fmt.{digits}
use Rattle.std.specs.Int.{int_wrap}
use Rattle.cluster_types.specs.declared.message.Message.{Message}
use Rattle.edges.specs.Date.{from_month, from_year, civil_date, digits as date_digits, day_text, time_text, date_of}
use Rattle.json.specs.Print.{escape_byte}
use Rattle.arith_syntax.specs.declared.operators.BinaryOperator.TheVariants.{Multiply}
use Rattle.arith_syntax.specs.declared.token.Token.TheVariants.{Number, Binary}
use Rattle.arith_syntax.specs.Lexical.{constant, symbol, token_at, lexemes}
use Rattle.arith_syntax.specs.Tree.{Constant, Operation}
use Rattle.arith_syntax.specs.Grammar.{Grammar}
use Rattle.arith_eval.specs.declared.error.ArithError.TheVariants.{NameError}
use Rattle.cluster_defs.specs.declared.fault.ReadError.TheVariants.{Missing, BadField}
use Rattle.cluster_defs.specs.Header.{read_header}
use Rattle.cluster_defs.specs.Event.{is_request}
use Rattle.cluster_defs.specs.Texts.{empty_object, header_text, outcome_content, reply_type}
use Rattle.engine_core.specs.declared.fault.Fault.TheVariants.{Arithmetic}
use Rattle.engine_core.specs.Request.{read_execute, expression}
use Rattle.engine_core.specs.Contents.{failed_content, executed_content, value_content}
use Rattle.engine_core.specs.Headers.{message_id}
use Rattle.engine_core.specs.State.{is_uuid, Session, Standing}
use Rattle.engine_core.specs.Answer.{plain_message, AnswersExecution, Answers}
use Rattle.edges.proofs.DateRows.{first as first_date}

no_uuid : is_uuid [] ≡ false
no_uuid = refl

-- no name has a value
abbrev fresh : ℕ → Session
fresh count = record { names = λ x. None; count = count }

six_request : read_execute (codes "{\"code\":\"6*7\"}") ≡ Ok (record { code = codes "6*7"; silent = false; store_history = true; user_expressions = [] })
unfolding serde_json_on_literals is_utf8 chars read_execute
six_request = refl

-- the user expressions by ascending name, and of a name that comes twice the last
by_name : read_execute (codes "{\"code\":\"\",\"silent\":true,\"user_expressions\":{\"b\":\"1\",\"a\":\"2\",\"b\":\"3\"}}") ≡ Ok (record { code = []; silent = true; store_history = true; user_expressions = expression (codes "a") (codes "2") ∷ expression (codes "b") (codes "3") ∷ [] })
unfolding serde_json_on_literals is_utf8 chars read_execute
by_name = refl

no_code : read_execute (codes "{\"silent\":1}") ≡ Err (Missing (codes "code"))
unfolding serde_json_on_literals is_utf8 chars read_execute
no_code = refl

bad_silent : read_execute (codes "{\"code\":\"1\",\"store_history\":2,\"silent\":null}") ≡ Err (BadField (codes "silent"))
unfolding serde_json_on_literals is_utf8 chars read_execute
bad_silent = refl

six : 6 < 2 ^ 63
six = omega arith

seven : 7 < 2 ^ 63
seven = omega arith

six_program : Grammar (codes "6*7") (Operation Multiply (Constant 6) (Constant 7) ∷ [])
unfolding constant symbol token_at lexemes
six_program = record {
  short = omega arith;
  all = Number 6 ∷ Binary Multiply ∷ Number 7 ∷ [];
  read = refl;
  program = record {
    first = Number 6 ∷ Binary Multiply ∷ Number 7 ∷ [];
    more = [];
    parts = refl;
    expressions = refl;
    each = (record { grammar = (omega arith, omega arith, six, seven); depth = omega arith }, tt);
  };
}

-- `6*7` on a new engine
six_times_seven : AnswersExecution (Ok (record { code = codes "6*7"; silent = false; store_history = true; user_expressions = [] })) (fresh 0) (codes "{\"status\":\"ok\",\"execution_count\":1,\"user_expressions\":{},\"result\":\"42\"}") (fresh 1)
unfolding int_wrap executed_content digits
six_times_seven = (
  refl,
  record {
    code = Ok (pos 42);
    between = λ x. None;
    gives = record { trees = Operation Multiply (Constant 6) (Constant 7) ∷ []; grammar = six_program; gives = refl; leaves = refl };
    replies = ([], refl, refl);
  },
)

shown : executed_content 3 (record { name = codes "a"; value = Ok (negsuc 6) } ∷ record { name = codes "b"; value = Err (Arithmetic (NameError (codes "y"))) } ∷ []) (pos 0) ≡ codes "{\"status\":\"ok\",\"execution_count\":3,\"user_expressions\":{\"a\":{\"status\":\"ok\",\"data\":{\"text/plain\":\"-7\"},\"metadata\":{}},\"b\":{\"status\":\"error\",\"ename\":\"NameError\",\"evalue\":\"y\",\"traceback\":[]}},\"result\":\"0\"}"
unfolding executed_content value_content outcome_content escape_byte digits
shown = refl

-- an engine with the uuid `u`
abbrev engine : ℕ → ℕ → Standing
engine count replies = record { uuid = codes "u"; session = fresh count; replies = replies }

-- its first reply, of a type, to a header, with a content
abbrev first_reply : List ℕ → List ℕ → List ℕ → Message
first_reply msg_type parent content =
    plain_message (codes "{\"msg_id\":\"u-1\",\"session\":\"u\",\"username\":\"u\",\"date\":\"1970-01-01T00:00:00.000Z\",\"msg_type\":\"" ++ msg_type ++ codes "\",\"version\":\"5.3\"}") parent content

abbrev header : List ℕ → List ℕ
header msg_type = codes "{\"msg_id\":\"a\",\"msg_type\":\"" ++ msg_type ++ codes "\"}"

-- the whole answers to a type that isn't supported, to `6*7`, and to a reply
apply_answer : Answers (engine 0 0) (plain_message (header (codes "apply_request")) (codes "{}") []) 0 (Some (first_reply (codes "apply_reply") (header (codes "apply_request")) (codes "{\"status\":\"error\",\"execution_count\":0,\"ename\":\"NotSupported\",\"evalue\":\"apply_request\",\"traceback\":[]}"))) (engine 0 1)
unfolding serde_json_on_literals is_utf8 chars read_header is_request reply_type header_text message_id empty_object failed_content escape_byte digits
apply_answer = record {
  content = codes "{\"status\":\"error\",\"execution_count\":0,\"ename\":\"NotSupported\",\"evalue\":\"apply_request\",\"traceback\":[]}";
  answers = (refl, refl);
  uuid = refl;
  replies = refl;
  is = rw first_date refl;
}

six_answer : Answers (engine 0 0) (plain_message (header (codes "execute_request")) (codes "{}") (codes "{\"code\":\"6*7\"}")) 0 (Some (first_reply (codes "execute_reply") (header (codes "execute_request")) (codes "{\"status\":\"ok\",\"execution_count\":1,\"user_expressions\":{},\"result\":\"42\"}"))) (engine 1 1)
unfolding serde_json_on_literals is_utf8 chars read_header is_request reply_type header_text message_id empty_object escape_byte digits
six_answer = record {
  content = codes "{\"status\":\"ok\",\"execution_count\":1,\"user_expressions\":{},\"result\":\"42\"}";
  answers = subst (λ r. AnswersExecution r (fresh 0) (codes "{\"status\":\"ok\",\"execution_count\":1,\"user_expressions\":{},\"result\":\"42\"}") (fresh 1)) (sym six_request) six_times_seven;
  uuid = refl;
  replies = refl;
  is = rw first_date refl;
}

reply_answer : Answers (engine 0 0) (plain_message (header (codes "execute_reply")) (codes "{}") (codes "{}")) 0 None (engine 0 0)
unfolding serde_json_on_literals is_utf8 chars read_header is_request
reply_answer = (refl, refl)
