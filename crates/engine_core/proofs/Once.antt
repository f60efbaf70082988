-- An engine has one answer to a message.
use Rattle.std.proofs.Common.{◌≡◌, ◌≢◌, ◌∙◌, ℕ, ℤ, List, [], ◌∷◌, Option, Some, None, Result, Ok, Err, refl, sym, ap, subst, min, ◌+◌, ◌-◌, ◌^◌}
use Rattle.cluster_types.specs.declared.message.Message.{Message}
use Rattle.cluster_defs.specs.Json.{Reading}
use Rattle.cluster_defs.specs.Header.{read_header}
use Rattle.arith_syntax.specs.declared.error.SyntaxError.{SyntaxError}
use Rattle.arith_syntax.specs.declared.error.SyntaxError.TheVariants.{OutOfMemory}
use Rattle.arith_syntax.specs.Grammar.{FirstFault}
use Rattle.arith_syntax.proofs.Writing.{one_program, same_fault, fault_or_program}
use Rattle.arith_eval.specs.declared.error.ArithError.{ArithError}
use Rattle.arith_eval.specs.Names.{Environment}
use Rattle.arith_eval.specs.Value.{Number, value_of_program}
use Rattle.engine_core.specs.declared.fault.Fault.{Fault}
use Rattle.engine_core.specs.declared.fault.Fault.TheVariants.{Syntax, Arithmetic}
use Rattle.engine_core.specs.declared.evaluation.Shown.{Shown}
use Rattle.engine_core.specs.declared.kinds.RequestKind.{RequestKind}
use Rattle.engine_core.specs.declared.kinds.RequestKind.TheVariants.{Execute, Beat, Other}
use Rattle.engine_core.specs.declared.request.Expression.{Expression}
use Rattle.engine_core.specs.declared.request.ExecuteRequest.{ExecuteRequest}
use Rattle.engine_core.specs.Evaluation.{IsRun, Gives, GiveAll}
use Rattle.engine_core.specs.Contents.{executed_content}
use Rattle.engine_core.specs.Request.{read_execute}
use Rattle.engine_core.specs.State.{Session, Standing}
use Rattle.engine_core.specs.Answer.{Replies, Executes, AnswersExecution, AnswersContent, kind_of, request_in, risen, counted, reply_message, Replied, AnswersAs, Answers}

run_once : (text : List ℕ) (names : Environment) (a b : Number) (after other : Environment) → IsRun text names a after → IsRun text names b other → (a ≡ b) × (after ≡ other)
run_once text names a b after other g h =
    let same = one_program text g.trees h.trees g.grammar h.grammar in (
      sym g.gives ∙ ap (λ t. (value_of_program t names).value) same ∙ h.gives,
      g.leaves ∙ ap (λ t. (value_of_program t names).names) same ∙ sym h.leaves,
    )

ok_value : (v w : ℤ) → ◌≡◌ {A = Number} (Ok v) (Ok w) → v ≡ w
ok_value v w e = cc

err_value : (d e : ArithError) → ◌≡◌ {A = Number} (Err d) (Err e) → d ≡ e
err_value d e p = cc

ok_or_err : (v : ℤ) (e : ArithError) → ◌≡◌ {A = Number} (Ok v) (Err e) → ⊥
ok_or_err v e p = cc

gives_once : (text : List ℕ) (names : Environment) (r s : Result ℤ Fault) (after other : Environment) → Gives text names r after → Gives text names s other → (r ≡ s) × (after ≡ other)
gives_once text names (Ok v) (Ok w) after other g h =
    let p = run_once text names (Ok v) (Ok w) after other g h in (ap Ok (ok_value v w p.0), p.1)
gives_once text names (Ok v) (Err (Arithmetic e)) after other g h =
    absurd (ok_or_err v e (run_once text names (Ok v) (Err e) after other g h).0)
gives_once text names (Err (Arithmetic e)) (Ok v) after other g h =
    absurd (ok_or_err v e (sym (run_once text names (Err e) (Ok v) after other g h).0))
gives_once text names (Err (Arithmetic d)) (Err (Arithmetic e)) after other g h =
    let p = run_once text names (Err d) (Err e) after other g h in (ap (λ x. Err (Arithmetic x)) (err_value d e p.0), p.1)
gives_once text names (Ok v) (Err (Syntax e)) after other g h = absurd (fault_or_program text g.trees e g.grammar h.0 h.1)
gives_once text names (Err (Arithmetic d)) (Err (Syntax e)) after other g h = absurd (fault_or_program text g.trees e g.grammar h.0 h.1)
gives_once text names (Err (Syntax e)) (Ok v) after other g h = absurd (fault_or_program text h.trees e h.grammar g.0 g.1)
gives_once text names (Err (Syntax e)) (Err (Arithmetic d)) after other g h = absurd (fault_or_program text h.trees e h.grammar g.0 g.1)
gives_once text names (Err (Syntax d)) (Err (Syntax e)) after other g h =
    (ap (λ x. Err (Syntax x)) (same_fault text d e g.0 h.0 g.1 h.1), g.2 ∙ sym h.2)

abbrev shown_of : List ℕ → Result ℤ Fault → Shown
shown_of name value = record { name = name; value = value }

shown_same : (s t : Shown) → s.name ≡ t.name → s.value ≡ t.value → s ≡ t
shown_same s t name value = ap (λ n. shown_of n s.value) name ∙ ap (shown_of t.name) value

all_once : (es : List Expression) (names : Environment) (s t : List Shown) (after other : Environment) → GiveAll es names s after → GiveAll es names t other → (s ≡ t) × (after ≡ other)
all_once [] names [] [] after other g h = (refl, g ∙ sym h)
all_once [] names [] (y ∷ t) after other g h = absurd h
all_once [] names (x ∷ s) t after other g h = absurd g
all_once (e ∷ es) names [] t after other g h = absurd g
all_once (e ∷ es) names (x ∷ s) [] after other g h = absurd h
all_once (e ∷ es) names (x ∷ s) (y ∷ t) after other g h =
    let first = gives_once e.code names x.value y.value g.0 h.0 g.2 h.2 in
    let rest = all_once es g.0 s t after other g.3 (subst (λ z. GiveAll es z t other) (sym first.1) h.3) in
    (ap (λ z. z ∷ s) (shown_same x y (g.1 ∙ sym h.1) first.0) ∙ ap (λ z. y ∷ z) rest.0, rest.1)

replies_once : (code : Result ℤ Fault) (request : ExecuteRequest) (count : ℕ) (names : Environment) (a b : List ℕ) (after other : Environment) → Replies code request count names a after → Replies code request count names b other → (a ≡ b) × (after ≡ other)
replies_once (Ok v) request count names a b after other g h =
    let all = all_once request.user_expressions names g.0 h.0 after other g.1 h.1 in
    (g.2 ∙ ap (λ z. executed_content count z v) all.0 ∙ sym h.2, all.1)
replies_once (Err fault) request count names a b after other g h = (g.1 ∙ sym h.1, g.0 ∙ sym h.0)

executes_once : (request : ExecuteRequest) (count : ℕ) (names : Environment) (a b : List ℕ) (after other : Environment) → Executes request count names a after → Executes request count names b other → (a ≡ b) × (after ≡ other)
executes_once request count names a b after other g h =
    let code = gives_once request.code names g.code h.code g.between h.between g.gives h.gives in
    let same = subst (λ z. Replies z request count h.between b other) (sym code.0) h.replies in
    replies_once g.code request count g.between a b after other g.replies (subst (λ z. Replies g.code request count z b other) (sym code.1) same)

abbrev session_of : Environment → ℕ → Session
session_of names count = record { names = names; count = count }

session_same : (s t : Session) → s.names ≡ t.names → s.count ≡ t.count → s ≡ t
session_same s t names count = ap (λ n. session_of n s.count) names ∙ ap (session_of t.names) count

execution_once : (r : Reading ExecuteRequest) (before : Session) (a b : List ℕ) (after other : Session) → AnswersExecution r before a after → AnswersExecution r before b other → (a ≡ b) × (after ≡ other)
execution_once (Ok request) before a b after other g h =
    let p = executes_once request (counted request before.count) before.names a b after.names other.names g.1 h.1 in
    (p.0, session_same after other p.1 (g.0 ∙ sym h.0))
execution_once (Err fault) before a b after other g h = (g.1 ∙ sym h.1, g.0 ∙ sym h.0)

content_once : (kind : RequestKind) (msg_type asked : List ℕ) (before : Session) (a b : List ℕ) (after other : Session) → AnswersContent kind msg_type asked before a after → AnswersContent kind msg_type asked before b other → (a ≡ b) × (after ≡ other)
content_once Execute msg_type asked before a b after other g h = execution_once (read_execute asked) before a b after other g h
content_once Beat msg_type asked before a b after other g h = (g.1 ∙ sym h.1, g.0 ∙ sym h.0)
content_once Other msg_type asked before a b after other g h = (g.1 ∙ sym h.1, g.0 ∙ sym h.0)

abbrev standing_of : List ℕ → Session → ℕ → Standing
standing_of uuid session replies = record { uuid = uuid; session = session; replies = replies }

standing_same : (s t : Standing) → s.uuid ≡ t.uuid → s.session ≡ t.session → s.replies ≡ t.replies → s ≡ t
standing_same s t uuid session replies =
    ap (λ u. standing_of u s.session s.replies) uuid ∙ ap (λ z. standing_of t.uuid z s.replies) session ∙ ap (standing_of t.uuid t.session) replies

replied_once : (msg_type : List ℕ) (before : Standing) (message : Message) (moment : ℕ) (a b : Message) (s t : Standing) → Replied msg_type before message moment a s → Replied msg_type before message moment b t → (a ≡ b) × (s ≡ t)
replied_once msg_type before message moment a b s t g h =
    let p = content_once (kind_of msg_type) msg_type message.content before.session g.content h.content s.session t.session g.answers h.answers in (
      g.is ∙ ap (reply_message before.uuid (risen before.replies) msg_type message moment) p.0 ∙ sym h.is,
      standing_same s t (g.uuid ∙ sym h.uuid) p.1 (g.replies ∙ sym h.replies),
    )

answers_as_once : (type : Option (List ℕ)) (before : Standing) (message : Message) (moment : ℕ) (a b : Option Message) (s t : Standing) → AnswersAs type before message moment a s → AnswersAs type before message moment b t → (a ≡ b) × (s ≡ t)
answers_as_once None before message moment a b s t g h = (g.0 ∙ sym h.0, g.1 ∙ sym h.1)
answers_as_once (Some msg_type) before message moment None b s t g h = absurd g
answers_as_once (Some msg_type) before message moment (Some a) None s t g h = absurd h
answers_as_once (Some msg_type) before message moment (Some a) (Some b) s t g h =
    let p = replied_once msg_type before message moment a b s t g h in (ap Some p.0, p.1)

pub answers_once : (before : Standing) (message : Message) (moment : ℕ) (a b : Option Message) (s t : Standing) → Answers before message moment a s → Answers before message moment b t → (a ≡ b) × (s ≡ t)
answers_once before message moment a b s t g h = answers_as_once (request_in (read_header message.header)) before message moment a b s t g h
