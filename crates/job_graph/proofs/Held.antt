-- Each legal history holds the jobs whose ids it accepted.
use Rattle.std.proofs.Common.{◌≡◌, ℕ, List, [], ◌∷◌, Bool, true, false, cond, ◌||◌, refl, sym, ap, ◌∙◌, subst, Option, Some, None}
use Rattle.std.specs.List.{list_all}
use Rattle.cluster_types.specs.declared.message.Message.{Message}
use Rattle.cluster_types.specs.declared.event.Dep.{Dep}
use Rattle.cluster_types.specs.declared.entry.Input.TheVariants.{In}
use Rattle.cluster_types.specs.declared.entry.Entry.{Entry}
use Rattle.cluster_types.specs.declared.entry.Entry.TheVariants.{Input, Hand, Settle, Lose}
use Rattle.cluster_types.specs.Verdicts.{completed}
use Rattle.cluster_defs.specs.declared.content.SubmitMeta.{SubmitMeta}
use Rattle.cluster_defs.specs.declared.settled.Settled.{Settled}
use Rattle.cluster_defs.specs.Words.{Id, is_empty}
use Rattle.cluster_defs.specs.Submit.{plain_dependency, once}
use Rattle.cluster_defs.specs.Dependencies.{asked, met, on_engine}
use Rattle.cluster_defs.specs.Requests.{Request, is_direct}
use Rattle.cluster_defs.specs.Facts.{Facts}
use Rattle.cluster_defs.specs.Steps.{next}
use Rattle.cluster_defs.specs.Histories.{History, facts, Legal}
use Rattle.cluster_defs.proofs.Options.{some_inj}
use Rattle.cluster_defs.specs.Safety.{after_met, follow_met}
use Rattle.cluster_laws.proofs.Later.{request_stays, later_all}
use Rattle.cluster_laws.proofs.Safe.{legal_after, legal_follow}
use Rattle.job_graph.specs.declared.task.JobTask.{JobTask}
use Rattle.job_graph.specs.Held.{Dependent, dependents, is_completed, HandHeld, TaskHeld, AllHeld, JobHeld, Carries, AcceptedWith, AllAccepted}
use Rattle.job_graph.proofs.Once.{once_all}
use Rattle.job_graph.proofs.Requests.{RequestSays, made}

-- MET

asked_is : (ids : List Id) (o : Option Settled) → asked (plain_dependency ids) o ≡ is_completed o
asked_is ids None = refl
asked_is ids (Some s) = elim (completed s.verdict) as (λ b. cond b true false ≡ b) [ true ↦ refl | false ↦ refl ]

all_of : (ids : List Id) (p : Id → Bool) → (is_empty ids || list_all p ids) ≡ true → list_all p ids ≡ true
all_of [] p h = refl
all_of (id ∷ ids) p h = h

-- a dependency with the flags that are meant where none are written is met where each of its ids completed
met_all : (ids : List Id) (d : Dep) (settled : Id → Option Settled) → d ≡ plain_dependency ids → met d settled ≡ true → list_all (λ i. is_completed (settled i)) ids ≡ true
met_all ids d settled is h =
    let plain : met (plain_dependency ids) settled ≡ true = subst (λ (x : Dep). met x settled ≡ true) is h in
    let each = all_of (once ids) (λ i. asked (plain_dependency ids) (settled i)) plain in
    let all = once_all (λ i. asked (plain_dependency ids) (settled i)) ids each in
    sym (ap (λ (p : Id → Bool). list_all p ids) (λ t i. asked_is ids (settled i) t)) ∙ all

-- A HAND

after_some : (f : Facts) (o : Option Request) → after_met f o ≡ true → (r : Request) × (o ≡ Some r)
after_some f None h = cc
after_some f (Some r) h = (r, refl)

no_direct : (b c : Bool) → b ≡ false → (b || c) ≡ true → c ≡ true
no_direct true c off h = cc
no_direct false c off h = h

hand_held : (older : History) (id : Id) (n : ℕ) (task : Dependent) (r : Request) (meta : SubmitMeta) → Legal (Hand id n ∷ older) → RequestSays r meta → (facts older).request_of id ≡ Some r →
    meta.after ≡ plain_dependency task.after → meta.follow ≡ plain_dependency task.follow → HandHeld (facts older) task n
hand_held older id n task r meta legal says is waits follows =
    let f = facts older in
    let after : after_met f (Some r) ≡ true = subst (λ o. after_met f o ≡ true) is (legal_after (Hand id n ∷ older) legal).0 in
    let follow : follow_met f n (Some r) ≡ true = subst (λ o. follow_met f n o ≡ true) is (legal_follow (Hand id n ∷ older) legal).0 in
    record {
      waited = met_all task.after r.after f.settled (says.waits ∙ waits) (no_direct (is_direct r) _ says.direct after);
      followed = met_all task.follow r.follow (λ i. on_engine n (f.settled i)) (says.follows ∙ follows) (no_direct (is_direct r) _ says.direct follow);
    }

-- THE HISTORY

-- the request of an id, once it has one
abbrev Keeps : Facts → Id → Request → Type 0
Keeps f id r = (x : Request) → f.request_of id ≡ Some x → x ≡ r

keeps_before : (f : Facts) (e : Entry) (id : Id) (r : Request) → Keeps (next f e) id r → Keeps f id r
keeps_before f e id r keeps x is = keeps x (request_stays f e id x is)

hand_of : (older : History) (id : Id) (n : ℕ) (task : Dependent) (r : Request) (meta : SubmitMeta) → Legal (Hand id n ∷ older) → RequestSays r meta → Keeps (facts older) task.id r →
    meta.after ≡ plain_dependency task.after → meta.follow ≡ plain_dependency task.follow → id ≡ task.id → HandHeld (facts older) task n
hand_of older id n task r meta legal says keeps waits follows same =
    let f = facts older in
    let some = after_some f (f.request_of id) (legal_after (Hand id n ∷ older) legal).0 in
    let own : some.0 ≡ r = keeps some.0 (ap (λ i. f.request_of i) (sym same) ∙ some.1) in
    hand_held older id n task r meta legal says (some.1 ∙ ap Some own) waits follows

held_in : (history : History) (task : Dependent) (r : Request) (meta : SubmitMeta) → Legal history → RequestSays r meta → Keeps (facts history) task.id r →
    meta.after ≡ plain_dependency task.after → meta.follow ≡ plain_dependency task.follow → TaskHeld task history
held_in [] task r meta legal says keeps waits follows = tt
held_in (Hand id n ∷ older) task r meta legal says keeps waits follows =
    let before = keeps_before (facts older) (Hand id n) task.id r keeps in
    (hand_of older id n task r meta legal says before waits follows, held_in older task r meta legal.1 says before waits follows)
held_in (Settle i v c ∷ older) task r meta legal says keeps waits follows = held_in older task r meta legal.1 says (keeps_before (facts older) (Settle i v c) task.id r keeps) waits follows
held_in (Lose n ∷ older) task r meta legal says keeps waits follows = held_in older task r meta legal.1 says (keeps_before (facts older) (Lose n) task.id r keeps) waits follows
held_in (Input input ∷ older) task r meta legal says keeps waits follows = held_in older task r meta legal.1 says (keeps_before (facts older) (Input input) task.id r keeps) waits follows

some_same : {X : Type 0} (o : Option X) (x y : X) → o ≡ Some x → o ≡ Some y → x ≡ y
some_same o x y a b = some_inj (sym a ∙ b)

task_held : (history : History) (task : Dependent) (message : Message) → Legal history → AcceptedWith history task.id message → Carries message task → TaskHeld task history
task_held history task message legal at carries =
    let entry : Entry = Input (In at.conn at.moment at.word message) in
    let new = made at.older at.conn at.moment at.word message carries.meta at.demand at.channel carries.reads at.accepts in
    let later = (later_all at.later (entry ∷ at.older)).request at.demand.submission.id new.0 new.2 in
    let here : (facts history).request_of task.id ≡ Some new.0 = (λ t. (facts (at.stands t)).request_of (sym at.names t)) ∙ later in
    held_in history task new.0 carries.meta legal new.1 (λ x is. some_same ((facts history).request_of task.id) x new.0 is here) carries.waits carries.follows

all_held : (history : History) (tasks : List Dependent) (messages : List Message) → Legal history → AllAccepted history tasks messages → AllHeld tasks history
all_held history [] messages legal all = tt
all_held history (task ∷ tasks) [] legal all = absurd all
all_held history (task ∷ tasks) (message ∷ messages) legal all = (task_held history task message legal all.0 all.1, all_held history tasks messages legal all.2)

pub job_held : (history : History) (job : List JobTask) (ids : List Id) (messages : List Message) → Legal history → AllAccepted history (dependents job ids) messages → JobHeld job ids history
job_held history job ids messages legal all = all_held history (dependents job ids) messages legal all
