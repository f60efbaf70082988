-- Histories told line by line, the oldest entry first: each entry with its event, and what the definitions have to say of it.
use Rattle.std.proofs.Common.{◌≡◌, ap, sym, subst, ℕ, suc, List, [], ◌∷◌, map, Option, Some, None, Bool, true}
use Rattle.cluster_types.specs.declared.message.Message.{Message}
use Rattle.cluster_types.specs.declared.event.Dep.{Dep}
use Rattle.cluster_types.specs.declared.event.Submission.{Submission}
use Rattle.cluster_types.specs.declared.event.Event.{Event}
use Rattle.cluster_types.specs.declared.out.Out.{Out}
use Rattle.cluster_types.specs.declared.entry.Input.TheVariants.{Open}
use Rattle.cluster_types.specs.declared.entry.Entry.{Entry}
use Rattle.cluster_types.specs.declared.entry.Entry.TheVariants.{Input, Hand, Settle, Lose}
use Rattle.cluster_defs.specs.Facts.{Facts, nothing_yet, event_in}
use Rattle.cluster_defs.specs.Steps.{step}
use Rattle.cluster_defs.specs.Scheduling.{due, may_take, is_kept_as, AllowedAs}
use Rattle.cluster_defs.specs.Histories.{History, facts, Legal}
use Rattle.cluster_defs.specs.Outs.{outs_as}

pub record Line : Type 0 where
  pub entry : Entry
  pub event : Option Event
  pub kept : Bool
  pub outs : List Out

-- what the definitions say of an entry: the decision that is due before it, whether it may be taken where it is an input,
-- whether it is kept, and what it sends
pub record Said : Type 0 where
  pub due_before : Option Entry
  pub takes : Bool
  pub kept : Bool
  pub outs : List Out

abbrev pub takes : Facts → Entry → Option Event → Bool
takes f (Input input) event = may_take f input event
takes f _ event = true

-- an Open has the place 0, any other entry the next one
abbrev pub place_at : Entry → ℕ → ℕ
place_at (Input (Open moment scheme hwm misses)) at = 0
place_at _ at = at

abbrev pub said : Facts → ℕ → Line → Said
said f at l = record {
  due_before = due f;
  takes = takes f l.entry l.event;
  kept = is_kept_as f l.entry l.event;
  outs = outs_as at f l.entry l.event;
}

-- what they say of all lines, one after another
abbrev pub said_all : Facts → ℕ → List Line → List Said
said_all f at [] = []
said_all f at (l ∷ lines) = said f (place_at l.entry at) l ∷ said_all (step f l.entry l.event) (suc (place_at l.entry at)) lines

-- a decision has to be due itself, and before an input none may be
abbrev pub due_for : Entry → Option Entry
due_for (Input input) = None
due_for decision = Some decision

abbrev pub told : Line → Said
told l = record { due_before = due_for l.entry; takes = true; kept = l.kept; outs = l.outs }

-- the facts after the lines
abbrev pub told_facts : Facts → List Line → Facts
told_facts f [] = f
told_facts f (l ∷ lines) = told_facts (step f l.entry l.event) lines

-- the events of all lines, read from their messages
abbrev pub read_all : Facts → List Line → List (Option Event)
read_all f [] = []
read_all f (l ∷ lines) = event_in f l.entry ∷ read_all (step f l.entry l.event) lines

-- from the first entry on each line is allowed, kept and sends as told, its event is that of its message, and at the end
-- no decision is due
pub record IsTold (lines : List Line) : Type 0 where
  pub goes : said_all nothing_yet 0 lines ≡ map told lines
  pub reads : read_all nothing_yet lines ≡ map (λ l. l.event) lines
  pub rests : due (told_facts nothing_yet lines) ≡ None

-- the history that goes on by the entries of the lines
abbrev pub goes_on : History → List Line → History
goes_on older [] = older
goes_on older (l ∷ lines) = goes_on (l.entry ∷ older) lines

abbrev first_of : {X : Type 0} → X → List X → X
first_of x [] = x
first_of x (y ∷ ys) = y

abbrev others : {X : Type 0} → List X → List X
others [] = []
others (x ∷ xs) = xs

allowed_from : (f : Facts) (e : Entry) (event : Option Event) → due f ≡ due_for e → takes f e event ≡ true → AllowedAs f e event
allowed_from f (Input input) event is may = (is, may)
allowed_from f (Hand id n) event is may = is
allowed_from f (Settle id v c) event is may = is
allowed_from f (Lose n) event is may = is

goes_legal : (lines : List Line) (at : ℕ) (older : History) → Legal older → read_all (facts older) lines ≡ map (λ l. l.event) lines → said_all (facts older) at lines ≡ map told lines → Legal (goes_on older lines)
goes_legal [] at older legal reads is = legal
goes_legal (l ∷ lines) at older legal reads is =
    let first = ap (first_of (told l)) is in
    let event = sym (ap (first_of l.event) reads) in
    let allowed = allowed_from (facts older) l.entry l.event (ap (λ s. s.due_before) first) (ap (λ s. s.takes) first) in
    let here = subst (λ event. AllowedAs (facts older) l.entry event) event allowed in
    let later = subst (λ event. read_all (step (facts older) l.entry event) lines ≡ map (λ l. l.event) lines) event (ap others reads) in
    let rest = subst (λ event. said_all (step (facts older) l.entry event) (suc (place_at l.entry at)) lines ≡ map told lines) event (ap others is) in
    goes_legal lines (suc (place_at l.entry at)) (l.entry ∷ older) (here, legal) later rest

-- a told history is legal
pub told_legal : (lines : List Line) → IsTold lines → Legal (goes_on [] lines)
told_legal lines is = goes_legal lines 0 [] tt is.reads is.goes

-- SHORT FORMS

abbrev pub line : Entry → Option Event → Bool → List Out → Line
line entry event kept outs = record { entry = entry; event = event; kept = kept; outs = outs }

abbrev pub decision : Entry → List Out → Line
decision entry outs = record { entry = entry; event = None; kept = true; outs = outs }

abbrev pub message : List ℕ → List ℕ → List ℕ → List ℕ → List ℕ → List (List ℕ) → Message
message target header parent metadata content buffers =
    record { target = target; header = header; parent = parent; metadata = metadata; content = content; buffers = buffers }

abbrev pub dep : List (List ℕ) → Bool → Bool → Bool → Dep
dep ids all success failure = record { ids = ids; all = all; success = success; failure = failure }

abbrev pub submission : List ℕ → List ℕ → List ℕ → List ℕ → Dep → Dep → List (List ℕ) → ℕ → ℕ → Submission
submission id msg_type session username after follow targets timeout retries = record {
  id = id;
  msg_type = msg_type;
  session = session;
  username = username;
  after = after;
  follow = follow;
  targets = targets;
  timeout = timeout;
  retries = retries;
}
