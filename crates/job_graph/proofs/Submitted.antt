-- What is submitted for a job is within the limits, and its messages carry what the tasks wait for.
use Rattle.std.proofs.Common.{◌≡◌, ℕ, suc, ◌≤◌, ◌<◌, ◌+◌, Bool, true, false, List, [], ◌∷◌, ◌++◌, length, map, Option, Some, None, Result, Ok, Err, bytes_eq, if◌then◌else◌, take, drop, get_or, append_assoc, arith, refl, sym, ap, ap₂, subst, ◌∙◌}
use Rattle.std.specs.Prelude.{nat_le, ◌==◌, not, ◌&&◌}
use Rattle.std.specs.List.{list_all, filter_map, cons_option, slice_split}
use Rattle.std.proofs.lemmas.Bool.{and_parts, and_from}
use Rattle.std.proofs.lemmas.Bool.Decides.{nat_tests, Decides-eqb}
use Rattle.std.proofs.lemmas.List.{length-append, take_more, drop_more}
use Rattle.std.proofs.lemmas.List.Elements.{filter_map-append}
use Rattle.cluster_types.specs.declared.message.Message.{Message}
use Rattle.cluster_defs.specs.Words.{Id, or_else}
use Rattle.cluster_defs.specs.Fields.{is_id}
use Rattle.cluster_defs.specs.Histories.{History}
use Rattle.client_core.specs.Limits.{are_ids, is_within_limits}
use Rattle.client_core.specs.Messages.{meta_once}
use Rattle.client_core.specs.Numbers.{numbered_id, numbered_ids}
use Rattle.client_core.specs.Submissions.{are_within, AreReadBack}
use Rattle.client_core.proofs.Numbers.{ids_are_ids}
use Rattle.job_graph.specs.declared.task.JobTask.{JobTask}
use Rattle.job_graph.specs.declared.error.JobError.{JobError}
use Rattle.job_graph.specs.Lines.{line_task}
use Rattle.job_graph.specs.Jobs.{is_taken, are_known, task_fault, line_fault, fault_of, tasks_in, first_fault, counted, unless, IsJob}
use Rattle.job_graph.specs.Held.{id_named, dependents_by, dependents, AllAccepted}
use Rattle.job_graph.specs.Submitting.{job_submission, job_submissions, AreAccepted, IsHeldWith}
use Rattle.job_graph.proofs.Formed.{Formed, IsFormed, line_formed}
use Rattle.job_graph.proofs.Held.{job_held}
use Rattle.job_graph.proofs.Pigeons.{no_more}

-- THE TASKS OF A JOB LIST FEW NAMES

pub record IsBounded (most : ℕ) (task : JobTask) : Type 0 where
  pub waits : length task.after ≤ most
  pub follows : length task.follow ≤ most
  pub retries : nat_le task.retries 1000 ≡ true

abbrev pub AreBounded : ℕ → List JobTask → Type 0
AreBounded most [] = Unit {0}
AreBounded most (task ∷ tasks) = IsBounded most task × AreBounded most tasks

none_first : (o p : Option JobError) → or_else o p ≡ None → (o ≡ None) × (p ≡ None)
none_first None p h = (refl, h)
none_first (Some fault) p h = absurd (cc)

known_both : (taken known : Bool) (double unknown : JobError) → (if taken then Some double else if not known then Some unknown else None) ≡ None → known ≡ true
known_both true known double unknown h = absurd (cc)
known_both false true double unknown h = refl
known_both false false double unknown h = absurd (cc)

-- a task without a fault lists no more names than there are earlier tasks
bounded_by : (number most : ℕ) (earlier : List JobTask) (task : JobTask) → IsFormed task → task_fault number earlier task ≡ None → length earlier ≤ most → IsBounded most task
bounded_by number most earlier task formed none few =
    let known = and_parts (are_known task.after earlier) (are_known task.follow earlier) (known_both (is_taken task.name earlier) (are_known task.after earlier && are_known task.follow earlier) _ _ none) in
    let waits = no_more earlier task.after formed.waits known.0 in
    let follows = no_more earlier task.follow formed.follows known.1 in
    record { waits = omega (arith, waits, few); follows = omega (arith, follows, few); retries = formed.retries }

never_empty : (n : ℕ) → (suc n == 0) ≡ true → ⊥
never_empty n h = let none : suc n ≡ 0 = (Decides-eqb (suc n) 0).0 h in absurd (omega (arith, none))

empty_line : (line : List ℕ) → (length line == 0) ≡ true → line_task line ≡ None
empty_line [] h = refl
empty_line (c ∷ line) h = absurd (never_empty (length line) h)

line_bounded : (number most : ℕ) (earlier : List JobTask) (line : List ℕ) (rest : List JobTask) (o : Option JobTask) → line_task line ≡ o → Formed o → fault_of number earlier line ≡ None → length earlier ≤ most
    → AreBounded most rest → AreBounded most (cons_option o rest)
line_bounded number most earlier line rest None is formed none few more = more
line_bounded number most earlier line rest (Some task) is formed none few more = (by_length (length line == 0) refl none, more)
  where
    by_length : (b : Bool) → (length line == 0) ≡ b → (if b then None else line_fault number earlier (line_task line)) ≡ None → IsBounded most task
    by_length true empty k = let clash : None ≡ Some task = sym (empty_line line empty) ∙ is in absurd (cc)
    by_length false full k = bounded_by number most earlier task formed (ap (line_fault number earlier) (sym is) ∙ k) few

lines_bounded : (before lines : List (List ℕ)) (most : ℕ) → length (tasks_in (before ++ lines)) ≤ most → first_fault before lines ≡ None → AreBounded most (tasks_in lines)
lines_bounded before [] most few none = tt
lines_bounded before (line ∷ lines) most few none =
    let both = none_first (fault_of (length before + 1) (tasks_in before) line) (first_fault (before ++ line ∷ []) lines) none in
    let long : length (tasks_in (before ++ line ∷ lines)) ≡ length (tasks_in before) + length (tasks_in (line ∷ lines)) = ap length (filter_map-append line_task before (line ∷ lines)) ∙ length-append (tasks_in before) (tasks_in (line ∷ lines)) in
    let next : length (tasks_in ((before ++ line ∷ []) ++ lines)) ≤ most = subst (λ l. length (tasks_in l) ≤ most) (sym (append_assoc before (line ∷ []) lines)) few in
    line_bounded (length before + 1) most (tasks_in before) line (tasks_in lines) (line_task line) refl (line_formed line) both.0 (omega (arith, long, few)) (lines_bounded (before ++ line ∷ []) lines most next both.1)

unless_ok : (o : Option JobError) (r : Result (List JobTask) JobError) (job : List JobTask) → unless o r ≡ Ok job → (o ≡ None) × (r ≡ Ok job)
unless_ok None r job h = (refl, h)
unless_ok (Some fault) r job h = absurd (cc)

within_4096 : (n : ℕ) → nat_le n 4096 ≡ true → n ≤ 4096
within_4096 n h = grind (arith, nat_tests)

counted_ok : (tasks job : List JobTask) → counted tasks ≡ Ok job → (tasks ≡ job) × (length tasks ≤ 4096)
counted_ok [] job h = absurd (cc)
counted_ok (task ∷ tasks) job h = by_test (nat_le (length (task ∷ tasks)) 4096) refl h
  where
    by_test : (b : Bool) → nat_le (length (task ∷ tasks)) 4096 ≡ b → (if b then Ok (task ∷ tasks) else Err JobError.TooMany) ≡ Ok job → (task ∷ tasks ≡ job) × (length (task ∷ tasks) ≤ 4096)
    by_test true few k = ((cc), within_4096 (length (task ∷ tasks)) few)
    by_test false few k = absurd (cc)

job_bounded : (job : List JobTask) → IsJob job → AreBounded 4096 job
job_bounded job is =
    let lines = slice_split (λ c. c == 10) is.0 in
    let parts = unless_ok (first_fault [] lines) (counted (tasks_in lines)) job is.1 in
    let all = counted_ok (tasks_in lines) job parts.1 in
    subst (AreBounded 4096) all.0 (lines_bounded [] lines 4096 all.1 parts.0)

-- WITHIN THE LIMITS

abbrev first_of : Option Id → Id
first_of (Some id) = id
first_of None = []

named_step : (p : List ℕ → Bool) (b : Bool) (x id : Id) (o : Option Id) → (if b then Some x else o) ≡ Some id → p x ≡ true → (o ≡ Some id → p id ≡ true) → p id ≡ true
named_step p true x id o k here below = subst (λ i. p i ≡ true) (ap first_of k) here
named_step p false x id o k here below = below k

named_passes : (p : List ℕ → Bool) (tasks : List JobTask) (ids : List Id) (name : List ℕ) → list_all p ids ≡ true → (id : Id) → id_named tasks ids name ≡ Some id → p id ≡ true
named_passes p [] ids name all id is = absurd (cc)
named_passes p (task ∷ tasks) [] name all id is = absurd (cc)
named_passes p (task ∷ tasks) (x ∷ ids) name all id is =
    let parts = and_parts (p x) (list_all p ids) all in
    named_step p (bytes_eq task.name name) x id (id_named tasks ids name) is parts.0 (λ k. named_passes p tasks ids name parts.1 id k)

all_cons : (p : List ℕ → Bool) (o : Option Id) (rest : List Id) → ((id : Id) → o ≡ Some id → p id ≡ true) → list_all p rest ≡ true → list_all p (cons_option o rest) ≡ true
all_cons p None rest each all = all
all_cons p (Some id) rest each all = and_from (p id) (list_all p rest) (each id refl) all

all_named : (p : List ℕ → Bool) (named : List ℕ → Option Id) (names : List (List ℕ)) → ((name : List ℕ) (id : Id) → named name ≡ Some id → p id ≡ true) → list_all p (filter_map named names) ≡ true
all_named p named [] each = refl
all_named p named (name ∷ names) each = all_cons p (named name) (filter_map named names) (each name) (all_named p named names each)

length_cons : (o : Option Id) (rest : List Id) (n : ℕ) → length rest ≤ n → length (cons_option o rest) ≤ suc n
length_cons None rest n h = omega (arith, h)
length_cons (Some id) rest n h = omega (arith, h)

no_longer : (named : List ℕ → Option Id) (names : List (List ℕ)) → length (filter_map named names) ≤ length names
no_longer named [] = omega arith
no_longer named (name ∷ names) = length_cons (named name) (filter_map named names) (length names) (no_longer named names)

few : (n : ℕ) → n ≤ 4096 → nat_le n 4096 ≡ true
few n h = grind (arith, nat_tests)

within_one : (named : List ℕ → Option Id) (task : JobTask) → ((name : List ℕ) (id : Id) → named name ≡ Some id → is_id id ≡ true) → IsBounded 4096 task → is_within_limits (job_submission named task).meta ≡ true
within_one named task each bounded =
    let waits = no_longer named task.after in
    let follows = no_longer named task.follow in
    let a : nat_le (length (filter_map named task.after)) 4096 ≡ true = few _ (omega (arith, waits, bounded.waits)) in
    let b : are_ids (filter_map named task.after) ≡ true = all_named is_id named task.after each in
    let c : nat_le (length (filter_map named task.follow)) 4096 ≡ true = few _ (omega (arith, follows, bounded.follows)) in
    let d : are_ids (filter_map named task.follow) ≡ true = all_named is_id named task.follow each in
    rw (a, b, c, d, bounded.retries) refl

within_all : (named : List ℕ → Option Id) (tasks : List JobTask) → ((name : List ℕ) (id : Id) → named name ≡ Some id → is_id id ≡ true) → AreBounded 4096 tasks → are_within (map (job_submission named) tasks) ≡ true
within_all named [] each bounded = refl
within_all named (task ∷ tasks) each bounded =
    and_from (is_within_limits (job_submission named task).meta) (are_within (map (job_submission named) tasks)) (within_one named task each bounded.0) (within_all named tasks each bounded.1)

pub job_within : (job : List JobTask) (first count : ℕ) → IsJob job → are_within (job_submissions job (numbered_ids first count)) ≡ true
job_within job first count is =
    let ids = numbered_ids first count in
    within_all (id_named job ids) job (λ name id some. named_passes is_id job ids name (ids_are_ids first count) id some) (job_bounded job is)

-- THE JOB IS HELD

accepted_all : (history : History) (named : List ℕ → Option Id) (tasks : List JobTask) (ids : List Id) (messages : List Message) → AreAccepted history ids messages → AreReadBack messages (map (job_submission named) tasks)
    → AllAccepted history (dependents_by named tasks ids) messages
accepted_all history named [] ids messages accepted reads = tt
accepted_all history named (task ∷ tasks) [] messages accepted reads = tt
accepted_all history named (task ∷ tasks) (id ∷ ids) [] accepted reads = absurd accepted
accepted_all history named (task ∷ tasks) (id ∷ ids) (message ∷ messages) accepted reads = (
  accepted.0,
  record { meta = meta_once (job_submission named task).meta; reads = reads.0; waits = refl; follows = refl },
  accepted_all history named tasks ids messages accepted.1 reads.1,
)

pub submitted_held : (job : List JobTask) (ids : List Id) (messages : List Message) → AreReadBack messages (job_submissions job ids) → IsHeldWith job ids messages
submitted_held job ids messages reads history legal accepted = job_held history job ids messages legal (accepted_all history (id_named job ids) job ids messages accepted reads)

-- THE IDS OF NAMES

-- with the id of a name more
pub named_more : (named : List ℕ → Option Id) (names items : List (List ℕ)) (place : ℕ) (name : List ℕ) (found more : List Id) (o : Option Id) → items ≡ names → place < length items → get_or items place name ≡ name
    → o ≡ named name → found ≡ filter_map named (take place names) → more ≡ found ++ cons_option o [] → more ≡ filter_map named (take (place + 1) names)
named_more named names items place name found more o same lt is is_named before added =
    let one : take (place + 1) items ≡ take place items ++ name ∷ [] = take_more items place name lt ∙ ap (λ x. take place items ++ x ∷ []) is in
    added
    ∙ ap₂ (λ f x. f ++ cons_option x []) (before ∙ ap (λ l. filter_map named (take place l)) (sym same)) is_named
    ∙ sym (ap (filter_map named) one ∙ filter_map-append named (take place items) (name ∷ []))
    ∙ ap (λ l. filter_map named (take (place + 1) l)) same

-- a name that the first task hasn't is looked for behind it
passed : (task : JobTask) (tasks : List JobTask) (id : Id) (ids : List Id) (name : List ℕ) → bytes_eq task.name name ≡ false → id_named (task ∷ tasks) (id ∷ ids) name ≡ id_named tasks ids name
passed task tasks id ids name off = ap (λ b. if b then Some id else id_named tasks ids name) off

found : (task : JobTask) (tasks : List JobTask) (id : Id) (ids : List Id) (name : List ℕ) → bytes_eq task.name name ≡ true → id_named (task ∷ tasks) (id ∷ ids) name ≡ Some id
found task tasks id ids name on = ap (λ b. if b then Some id else id_named tasks ids name) on

-- the same from a place on
pub passed_at : (tasks : List JobTask) (ids : List Id) (place : ℕ) (task : JobTask) (name : List ℕ) → place < length tasks → length ids ≡ length tasks → get_or tasks place task ≡ task → bytes_eq task.name name ≡ false
    → id_named (drop (place + 1) tasks) (drop (place + 1) ids) name ≡ id_named (drop place tasks) (drop place ids) name
passed_at tasks ids place task name lt long is off =
    let tasks_from = drop_more tasks place task lt ∙ ap (λ x. x ∷ drop (place + 1) tasks) is in
    let ids_from = drop_more ids place [] (omega (arith, lt, long)) in
    sym (ap₂ (λ t i. id_named t i name) tasks_from ids_from ∙ passed task (drop (place + 1) tasks) (get_or ids place []) (drop (place + 1) ids) name off)

pub found_at : (tasks : List JobTask) (ids : List Id) (place : ℕ) (task : JobTask) (name : List ℕ) → place < length tasks → length ids ≡ length tasks → get_or tasks place task ≡ task → bytes_eq task.name name ≡ true
    → Some (get_or ids place []) ≡ id_named (drop place tasks) (drop place ids) name
found_at tasks ids place task name lt long is on =
    let tasks_from = drop_more tasks place task lt ∙ ap (λ x. x ∷ drop (place + 1) tasks) is in
    let ids_from = drop_more ids place [] (omega (arith, lt, long)) in
    sym (ap₂ (λ t i. id_named t i name) tasks_from ids_from ∙ found task (drop (place + 1) tasks) (get_or ids place []) (drop (place + 1) ids) name on)
