-- Ids of numbers that are used one after another.
use Rattle.std.proofs.Common.{◌≡◌, ◌<◌, ◌≤◌, ◌+◌, ◌^◌, ℕ, zero, suc, Bool, true, false, cond, List, [], ◌∷◌, ◌++◌, length, take, drop, get_or, Option, Some, None, is_some, Ok, Ordering, Less, Equal, Greater, is_eq, nat_cmp, bytes_eq, true≢false, append_assoc, arith, refl, sym, ap, ap₂, subst, ◌∙◌}
use Rattle.std.specs.Prelude.{◌||◌}
use Rattle.std.specs.List.{list_any}
use Rattle.std.specs.Cmp.Lexicographic.{slice_cmp}
use Rattle.std.specs.Ordering.{match_ordering}
use Rattle.std.proofs.lemmas.Bool.{and_parts}
use Rattle.std.proofs.lemmas.List.{append-nil, take_more, drop_more}
use Rattle.std.proofs.lemmas.List.Folds.{list_any_at}
use Rattle.std.proofs.lemmas.List.FromFn.{map-range_with_len_more, get_or-map-range_with_len, length-map-range_with_len}
use Rattle.std.proofs.lemmas.Map.Text.{is_eq-slice_cmp}
use Rattle.std.proofs.lemmas.Slice.Eq.{bytes_eq-Decides}
use Rattle.cluster_types.specs.declared.message.Message.{Message}
use Rattle.cluster_defs.specs.Submit.{read_submit}
use Rattle.client_core.specs.declared.stand.Stand.{Stand}
use Rattle.client_core.specs.declared.stand.Stand.TheVariants.{Unsettled}
use Rattle.client_core.specs.declared.submissions.Submission.{Submission}
use Rattle.client_core.specs.Clients.{Known, Used, stand_in, is_used, with_id}
use Rattle.client_core.specs.Limits.{is_within_limits}
use Rattle.client_core.specs.Messages.{task_request, meta_once}
use Rattle.client_core.specs.Numbers.{numbered, numbered_id, numbered_ids}
use Rattle.client_core.specs.Sending.{message_of, after_sending}
use Rattle.client_core.specs.Submissions.{are_within, messages_of, with_ids, after_numbers, AreReadBack}
use Rattle.client_core.proofs.Numbers.{numbered_apart}
use Rattle.client_core.proofs.Once.{apart}

-- ONE ID MORE

some_cond : (b : Bool) (s : Stand) (o : Option Stand) → is_some (cond b (Some s) o) ≡ (b || is_some o)
some_cond true s o = refl
some_cond false s o = refl

or_turned : (a b c : Bool) → (a || (b || c)) ≡ (b || (a || c))
or_turned true true c = refl
or_turned true false c = refl
or_turned false b c = refl

or_same : (a b : Bool) → (a || b) ≡ (a || (a || b))
or_same true b = refl
or_same false b = refl

-- which ids are used where an entry is put beside the first one, or behind it
put : (o : Ordering) (id name other : List ℕ) (s : Stand) (used more : Used) → is_eq o ≡ bytes_eq id name → is_used more other ≡ (bytes_eq other id || is_used used other)
    → is_used (match_ordering o ((id, Unsettled false) ∷ (name, s) ∷ used) ((name, Unsettled false) ∷ used) ((name, s) ∷ more)) other ≡ (bytes_eq other id || is_used ((name, s) ∷ used) other)
put Less id name other s used more is below = some_cond (bytes_eq other id) (Unsettled false) (stand_in ((name, s) ∷ used) other)
put Equal id name other s used more is below =
    let same : id ≡ name = (bytes_eq-Decides id name).0 (sym is) in
    some_cond (bytes_eq other name) (Unsettled false) (stand_in used other)
    ∙ or_same (bytes_eq other name) (is_used used other)
    ∙ ap₂ (λ a b. a || b) (ap (bytes_eq other) (sym same)) (sym (some_cond (bytes_eq other name) s (stand_in used other)))
put Greater id name other s used more is below =
    some_cond (bytes_eq other name) s (stand_in more other)
    ∙ ap (λ b. bytes_eq other name || b) below
    ∙ or_turned (bytes_eq other name) (bytes_eq other id) (is_used used other)
    ∙ ap (λ b. bytes_eq other id || b) (sym (some_cond (bytes_eq other name) s (stand_in used other)))

used_with : (used : Used) (id other : List ℕ) → is_used (with_id used id) other ≡ (bytes_eq other id || is_used used other)
used_with [] id other = some_cond (bytes_eq other id) (Unsettled false) None
used_with ((name, s) ∷ used) id other = put (slice_cmp nat_cmp id name) id name other s used (with_id used id) (is_eq-slice_cmp id name) (used_with used id other)

-- MANY IDS MORE

or_moved : (a b c : Bool) → (a || (b || c)) ≡ ((b || a) || c)
or_moved true true c = refl
or_moved true false c = refl
or_moved false true c = refl
or_moved false false c = refl

used_with_all : (ids : List (List ℕ)) (used : Used) (other : List ℕ) → is_used (with_ids used ids) other ≡ (list_any (bytes_eq other) ids || is_used used other)
used_with_all [] used other = refl
used_with_all (id ∷ ids) used other =
    used_with_all ids (with_id used id) other
    ∙ ap (λ b. list_any (bytes_eq other) ids || b) (used_with used id other)
    ∙ or_moved (list_any (bytes_eq other) ids) (bytes_eq other id) (is_used used other)

with_last : (ids : List (List ℕ)) (used : Used) (id : List ℕ) → with_ids used (ids ++ id ∷ []) ≡ with_id (with_ids used ids) id
with_last [] used id = refl
with_last (x ∷ ids) used id = with_last ids (with_id used x) id

-- one number more
pub with_number : (used : Used) (first place : ℕ) → with_ids used (numbered_ids first (place + 1)) ≡ with_id (with_ids used (numbered_ids first place)) (numbered_id (first + place))
with_number used first place =
    ap (with_ids used) (map-range_with_len_more numbered_id first place (first + place) refl)
    ∙ with_last (numbered_ids first place) used (numbered_id (first + place))

-- NEW IDS

or_false : (a b : Bool) → a ≡ false → b ≡ false → (a || b) ≡ false
or_false true b h k = h
or_false false b h k = k

-- the id of a number isn't one of those of lesser numbers
none_same : (n first count : ℕ) → first + count ≤ n → n < 2 ^ 32 → list_any (bytes_eq (numbered_id n)) (numbered_ids first count) ≡ false
none_same n first zero over small = refl
none_same n first (suc count) over small =
    let differs : numbered_id n ≡ numbered_id first → ⊥ = λ same. let it : n ≡ first = numbered_apart n first small (omega (arith, over, small)) same in omega (arith, it, over) in
    or_false (bytes_eq (numbered_id n) (numbered_id first)) (list_any (bytes_eq (numbered_id n)) (numbered_ids (first + 1) count))
    (apart (numbered_id n) (numbered_id first) differs) (none_same n (first + 1) count (omega (arith, over)) small)

id_at : (first count place : ℕ) → place < count → get_or (numbered_ids first count) place [] ≡ numbered_id (first + place)
id_at first count place lt = get_or-map-range_with_len numbered_id first count place (first + place) [] lt refl

-- a used id among those of numbers is found
pub any_found : (used : Used) (first count place : ℕ) → place < count → is_used used (numbered_id (first + place)) ≡ true → list_any (is_used used) (numbered_ids first count) ≡ true
any_found used first count place lt h =
    let long = length-map-range_with_len numbered_id first count in
    list_any_at (is_used used) (numbered_ids first count) place [] (omega (arith, long, lt)) (ap (is_used used) (id_at first count place lt) ∙ h)

neither : (a b c : Bool) → (a || b) ≡ false → (b ≡ false → c ≡ false) → (a || c) ≡ false
neither true b c h below = h
neither false b c h below = below h

any_last : (p : List ℕ → Bool) (xs : List (List ℕ)) (x : List ℕ) → list_any p xs ≡ false → p x ≡ false → list_any p (xs ++ x ∷ []) ≡ false
any_last p [] x h k = or_false (p x) false k refl
any_last p (y ∷ xs) x h k = neither (p y) (list_any p xs) (list_any p (xs ++ x ∷ [])) h (λ g. any_last p xs x g k)

-- none of the ids so far is used, nor the next one
pub none_more : (used : Used) (first place : ℕ) → list_any (is_used used) (numbered_ids first place) ≡ false → is_used used (numbered_id (first + place)) ≡ false
    → list_any (is_used used) (numbered_ids first (place + 1)) ≡ false
none_more used first place none new =
    ap (list_any (is_used used)) (map-range_with_len_more numbered_id first place (first + place) refl)
    ∙ any_last (is_used used) (numbered_ids first place) (numbered_id (first + place)) none new

-- where none of the ids was used, the next one is new behind those before it
pub next_new : (used : Used) (first count place : ℕ) → list_any (is_used used) (numbered_ids first count) ≡ false → place < count → first + count ≤ 2 ^ 32
    → is_used (with_ids used (numbered_ids first place)) (numbered_id (first + place)) ≡ false
next_new used first count place none lt small =
    used_with_all (numbered_ids first place) used (numbered_id (first + place))
    ∙ or_false (list_any (bytes_eq (numbered_id (first + place))) (numbered_ids first place)) (is_used used (numbered_id (first + place)))
    (none_same (first + place) first place (omega arith) (omega (arith, lt, small))) (old (is_used used (numbered_id (first + place))) refl)
  where
    old : (b : Bool) → is_used used (numbered_id (first + place)) ≡ b → b ≡ false
    old true h = absurd (true≢false (sym (any_found used first count place lt h) ∙ none))
    old false h = refl

-- READ BACK

pub read_more : (messages : List Message) (submissions : List Submission) (message : Message) (s : Submission) → AreReadBack messages submissions → read_submit message.metadata ≡ Ok (meta_once s.meta)
    → AreReadBack (messages ++ message ∷ []) (submissions ++ s ∷ [])
read_more [] [] message s h reads = (reads, tt)
read_more (m ∷ messages) (t ∷ submissions) message s h reads = (h.0, read_more messages submissions message s h.1 reads)
read_more [] (t ∷ submissions) message s h reads = absurd h
read_more (m ∷ messages) [] message s h reads = absurd h

pub reads_more : (submissions : List Submission) (place : ℕ) (s : Submission) (messages : List Message) (message : Message) → place < length submissions → get_or submissions place s ≡ s
    → AreReadBack messages (take place submissions) → read_submit message.metadata ≡ Ok (meta_once s.meta) → AreReadBack (messages ++ message ∷ []) (take (place + 1) submissions)
reads_more submissions place s messages message lt is before reads =
    let one : take (place + 1) submissions ≡ take place submissions ++ s ∷ [] = take_more submissions place s lt ∙ ap (λ x. take place submissions ++ x ∷ []) is in
    subst (AreReadBack (messages ++ message ∷ [])) (sym one) (read_more messages (take place submissions) message s before reads)

take_all : (submissions : List Submission) → take (length submissions) submissions ≡ submissions
take_all [] = refl
take_all (s ∷ submissions) = ap (λ l. s ∷ l) (take_all submissions)

pub reads_done : (submissions : List Submission) (place : ℕ) (messages : List Message) → place ≡ length submissions → AreReadBack messages (take place submissions) → AreReadBack messages submissions
reads_done submissions place messages end reads = subst (AreReadBack messages) (ap (λ n. take n submissions) end ∙ take_all submissions) reads

-- THE MESSAGES

-- each task keeps to the limits
pub within_at : (submissions : List Submission) (place : ℕ) (s : Submission) → are_within submissions ≡ true → place < length submissions → get_or submissions place s ≡ s → is_within_limits s.meta ≡ true
within_at [] place s all lt is = absurd (omega (arith, lt))
within_at (x ∷ submissions) zero s all lt is = subst (λ (y : Submission). is_within_limits y.meta ≡ true) is (and_parts (is_within_limits x.meta) (are_within submissions) all).0
within_at (x ∷ submissions) (suc place) s all lt is = within_at submissions place s (and_parts (is_within_limits x.meta) (are_within submissions) all).1 (omega (arith, lt)) is

-- a message more, and those of the tasks that are left, are those of all
pub all_more : (client : Known) (moment first place : ℕ) (submissions : List Submission) (s : Submission) (messages : List Message) (message : Message) (all : List Message) → place < length submissions → get_or submissions place s ≡ s
    → message ≡ message_of client (numbered (first + place)) moment (task_request s.meta s.code)
    → messages ++ messages_of client moment (first + place) (drop place submissions) ≡ all
    → (messages ++ message ∷ []) ++ messages_of client moment (first + (place + 1)) (drop (place + 1) submissions) ≡ all
all_more client moment first place submissions s messages message all lt is made before =
    let behind = drop (place + 1) submissions in
    let rest = messages_of client moment (first + (place + 1)) behind in
    let next : first + (place + 1) ≡ (first + place) + 1 = omega arith in
    let opened : messages_of client moment (first + place) (drop place submissions) ≡ message ∷ rest =
    ap (messages_of client moment (first + place)) (drop_more submissions place s lt ∙ ap (λ x. x ∷ behind) is)
    ∙ ap₂ (λ x n. x ∷ messages_of client moment n behind) (sym made) (sym next) in
    append_assoc messages (message ∷ []) rest ∙ ap (λ l. messages ++ l) (sym opened) ∙ before

drop_all : (submissions : List Submission) → drop (length submissions) submissions ≡ []
drop_all [] = refl
drop_all (s ∷ submissions) = drop_all submissions

pub all_done : (client : Known) (moment number place : ℕ) (submissions : List Submission) (messages all : List Message) → place ≡ length submissions
    → messages ++ messages_of client moment number (drop place submissions) ≡ all → messages ≡ all
all_done client moment number place submissions messages all end is =
    let none : drop place submissions ≡ [] = ap (λ n. drop n submissions) end ∙ drop_all submissions in
    sym (append-nil messages) ∙ ap (λ l. messages ++ messages_of client moment number l) (sym none) ∙ is

-- a client that used one number more
pub numbers_more : (client old : Known) (first place : ℕ) → client ≡ after_numbers old first place → after_sending client (numbered (first + place)) ≡ after_numbers old first (place + 1)
numbers_more client old first place is =
    ap (λ k. after_sending k (numbered (first + place))) is ∙ ap (λ (u : Used). record old { used = u }) (sym (with_number old.used first place))
