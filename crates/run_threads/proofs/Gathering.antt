-- Answers that are gathered, and lines that are printed.
use Rattle.std.proofs.Common.{◌≡◌, ◌⊎◌, ℕ, zero, suc, ◌+◌, ◌<◌, List, [], ◌∷◌, ◌++◌, Bool, true, false, Option, Some, None, length, drop, refl, sym, ap, ◌∙◌, subst, inl, inr, ⊎_elim, arith, append_assoc, length-append}
use Rattle.std.specs.Prelude.{slice_get, option_map, option_and_then, if◌then◌else◌, bytes_eq, replicate}
use Rattle.std.specs.Result.{result_ok}
use Rattle.std.proofs.lemmas.List.{length-replicate, append-nil}
use Rattle.std.proofs.lemmas.Slice.Eq.{bytes_eq-Decides}
use Rattle.edges.specs.Streams.{Added}
use Rattle.cluster_types.specs.declared.message.Message.{Message}
use Rattle.cluster_defs.specs.Histories.{History}
use Rattle.cluster_defs.specs.Reply.{read_status}
use Rattle.cluster_defs.specs.Texts.{submit_refused}
use Rattle.client_core.specs.declared.answered.Answered.{Answered}
use Rattle.client_core.specs.declared.took.Took.{Took}
use Rattle.client_core.specs.declared.took.Took.TheVariants.{Settled, Other, Stranger}
use Rattle.client_core.specs.Answers.{answered}
use Rattle.client_core.specs.Clients.{Used, settled_in}
use Rattle.client_core.specs.Numbers.{numbered_id}
use Rattle.client_core.specs.Taking.{settled_by, took_for, took_under, type_in, task_in, took}
use Rattle.array_maps.specs.Gathering.{Gathering, answers_with, with_answer, gathered_after, answer_at, awaited}
use Rattle.history_lock.specs.declared.known.Content.{Content}
use Rattle.history_lock.specs.History.{Extends}
use Rattle.run_book.specs.Kept.{WasPassed, client_conn}
use Rattle.run_book.proofs.Saying.{passed_later}
use Rattle.run_lines.specs.declared.labels.Labels.{Labels}
use Rattle.run_lines.specs.Lines.{line_at, lines_from, known_front}
use Rattle.run_threads.specs.Waiting.{IsCounted}
use Rattle.run_threads.specs.Answering.{IsAnswered, AreAnswered, ArePrinted}

-- WHAT A MESSAGE SETTLES

by_status : (id : List ℕ) (o : Option Bool) (named : List ℕ) (ok : Bool) → settled_by id o ≡ Settled named ok → named ≡ id
by_status id None named ok is = cc
by_status id (Some b) named ok is = cc

by_type : (b : Bool) (id : List ℕ) (o : Option Bool) (named : List ℕ) (ok : Bool) → (if b then Other else settled_by id o) ≡ Settled named ok → named ≡ id
by_type true id o named ok is = cc
by_type false id o named ok is = by_status id o named ok is

by_task : (content msg_type id : List ℕ) (o : Option Bool) (named : List ℕ) (ok : Bool) → took_for content msg_type id o ≡ Settled named ok → named ≡ id
by_task content msg_type id None named ok is = cc
by_task content msg_type id (Some true) named ok is = cc
by_task content msg_type id (Some false) named ok is = by_type (bytes_eq msg_type submit_refused) id (result_ok (read_status content)) named ok is

under : (used : Used) (content : List ℕ) (type task : Option (List ℕ)) (named : List ℕ) (ok : Bool) → took_under used content type task ≡ Settled named ok → task ≡ Some named
under used content None task named ok is = cc
under used content (Some msg_type) None named ok is = cc
under used content (Some msg_type) (Some id) named ok is = ap Some (sym (by_task content msg_type id (settled_in used id) named ok is))

settles_task : (used : Used) (m : Message) (named : List ℕ) (ok : Bool) → took used m ≡ Settled named ok → task_in m.parent ≡ Some named
unfolding took
settles_task used m named ok is = under used m.content (type_in m.header) (task_in m.parent) named ok is

-- WHAT IS GATHERED

abbrev flat : Option (Option Answered) → Option Answered
flat o = option_and_then (λ a. a) o

here : (n : ℕ) (b : Bool) (id : List ℕ) (old : Option Answered) (answers more : List (Option Answered)) (a given : Answered) → bytes_eq id (numbered_id n) ≡ b →
    flat (slice_get (if b then Some a ∷ answers else old ∷ more) 0) ≡ Some given → (old ≡ Some given) ⊎ ((id ≡ numbered_id n) × (given ≡ a))
here n true id old answers more a given same is = inr ((bytes_eq-Decides id (numbered_id n)).0 same, cc)
here n false id old answers more a given same is = inl is

behind : {P : Type 0} (k : ℕ) (b : Bool) (id : List ℕ) (old : Option Answered) (answers more : List (Option Answered)) (a given : Answered) →
    (flat (slice_get more k) ≡ Some given → (flat (slice_get answers k) ≡ Some given) ⊎ P) →
    flat (slice_get (if b then Some a ∷ answers else old ∷ more) (suc k)) ≡ Some given → (flat (slice_get answers k) ≡ Some given) ⊎ P
behind k true id old answers more a given later is = inl is
behind k false id old answers more a given later is = later is

with_at : (n : ℕ) (answers : List (Option Answered)) (id : List ℕ) (a : Answered) (k : ℕ) (given : Answered) → flat (slice_get (answers_with n answers id a) k) ≡ Some given →
    (flat (slice_get answers k) ≡ Some given) ⊎ ((id ≡ numbered_id (n + k)) × (given ≡ a))
with_at n [] id a k given is = inl is
with_at n (old ∷ answers) id a zero given is =
    let zero_more : n + 0 ≡ n = omega arith in
    ⊎_elim inl (λ p. inr (p.0 ∙ ap numbered_id (sym zero_more), p.1)) (here n (bytes_eq id (numbered_id n)) id old answers (answers_with (n + 1) answers id a) a given refl is)
with_at n (old ∷ answers) id a (suc k) given is =
    let same : n + 1 + k ≡ n + suc k = omega arith in
    behind k (bytes_eq id (numbered_id n)) id old answers (answers_with (n + 1) answers id a) a given
    (λ e. ⊎_elim inl (λ p. inr (p.0 ∙ ap numbered_id same, p.1)) (with_at (n + 1) answers id a k given e)) is

kept_at : (h : History) (g : Gathering) (m : Message) (id : List ℕ) → AreAnswered h g → WasPassed h client_conn m → task_in m.parent ≡ Some id → AreAnswered h (with_answer g id (answered m.content))
kept_at h g m id are passed about k given is =
    ⊎_elim (λ old. are k given old) (λ p. record { message = m; passed = passed; about = about ∙ ap Some p.0; is = p.1 }) (with_at g.first g.answers id (answered m.content) k given is)

-- what was gathered stays an answer where a message that was passed on to the client is taken
pub gathers : (h : History) (g : Gathering) (used : Used) (m : Message) (t : Took) → AreAnswered h g → WasPassed h client_conn m → t ≡ took used m → AreAnswered h (gathered_after g m t)
gathers h g used m (Settled id ok) are passed is = kept_at h g m id are passed (settles_task used m id ok (sym is))
gathers h g used m Other are passed is = are
gathers h g used m Stranger are passed is = are

answered_later : (old new : Content) (number : ℕ) (a : Answered) → Extends old new → IsAnswered old.list number a → IsAnswered new.list number a
answered_later old new number a x is = record { message = is.message; passed = passed_later old new client_conn is.message x is.passed; about = is.about; is = is.is }

pub are_later : (old new : Content) (g : Gathering) → Extends old new → AreAnswered old.list g → AreAnswered new.list g
are_later old new g x are k a is = answered_later old new (g.first + k) a x (are k a is)

-- WHAT IS PRINTED

pub printed_later : (labels : Labels) (old new : Content) (count : ℕ) (before now : Option (List ℕ)) → Extends old new → ArePrinted labels old.list count before now → ArePrinted labels new.list count before now
printed_later labels old new count before now x p = record { answers = p.answers; all = p.all; each = λ k a is. answered_later old new k a x (p.each k a is); added = p.added }

front_at : (xs : List (Option Answered)) (k : ℕ) (a : Answered) → slice_get (known_front xs) k ≡ Some a → flat (slice_get xs k) ≡ Some a
front_at [] k a is = cc
front_at (None ∷ xs) k a is = cc
front_at (Some x ∷ xs) zero a is = is
front_at (Some x ∷ xs) (suc k) a is = front_at xs k a is

dropped_at : (n : ℕ) (xs : List (Option Answered)) (k : ℕ) → slice_get (drop n xs) k ≡ slice_get xs (n + k)
dropped_at zero xs k = let same : k ≡ 0 + k = omega arith in ap (slice_get xs) same
dropped_at (suc n) [] k = refl
dropped_at (suc n) (x ∷ xs) k = let same : suc (n + k) ≡ suc n + k = omega arith in dropped_at n xs k ∙ ap (slice_get (x ∷ xs)) same

-- an item of two lists is one of the first, or of the second behind it
joined_at : (xs ys : List Answered) (k : ℕ) (a : Answered) → slice_get (xs ++ ys) k ≡ Some a → (slice_get xs k ≡ Some a) ⊎ ((j : ℕ) × (k ≡ length xs + j) × (slice_get ys j ≡ Some a))
joined_at [] ys k a is = let same : k ≡ 0 + k = omega arith in inr (k, same, is)
joined_at (x ∷ xs) ys zero a is = inl is
joined_at (x ∷ xs) ys (suc k) a is = ⊎_elim inl (λ p. inr (p.0, one_more k (length xs) p.0 p.1, p.2)) (joined_at xs ys k a is)
  where
    one_more : (k n j : ℕ) → k ≡ n + j → suc k ≡ suc n + j
    one_more k n j is = omega (arith, is)

lines_joined : (labels : Labels) (place : ℕ) (xs ys : List Answered) → lines_from labels place (xs ++ ys) ≡ lines_from labels place xs ++ lines_from labels (place + length xs) ys
lines_joined labels place [] ys = let same : place ≡ place + 0 = omega arith in ap (λ p. lines_from labels p ys) same
lines_joined labels place (x ∷ xs) ys =
    let same : suc place + length xs ≡ place + suc (length xs) = omega arith in
    ap (λ t. line_at labels place x ++ t) (lines_joined labels (suc place) xs ys ∙ ap (λ p. lines_from labels (suc place) xs ++ lines_from labels p ys) same)
    ∙ sym (append_assoc (line_at labels place x) (lines_from labels (suc place) xs) (lines_from labels (place + suc (length xs)) ys))

added_twice : (xs ys : List ℕ) (before mid now : Option (List ℕ)) → Added xs before mid → Added ys mid now → Added (xs ++ ys) before now
added_twice xs ys None mid now one two = two ∙ ap (option_map (λ written. written ++ ys)) one
added_twice xs ys (Some w) mid now one two = two ∙ ap (option_map (λ written. written ++ ys)) one ∙ ap Some (append_assoc w xs ys)

place_is : (first next k n j : ℕ) → first ≡ 0 → n ≡ next → k ≡ n + j → first + (next + j) ≡ k
place_is first next k n j zeroth all is = omega (arith, zeroth, all, is)

start_is : (next n : ℕ) → n ≡ next → next ≡ 0 + n
start_is next n all = omega (arith, all)

-- the lines from the next place on, behind those before
pub prints : (labels : Labels) (h : History) (g : Gathering) (next : ℕ) (before mid now : Option (List ℕ)) → g.first ≡ 0 → AreAnswered h g → ArePrinted labels h next before mid →
    Added (lines_from labels next (known_front (drop next g.answers))) mid now → ArePrinted labels h (next + length (known_front (drop next g.answers))) before now
prints labels h g next before mid now first are p added =
    let front : List Answered = known_front (drop next g.answers) in record {
      answers = p.answers ++ front;
      all = length-append p.answers front ∙ ap (λ (n : ℕ). n + length front) p.all;
      each = λ k a is. ⊎_elim (λ old. p.each k a old) (λ (q : (j : ℕ) × (k ≡ length p.answers + j) × (slice_get front j ≡ Some a)).
          subst (λ (n : ℕ). IsAnswered h n a) (place_is g.first next k (length p.answers) q.0 first p.all q.1)
          (are (next + q.0) a (ap flat (sym (dropped_at next g.answers q.0)) ∙ front_at (drop next g.answers) q.0 a q.2)))
          (joined_at p.answers front k a is);
      added = subst (λ (t : List ℕ). Added t before now) (sym (lines_joined labels 0 p.answers front))
          (added_twice (lines_from labels 0 p.answers) (lines_from labels (0 + length p.answers) front) before mid now p.added
          (subst (λ (n : ℕ). Added (lines_from labels n front) mid now) (start_is next (length p.answers) p.all) added));
    }

-- before anything is printed
pub none_printed : (labels : Labels) (h : History) (before : Option (List ℕ)) → ArePrinted labels h 0 before before
none_printed labels h None = record { answers = []; all = refl; each = λ k a is. cc; added = refl }
none_printed labels h (Some w) = record { answers = []; all = refl; each = λ k a is. cc; added = ap Some (sym (append-nil w)) }

one_longer : (b : Bool) (a : Answered) (old : Option Answered) (answers more : List (Option Answered)) → length more ≡ length answers → length (if b then Some a ∷ answers else old ∷ more) ≡ suc (length answers)
one_longer true a old answers more same = refl
one_longer false a old answers more same = ap suc same

with_length : (n : ℕ) (answers : List (Option Answered)) (id : List ℕ) (a : Answered) → length (answers_with n answers id a) ≡ length answers
with_length n [] id a = refl
with_length n (old ∷ answers) id a = one_longer (bytes_eq id (numbered_id n)) a old answers (answers_with (n + 1) answers id a) (with_length (n + 1) answers id a)

-- the codes that are waited for stay
pub counts : (g : Gathering) (total : ℕ) (m : Message) (t : Took) → IsCounted g total → IsCounted (gathered_after g m t) total
counts g total m (Settled id ok) c = record { first = c.first; all = with_length g.first g.answers id (answered m.content) ∙ c.all }
counts g total m Other c = c
counts g total m Stranger c = c

-- before anything is gathered
none_there : (n k : ℕ) (a : Answered) → flat (slice_get (replicate n None) k) ≡ Some a → ⊥
none_there zero k a is = cc
none_there (suc n) zero a is = cc
none_there (suc n) (suc k) a is = none_there n k a is

pub none_answered : (h : History) (g : Gathering) (n : ℕ) → g ≡ awaited 0 n → AreAnswered h g
none_answered h g n is = subst (AreAnswered h) (sym is) (λ k a there. absurd (none_there n k a there))

pub none_counted : (g : Gathering) (n : ℕ) → g ≡ awaited 0 n → IsCounted g n
none_counted g n is = subst (λ (x : Gathering). IsCounted x n) (sym is) (record { first = refl; all = length-replicate n None })
