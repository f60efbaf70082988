-- What is found in a journal that was written at once.
use Rattle.std.proofs.Common.{◌≡◌, ℕ, ◌+◌, ◌-◌, ◌<◌, ◌≤◌, ◌^◌, Bool, true, false, List, [], ◌∷◌, ◌++◌, length, take, drop, Ok, None, All, refl, subst, sym, ap, ◌∙◌, append_assoc, arith, length-append}
use Rattle.std.specs.Prelude.{nat_lt, if◌then◌else◌}
use Rattle.std.specs.List.{flat_map}
use Rattle.std.specs.Int.{w32, from_be_bytes}
use Rattle.std.proofs.lemmas.Bool.{le-ltb, leb-true}
use Rattle.std.proofs.lemmas.List.{take_at, drop_at, drop-drop, append-nil}
use Rattle.std.proofs.lemmas.List.Elements.{All-append, All-cons, All-head, All-tail, All-nil}
use Rattle.std.proofs.lemmas.Nat.{from_be_bytes-to_be_bytes_4}
use Rattle.cluster_types.specs.declared.entry.Entry.{Entry}
use Rattle.edges.specs.Spelling.{be32}
use Rattle.record_codec.specs.Spelling.{spelling, HasRecord}
use Rattle.record_codec.specs.Records.{spellings}
use Rattle.record_codec.proofs.Lengths.{length-be32}
use Rattle.task_journal.specs.declared.gate.GateState.TheVariants.{Open}
use Rattle.task_journal.specs.declared.version.Version.TheVariants.{Second}
use Rattle.task_journal.specs.Journal.{holding, records_at, gate_in, found_from, head, head_fault, StandsFor}
use Rattle.task_journal.proofs.Batches.{records_again, count_fits}
use Rattle.task_journal.proofs.Crash.{closed_gate, number_is}
use Rattle.task_journal.proofs.Gates.{found_skip}
use Rattle.task_journal.proofs.On.{journal_headed}
use Rattle.database_text.specs.Compact.{most_octets, has_room, batches_from, batch_front, open_batch, compacted, FitsBatch, HasJournal}

-- ---- a batch

-- what stands behind the gate of a batch
inner : List Entry → List ℕ
inner es = 0 ∷ be32 (length (spellings es)) ++ be32 (length es)

length-inner : (es : List Entry) → length (inner es) ≡ 9
unfolding inner
length-inner es = omega (arith, length-append (0 ∷ be32 (length (spellings es))) (be32 (length es)), length-be32 (length (spellings es)), length-be32 (length es))

parts : (es : List Entry) (rest : List ℕ) → open_batch es ++ rest ≡ 167 ∷ (inner es ++ (spellings es ++ rest))
unfolding open_batch inner
parts es rest = append_assoc (batch_front es) (spellings es) rest

gate : (es : List Entry) (rest : List ℕ) → FitsBatch es → gate_in (167 ∷ (inner es ++ rest)) ≡ Open (length (spellings es)) (length es)
unfolding inner
gate es rest short =
    let a = be32 (length (spellings es)) in
    let b = be32 (length es) in
    let long : nat_lt (length (inner es ++ rest)) 9 ≡ false = le-ltb _ _ (omega (arith, length-append (inner es) rest, length-inner es)) in
    let spread : inner es ++ rest ≡ 0 ∷ (a ++ (b ++ rest)) = append_assoc (0 ∷ a) b rest in
    let first : take 4 (drop 1 (inner es ++ rest)) ≡ take 4 (a ++ (b ++ rest)) = ap (λ (z : List ℕ). take 4 (drop 1 z)) spread in
    let second : take 4 (drop 5 (inner es ++ rest)) ≡ take 4 (b ++ rest) = ap (λ (z : List ℕ). take 4 (drop 5 z)) spread ∙ ap (take 4) (drop_at a (b ++ rest) 4 (length-be32 (length (spellings es)))) in
    rw (long, first, second, number_is (length (spellings es)) (b ++ rest) short, number_is (length es) rest (omega (arith, count_fits es, short))) refl

-- a batch is found in front of what is found behind it
open_found : (size : ℕ) (es : List Entry) (rest : List ℕ) (entries : List Entry) (places : List ℕ) → All HasRecord es → FitsBatch es → found_from Second size 0 rest ≡ Ok (holding entries places)
    → (before : List ℕ) × (found_from Second size 0 (open_batch es ++ rest) ≡ Ok (holding (es ++ entries) before))
unfolding found_from
open_found size es rest entries places each short behind =
    let n = length (spellings es) in
    let x = inner es ++ (spellings es ++ rest) in
    let nine : drop 9 x ≡ spellings es ++ rest = drop_at (inner es) (spellings es ++ rest) 9 (length-inner es) in
    let end = size - length (drop (9 + n) x) in
    let r = records_again es end each in
    let body : take n (drop 9 x) ≡ spellings es = ap (take n) nine ∙ take_at (spellings es) rest n refl in
    let left : drop (9 + n) x ≡ rest = sym (drop-drop n 9 x) ∙ ap (drop n) nine ∙ drop_at (spellings es) rest n refl in
    let records : records_at Second (length es) end (take n (drop 9 x)) ≡ Ok (holding es r.0) = ap (λ (z : List ℕ). records_at Second (length es) end z) body ∙ r.1 in
    let next : found_from Second size (9 + n) x ≡ Ok (holding entries places) = found_skip Second size (9 + n) x ∙ ap (λ (z : List ℕ). found_from Second size 0 z) left ∙ behind in
    let opens = gate es (spellings es ++ rest) short in
    (r.0 ++ places, ap (λ (z : List ℕ). found_from Second size 0 z) (parts es rest) ∙ rw (opens, records, next) refl)

-- ---- all batches

taken_short : (batch : List Entry) (e : Entry) → has_room batch e ≡ true → FitsBatch (batch ++ e ∷ [])
taken_short batch e is = let le : length (spellings (batch ++ e ∷ [])) ≤ most_octets = leb-true _ _ is in omega (arith, le)

one_short : (e : Entry) → length (spelling e) < 2 ^ 32 → FitsBatch (e ∷ [])
one_short e lt = omega (arith, lt, ap length (append-nil (spelling e)))

-- the batches from the first one on, where it takes the next entry, or doesn't
abbrev chosen : Bool → List Entry → Entry → List Entry → List (List Entry)
chosen b batch e es = if b then batches_from (batch ++ e ∷ []) es else batch ∷ batches_from (e ∷ []) es

-- a list is found in batches in front of what no record follows
abbrev Found : ℕ → List ℕ → List (List Entry) → List Entry → Type 0
Found size rest batched list = (before : List ℕ) × (found_from Second size 0 (flat_map open_batch batched ++ rest) ≡ Ok (holding list before))

by_choice : (b : Bool) (size : ℕ) (batch : List Entry) (e : Entry) (es : List Entry) (rest : List ℕ) → All HasRecord batch → All FitsBatch (chosen b batch e es)
    → (All FitsBatch (batches_from (batch ++ e ∷ []) es) → Found size rest (batches_from (batch ++ e ∷ []) es) ((batch ++ e ∷ []) ++ es))
    → (All FitsBatch (batches_from (e ∷ []) es) → Found size rest (batches_from (e ∷ []) es) (e ∷ es)) → Found size rest (chosen b batch e es) (batch ++ e ∷ es)
by_choice true size batch e es rest front short joined apart =
    let one = joined short in
    (one.0, one.1 ∙ ap (λ (z : List Entry). Ok (holding z one.0)) (append_assoc batch (e ∷ []) es))
by_choice false size batch e es rest front short joined apart =
    let more = apart (All-tail FitsBatch batch (batches_from (e ∷ []) es) short) in
    let one = open_found size batch (flat_map open_batch (batches_from (e ∷ []) es) ++ rest) (e ∷ es) more.0 front (All-head FitsBatch batch (batches_from (e ∷ []) es) short) more.1 in
    (one.0, ap (λ (z : List ℕ). found_from Second size 0 z) (append_assoc (open_batch batch) (flat_map open_batch (batches_from (e ∷ []) es)) rest) ∙ one.1)

all_found : (size : ℕ) (batch es : List Entry) (rest places : List ℕ) → All HasRecord batch → All HasRecord es → All FitsBatch (batches_from batch es) → found_from Second size 0 rest ≡ Ok (holding [] places) → Found size rest (batches_from batch es) (batch ++ es)
all_found size batch [] rest places front each short behind =
    let one = open_found size batch rest [] places front (All-head FitsBatch batch [] short) behind in
    (one.0, ap (λ (z : List ℕ). found_from Second size 0 (z ++ rest)) (append-nil (open_batch batch)) ∙ one.1)
all_found size batch (e ∷ es) rest places front each short behind =
    let one : All HasRecord (e ∷ []) = All-cons HasRecord e [] (All-head HasRecord e es each) (All-nil HasRecord) in
    let others : All HasRecord es = All-tail HasRecord e es each in
    by_choice (has_room batch e) size batch e es rest front short
    (λ fits. all_found size (batch ++ e ∷ []) es rest places (All-append HasRecord batch (e ∷ []) front one) others fits behind)
    (λ fits. all_found size (e ∷ []) es rest places one others fits behind)

length-open : (es : List Entry) → 10 ≤ length (open_batch es)
unfolding open_batch inner
length-open es = omega (arith, length-append (batch_front es) (spellings es), length-inner es)

-- a batch is longer than nine octets
enough_of : (b : Bool) (batch : List Entry) (e : Entry) (es : List Entry) → 10 ≤ length (flat_map open_batch (batches_from (batch ++ e ∷ []) es)) → 10 ≤ length (flat_map open_batch (chosen b batch e es))
enough_of true batch e es long = long
enough_of false batch e es long = omega (arith, length-open batch, length-append (open_batch batch) (flat_map open_batch (batches_from (e ∷ []) es)))

enough : (batch es : List Entry) → 10 ≤ length (flat_map open_batch (batches_from batch es))
enough batch [] = omega (arith, length-open batch, ap length (append-nil (open_batch batch)))
enough batch (e ∷ es) = enough_of (has_room batch e) batch e es (enough (batch ++ e ∷ []) es)

-- ---- the journal

-- what stands behind a head is found in the journal
headed : (rest : List ℕ) (list : List Entry) → 2 ≤ length rest → ((size : ℕ) → (places : List ℕ) × (found_from Second size 0 rest ≡ Ok (holding list places))) → StandsFor (head ++ rest) list
headed rest list long found =
    let size = length (head ++ rest) in
    let same : head_fault (head ++ rest) ≡ None = refl in
    let h : length head ≡ 31 = refl in
    let all : 33 ≤ length (head ++ rest) = omega (arith, length-append head rest, h, long) in
    let f = found size in
    (f.0, journal_headed (head ++ rest) all same ∙ found_skip Second size 31 (head ++ rest) ∙ ap (λ (z : List ℕ). found_from Second size 0 z) (drop_at head rest 31 refl) ∙ f.1)

pub stands : (list : List Entry) → All HasRecord list → HasJournal list → StandsFor (compacted list) list
unfolding compacted
stands [] each short = headed (0 ∷ 0 ∷ []) [] (omega arith) (λ size. ((size - 1 - 1) ∷ [], closed_gate Second size 0 (0 ∷ []) refl))
stands (e ∷ es) each short =
    let body = flat_map open_batch (batches_from (e ∷ []) es) in
    subst (λ (z : List ℕ). StandsFor z (e ∷ es)) (sym (append_assoc head body (0 ∷ [])))
    (headed (body ++ 0 ∷ []) (e ∷ es) (omega (arith, enough (e ∷ []) es, length-append body (0 ∷ [])))
    (λ size. all_found size (e ∷ []) es (0 ∷ []) ((size - 0 - 1) ∷ []) (All-cons HasRecord e [] (All-head HasRecord e es each) (All-nil HasRecord)) (All-tail HasRecord e es each) short (closed_gate Second size 0 [] refl)))

-- ---- which entries have a journal

abbrev IsSmall : Entry → Type 0
IsSmall e = length (spelling e) < 2 ^ 32

short_of : (b : Bool) (batch : List Entry) (e : Entry) (es : List Entry) → has_room batch e ≡ b → FitsBatch batch → (FitsBatch (batch ++ e ∷ []) → All FitsBatch (batches_from (batch ++ e ∷ []) es)) → All FitsBatch (batches_from (e ∷ []) es) → All FitsBatch (chosen b batch e es)
short_of true batch e es is first joined apart = joined (taken_short batch e is)
short_of false batch e es is first joined apart = All-cons FitsBatch batch (batches_from (e ∷ []) es) first apart

each_short : (batch es : List Entry) → FitsBatch batch → All IsSmall es → All FitsBatch (batches_from batch es)
each_short batch [] first each = All-cons FitsBatch batch [] first (All-nil FitsBatch)
each_short batch (e ∷ es) first each =
    let others : All IsSmall es = All-tail IsSmall e es each in
    short_of (has_room batch e) batch e es refl first (λ short. each_short (batch ++ e ∷ []) es short others) (each_short (e ∷ []) es (one_short e (All-head IsSmall e es each)) others)

pub has_journal : (list : List Entry) → All (λ e. length (spelling e) < 2 ^ 32) list → HasJournal list
has_journal [] each = All-nil FitsBatch
has_journal (e ∷ es) each = each_short (e ∷ []) es (one_short e (All-head IsSmall e es each)) (All-tail IsSmall e es each)
