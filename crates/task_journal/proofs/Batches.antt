-- Batches: their octets, and what is read of them behind an open gate.
use Rattle.std.proofs.Common.{◌≡◌, ℕ, suc, ◌+◌, ◌-◌, ◌^◌, ◌<◌, ◌≤◌, List, [], ◌∷◌, ◌++◌, length, take, drop, Ok, All, refl, sym, ap, ◌∙◌, append_assoc, arith, length-append, get_or}
use Rattle.std.proofs.lemmas.Grind.{flat_map-append}
use Rattle.std.proofs.lemmas.List.Folds.{length-flat_map-take}
use Rattle.std.proofs.lemmas.List.{drop_at, take_at, drop-drop, length-take-le, append-nil, take_more}
use Rattle.std.proofs.lemmas.List.Elements.{All-append, All-nil}
use Rattle.cluster_types.specs.declared.entry.Input.TheVariants as inputs
use Rattle.cluster_types.specs.declared.entry.Entry.{Entry}
use Rattle.cluster_types.specs.declared.entry.Entry.TheVariants.{Input, Hand, Settle, Lose}
use Rattle.edges.specs.Spelling.{be32}
use Rattle.record_codec.specs.Spelling.{spelling, HasRecord}
use Rattle.record_codec.specs.Records.{spellings}
use Rattle.record_codec.specs.Reading.{entry_at}
use Rattle.record_codec.proofs.Again.{entry_again}
use Rattle.record_codec.proofs.Lengths.{length-be32}
use Rattle.task_journal.specs.Batch.{batch_octets, IsBatch, entries_in}
use Rattle.task_journal.specs.declared.version.Version.TheVariants.{Second}
use Rattle.task_journal.specs.Versions.{entry_in}
use Rattle.task_journal.specs.Journal.{holding, record_at, records_at}

all_tail : (e : Entry) (es : List Entry) → All HasRecord (e ∷ es) → All HasRecord es
all_tail e es each k d lt = each (suc k) d (omega arith)

pub entries_again : (es : List Entry) (rest : List ℕ) → All HasRecord es → entries_in (length es) (spellings es ++ rest) ≡ es
entries_again [] rest each = refl
entries_again (e ∷ es) rest each =
    let parts : spellings (e ∷ es) ++ rest ≡ spelling e ++ (spellings es ++ rest) = append_assoc (spelling e) (spellings es) rest in
    let read : entry_at (spellings (e ∷ es) ++ rest) ≡ Ok (e, spellings es ++ rest) = ap entry_at parts ∙ entry_again e (spellings es ++ rest) (each 0 e (omega arith)) in
    rw read (ap (λ (z : List Entry). e ∷ z) (entries_again es rest (all_tail e es each)))

pub records_again : (es : List Entry) (end : ℕ) → All HasRecord es → (places : List ℕ) × (records_at Second (length es) end (spellings es) ≡ Ok (holding es places))
unfolding records_at record_at entry_in
records_again [] end each = ([], refl)
records_again (e ∷ es) end each =
    let r = records_again es end (all_tail e es each) in
    let read : entry_at (spelling e ++ spellings es) ≡ Ok (e, spellings es) = entry_again e (spellings es) (each 0 e (omega arith)) in
    ((end - length (spellings (e ∷ es))) ∷ r.0, rw (read, r.1) refl)

some : (e : Entry) → 1 ≤ length (spelling e)
some (Input (inputs.Open moment scheme hwm misses)) = omega arith
some (Input (inputs.Up conn channel moment word identity)) = omega arith
some (Input (inputs.Down conn moment word)) = omega arith
some (Input (inputs.In conn moment word message)) = omega arith
some (Input (inputs.Beat moment word)) = omega arith
some (Input (inputs.Time moment word)) = omega arith
some (Hand id engine) = omega arith
some (Settle id verdict cause) = omega arith
some (Lose engine) = omega arith

-- there are no more entries than octets
pub count_fits : (es : List Entry) → length es ≤ length (spellings es)
count_fits [] = omega arith
count_fits (e ∷ es) = omega (arith, some e, count_fits es, length-append (spelling e) (spellings es))

pub spellings_more : (es : List Entry) (i : ℕ) (e : Entry) → i < length es → e ≡ get_or es i e → spellings (take (i + 1) es) ≡ spellings (take i es) ++ spelling e
spellings_more es i e lt is =
    let added : take (i + 1) es ≡ take i es ++ e ∷ [] = take_more es i e lt ∙ ap (λ (x : Entry). take i es ++ x ∷ []) (sym is) in
    ap spellings added ∙ flat_map-append spelling (take i es) (e ∷ []) ∙ ap (λ (z : List ℕ). spellings (take i es) ++ z) (append-nil (spelling e))

-- ---- the octets of a batch

grouped : (es : List Entry) (rest : List ℕ) → batch_octets es ++ rest ≡ (0 ∷ be32 (length (spellings es)) ++ be32 (length es)) ++ (spellings es ++ 0 ∷ rest)
grouped es rest = regrouped (0 ∷ be32 (length (spellings es)) ++ be32 (length es)) (spellings es) rest
  where
    regrouped : (a b c : List ℕ) → ((a ++ b) ++ 0 ∷ []) ++ c ≡ a ++ (b ++ 0 ∷ c)
    regrouped a b c = simp append_assoc

length-nine : (es : List Entry) → length (0 ∷ be32 (length (spellings es)) ++ be32 (length es)) ≡ 9
length-nine es = omega (arith, length-append (0 ∷ be32 (length (spellings es))) (be32 (length es)), length-be32 (length (spellings es)), length-be32 (length es))

pub behind_nine : (es : List Entry) (rest : List ℕ) → drop 9 (batch_octets es ++ rest) ≡ spellings es ++ 0 ∷ rest
behind_nine es rest = ap (drop 9) (grouped es rest) ∙ drop_at (0 ∷ be32 (length (spellings es)) ++ be32 (length es)) (spellings es ++ 0 ∷ rest) 9 (length-nine es)

pub length-batch : (es : List Entry) → length (batch_octets es) ≡ 10 + length (spellings es)
length-batch es = omega (arith, length-nine es, length-append (0 ∷ be32 (length (spellings es)) ++ be32 (length es) ++ spellings es) (0 ∷ []), length-append (0 ∷ be32 (length (spellings es)) ++ be32 (length es)) (spellings es))

-- the records before an entry and its own are no more than all
pub more_fits : (es : List Entry) (i : ℕ) (e : Entry) → i < length es → e ≡ get_or es i e → length (spellings (take i es)) + length (spelling e) ≤ length (spellings es)
more_fits es i e lt is = omega (arith, length-flat_map-take spelling es i e lt, ap (λ (x : Entry). length (spelling x)) is)

-- a batch stands for the entries that it was made of
pub view_is : (octets : List ℕ) (es : List Entry) (count : ℕ) → IsBatch octets es → count ≡ length es → entries_in count (drop 9 octets) ≡ es
view_is octets es count batch is =
    let all : drop 9 octets ≡ spellings es ++ 0 ∷ [] = ap (drop 9) (batch.spelled ∙ sym (append-nil (batch_octets es))) ∙ behind_nine es [] in
    rw (all, is) (entries_again es (0 ∷ []) batch.each)

-- ---- a batch that grows

pub short_of : (octets : List ℕ) (es : List Entry) → IsBatch octets es → length octets ≡ 10 + length (spellings es)
short_of octets es batch = ap length batch.spelled ∙ length-batch es

-- the records and the gate, without the front
tail_is : (octets : List ℕ) (es : List Entry) (records : List ℕ) → IsBatch octets es →
    take (length octets - 1) octets ++ records ++ 0 ∷ [] ≡ (0 ∷ be32 (length (spellings es)) ++ be32 (length es)) ++ (spellings es ++ (records ++ 0 ∷ []))
tail_is octets es records batch =
    let front : take (length octets - 1) octets ≡ 0 ∷ be32 (length (spellings es)) ++ be32 (length es) ++ spellings es =
    ap (take (length octets - 1)) batch.spelled ∙ take_at (0 ∷ be32 (length (spellings es)) ++ be32 (length es) ++ spellings es) (0 ∷ []) (length octets - 1)
    (omega (arith, short_of octets es batch, length-batch es, length-append (0 ∷ be32 (length (spellings es)) ++ be32 (length es) ++ spellings es) (0 ∷ []))) in
    ap (λ (z : List ℕ). z ++ records ++ 0 ∷ []) front ∙ regrouped (0 ∷ be32 (length (spellings es)) ++ be32 (length es)) (spellings es) records
  where
    regrouped : (a b c : List ℕ) → ((a ++ b) ++ c) ++ 0 ∷ [] ≡ a ++ (b ++ (c ++ 0 ∷ []))
    regrouped a b c = simp append_assoc

front_of : (octets rest : List ℕ) (es : List Entry) → octets ≡ (0 ∷ be32 (length (spellings es)) ++ be32 (length es)) ++ rest → (take 1 octets ≡ 0 ∷ []) × (drop 9 octets ≡ rest)
front_of octets rest es is = (
  ap (take 1) is,
  ap (drop 9) is ∙ drop_at (0 ∷ be32 (length (spellings es)) ++ be32 (length es)) rest 9 (length-nine es),
)

-- with a new front it is the batch of these entries and of further ones
pub grown : (octets records new : List ℕ) (es more : List Entry) (size count : ℕ) → IsBatch octets es → All HasRecord more → records ≡ spellings more →
    new ≡ take 1 (take (length octets - 1) octets ++ records ++ 0 ∷ []) ++ be32 size ++ be32 count ++ drop 9 (take (length octets - 1) octets ++ records ++ 0 ∷ []) →
    size ≡ length (spellings es) + length (spellings more) → count ≡ length es + length more → size < 2 ^ 32 → IsBatch new (es ++ more)
grown octets records new es more size count batch each written is sized counted fits =
    let one = take (length octets - 1) octets ++ records ++ 0 ∷ [] in
    let parts = front_of one (spellings es ++ (records ++ 0 ∷ [])) es (tail_is octets es records batch) in
    let all : spellings (es ++ more) ≡ spellings es ++ spellings more = flat_map-append spelling es more in
    let long : length (spellings (es ++ more)) ≡ size = ap length all ∙ length-append (spellings es) (spellings more) ∙ sym sized in
    let many : length (es ++ more) ≡ count = length-append es more ∙ sym counted in
    let front : take 1 one ++ be32 size ++ be32 count ++ drop 9 one ≡ 0 ∷ be32 size ++ be32 count ++ (spellings es ++ (records ++ 0 ∷ [])) = rw (parts.0, parts.1) refl in
    record {
      spelled = is ∙ front ∙ regrouped (0 ∷ be32 size ++ be32 count) (spellings es) records ∙ ap (λ (z : List ℕ). 0 ∷ be32 size ++ be32 count ++ z ++ 0 ∷ []) (ap (λ (z : List ℕ). spellings es ++ z) written ∙ sym all)
          ∙ rw (long, many) refl;
      each = All-append HasRecord es more batch.each each;
      short = rw long fits;
    }
  where
    regrouped : (a b c : List ℕ) → a ++ (b ++ (c ++ 0 ∷ [])) ≡ (a ++ (b ++ c)) ++ 0 ∷ []
    regrouped a b c = simp append_assoc

-- what is left of it without its records
pub cleared : (octets one new : List ℕ) (es : List Entry) → IsBatch octets es → one ≡ take 9 octets ++ 0 ∷ [] → new ≡ take 1 one ++ be32 0 ++ be32 0 ++ drop 9 one → IsBatch new []
cleared octets one new es batch is made =
    let nine_is : take 9 octets ≡ 0 ∷ be32 (length (spellings es)) ++ be32 (length es) =
    ap (take 9) (batch.spelled ∙ sym (append-nil (batch_octets es)) ∙ grouped es []) ∙ take_at (0 ∷ be32 (length (spellings es)) ++ be32 (length es)) (spellings es ++ 0 ∷ []) 9 (length-nine es) in
    let parts = front_of one (0 ∷ []) es (is ∙ ap (λ (z : List ℕ). z ++ 0 ∷ []) nine_is) in
    let front : take 1 one ++ be32 0 ++ be32 0 ++ drop 9 one ≡ 0 ∷ be32 0 ++ be32 0 ++ (0 ∷ []) = rw (parts.0, parts.1) refl in
    record { spelled = made ∙ front ∙ sym (append-nil_behind (0 ∷ be32 0 ++ be32 0)); each = All-nil HasRecord; short = omega arith }
  where
    append-nil_behind : (a : List ℕ) → (a ++ []) ++ 0 ∷ [] ≡ a ++ 0 ∷ []
    append-nil_behind a = ap (λ (z : List ℕ). z ++ 0 ∷ []) (append-nil a)

-- records of no octets are those of no entries
pub none_written : (es : List Entry) → length (spellings es) ≡ 0 → es ≡ []
none_written [] is = refl
none_written (e ∷ es) is = absurd (omega (arith, is, some e, length-append (spelling e) (spellings es)))

-- a front of nine octets that is written in two parts
pub front_put : (octets size count : List ℕ) → 9 ≤ length octets → length size ≡ 4 → length count ≡ 4 →
    take 5 (take 1 octets ++ size ++ drop 5 octets) ++ count ++ drop 9 (take 1 octets ++ size ++ drop 5 octets) ≡ take 1 octets ++ size ++ count ++ drop 9 octets
front_put octets size count long four as_many =
    let one : length (take 1 octets) ≡ 1 = length-take-le 1 octets (omega (arith, long)) in
    let five : length (take 1 octets ++ size) ≡ 5 = omega (arith, length-append (take 1 octets) size, one, four) in
    let front : take 5 (take 1 octets ++ size ++ drop 5 octets) ≡ take 1 octets ++ size = take_at (take 1 octets ++ size) (drop 5 octets) 5 five in
    let rest : drop 9 (take 1 octets ++ size ++ drop 5 octets) ≡ drop 9 octets =
    sym (drop-drop 4 5 (take 1 octets ++ size ++ drop 5 octets)) ∙ ap (drop 4) (drop_at (take 1 octets ++ size) (drop 5 octets) 5 five) ∙ drop-drop 4 5 octets in
    ap (λ (z : List ℕ). z ++ count ++ drop 9 (take 1 octets ++ size ++ drop 5 octets)) front ∙ ap (λ (z : List ℕ). take 1 octets ++ size ++ count ++ z) rest

-- records that are put before the gate that stands last, under a new front
one_is : (octets reserved one records : List ℕ) → reserved ≡ octets → one ≡ take (length reserved - 1) reserved ++ records ++ 0 ∷ [] → one ≡ take (length octets - 1) octets ++ records ++ 0 ∷ []
one_is octets reserved one records same is = is ∙ ap (λ (z : List ℕ). take (length z - 1) z ++ records ++ 0 ∷ []) same

pub extended : (octets reserved one records new : List ℕ) (es more : List Entry) (size count : ℕ) → IsBatch octets es → reserved ≡ octets → records ≡ spellings more → All HasRecord more →
    one ≡ take (length reserved - 1) reserved ++ records ++ 0 ∷ [] → new ≡ take 1 one ++ be32 size ++ be32 count ++ drop 9 one →
    size ≡ length (spellings es) + length (spellings more) → count ≡ length es + length more → size < 2 ^ 32 → IsBatch new (es ++ more)
extended octets reserved one records new es more size count batch same written each put front sized counted fits =
    grown octets records new es more size count batch each written
    (front ∙ ap (λ (z : List ℕ). take 1 z ++ be32 size ++ be32 count ++ drop 9 z) (one_is octets reserved one records same put)) sized counted fits

pub long_enough : (octets reserved one records : List ℕ) (es : List Entry) → IsBatch octets es → reserved ≡ octets → one ≡ take (length reserved - 1) reserved ++ records ++ 0 ∷ [] → 9 ≤ length one
long_enough octets reserved one records es batch same put =
    let long = short_of octets es batch in
    let is = ap length (one_is octets reserved one records same put) in
    let front : length (take (length octets - 1) octets) ≡ length octets - 1 = length-take-le (length octets - 1) octets (omega arith) in
    omega (arith, long, is, front, length-append (take (length octets - 1) octets ++ records) (0 ∷ []), length-append (take (length octets - 1) octets) records)
