-- What a crash leaves of a journal while a batch is appended.
use Rattle.std.proofs.Common.{◌≡◌, inl, inr, ℕ, ◌+◌, ◌-◌, ◌<◌, ◌≤◌, ◌^◌, Bool, true, false, List, [], ◌∷◌, ◌++◌, length, get_or, take, drop, Result, Ok, Err, Option, Some, None, refl, sym, ap, subst, ◌∙◌, append_assoc, arith, length-append, take-append-drop}
use Rattle.std.specs.Prelude.{◌==◌, nat_lt}
use Rattle.std.specs.Int.{w32, from_be_bytes}
use Rattle.std.proofs.lemmas.Bool.{le-ltb, eqb-true, cases_lt}
use Rattle.std.proofs.lemmas.List.{take_at, drop_at, drop_more, drop-drop, append-nil}
use Rattle.std.proofs.lemmas.Nat.{from_be_bytes-to_be_bytes_4}
use Rattle.cluster_types.specs.declared.entry.Entry.{Entry}
use Rattle.edges.specs.Spelling.{be32}
use Rattle.record_codec.specs.Records.{spellings}
use Rattle.record_codec.proofs.Lengths.{length-be32}
use Rattle.disk_model.specs.Crashes.{Torn, Written, Follows, Only}
use Rattle.task_journal.specs.declared.fault.OpenFault.{OpenFault}
use Rattle.task_journal.specs.declared.found.Found.{Found}
use Rattle.task_journal.specs.declared.gate.GateState.TheVariants.{Open}
use Rattle.task_journal.specs.Batch.{batch_octets, IsBatch}
use Rattle.task_journal.specs.declared.version.Version.{Version}
use Rattle.task_journal.specs.declared.version.Version.TheVariants.{Second}
use Rattle.task_journal.specs.Versions.{version_in}
use Rattle.task_journal.specs.Journal.{holding, records_at, gate_in, found_from, head_fault, journal, StandsFor, last_of, place_in}
use Rattle.task_journal.specs.Settled.{IsSettled, Outcome}
use Rattle.task_journal.proofs.Loops.{last_push}
use Rattle.task_journal.proofs.Versions.{head_front, version_front}
use Rattle.task_journal.proofs.Gates.{found_skip}
use Rattle.task_journal.proofs.On.{on_found, journal_short, journal_headed, has_head}
use Rattle.task_journal.proofs.Batches.{records_again, count_fits, behind_nine, length-batch}

-- ---- gates

pub closed_gate : (version : Version) (size x : ℕ) (rest : List ℕ) → (x == 167) ≡ false → found_from version size 0 (x ∷ rest) ≡ Ok (holding [] ((size - length rest - 1) ∷ []))
unfolding found_from
closed_gate version size x rest closed = rw closed refl

pub number_is : (n : ℕ) (rest : List ℕ) → n < 2 ^ 32 → from_be_bytes w32 (take 4 (be32 n ++ rest)) ≡ n
unfolding be32
number_is n rest lt = ap (from_be_bytes w32) (take_at (be32 n) rest 4 refl) ∙ from_be_bytes-to_be_bytes_4 n lt

spread : (es : List Entry) (rest : List ℕ) → batch_octets es ++ rest ≡ 0 ∷ (be32 (length (spellings es)) ++ (be32 (length es) ++ (spellings es ++ 0 ∷ rest)))
spread es rest = spread_out (be32 (length (spellings es))) (be32 (length es)) (spellings es) rest
  where
    spread_out : (a b c d : List ℕ) → (((0 ∷ a ++ b) ++ c) ++ 0 ∷ []) ++ d ≡ 0 ∷ (a ++ (b ++ (c ++ 0 ∷ d)))
    spread_out a b c d = simp append_assoc

batch_gate : (es : List Entry) (rest : List ℕ) → length (spellings es) < 2 ^ 32 → gate_in (167 ∷ (batch_octets es ++ rest)) ≡ Open (length (spellings es)) (length es)
batch_gate es rest short =
    let a = be32 (length (spellings es)) in
    let b = be32 (length es) in
    let c = spellings es ++ 0 ∷ rest in
    let long : nat_lt (length (batch_octets es ++ rest)) 9 ≡ false = le-ltb _ _ (omega (arith, length-append (batch_octets es) rest, length-batch es)) in
    let first : take 4 (drop 1 (batch_octets es ++ rest)) ≡ take 4 (a ++ (b ++ c)) = ap (λ (z : List ℕ). take 4 (drop 1 z)) (spread es rest) in
    let second : take 4 (drop 5 (batch_octets es ++ rest)) ≡ take 4 (b ++ c) = ap (λ (z : List ℕ). take 4 (drop 5 z)) (spread es rest) ∙ ap (take 4) (drop_at a (b ++ c) 4 (length-be32 (length (spellings es)))) in
    rw (long, first, second, number_is (length (spellings es)) (b ++ c) short, number_is (length es) c (omega (arith, count_fits es, short))) refl

pub open_gate : (size : ℕ) (es : List Entry) (octets rest : List ℕ) → IsBatch octets es → (places : List ℕ) × (found_from Second size 0 (167 ∷ (octets ++ rest)) ≡ Ok (holding es (places ++ (size - length rest - 1) ∷ [])))
unfolding found_from
open_gate size es octets rest batch =
    let n = length (spellings es) in
    let x = batch_octets es ++ rest in
    let end = size - length (drop (9 + n) x) in
    let r = records_again es end batch.each in
    let body : take n (drop 9 x) ≡ spellings es = ap (take n) (behind_nine es rest) ∙ take_at (spellings es) (0 ∷ rest) n refl in
    let behind : drop (9 + n) x ≡ 0 ∷ rest = sym (drop-drop n 9 x) ∙ ap (drop n) (behind_nine es rest) ∙ drop_at (spellings es) (0 ∷ rest) n refl in
    let records : records_at Second (length es) end (take n (drop 9 x)) ≡ Ok (holding es r.0) = ap (λ (z : List ℕ). records_at Second (length es) end z) body ∙ r.1 in
    let next : found_from Second size (9 + n) x ≡ Ok (holding [] ((size - length rest - 1) ∷ [])) = found_skip Second size (9 + n) x ∙ ap (λ (z : List ℕ). found_from Second size 0 z) behind ∙ closed_gate Second size 0 rest refl in
    let gate = batch_gate es rest batch.short in
    (r.0, ap (λ (z : List ℕ). found_from Second size 0 (167 ∷ (z ++ rest))) batch.spelled ∙ rw (gate, records, next) (ap (λ (z : List Entry). Ok (holding z (r.0 ++ (size - length rest - 1) ∷ []))) (append-nil es)))

-- ---- a journal of a version that is open at a gate

pub record Opened (version : Version) (octets : List ℕ) (gate : ℕ) (list : List Entry) : Type 0 where
  pub front : List ℕ
  pub shut : ℕ
  pub rest : List ℕ
  pub parts : octets ≡ front ++ shut ∷ rest
  pub size : length front ≡ gate
  pub closed : (shut == 167) ≡ false
  pub past : 31 ≤ gate
  pub long : 33 ≤ length octets
  pub is : version_in octets ≡ version
  pub on : (more : List ℕ) (entries : List Entry) (places : List ℕ) → 33 ≤ length (front ++ more) → found_from version (length (front ++ more)) 0 more ≡ Ok (holding entries places)
      → (before : List ℕ) × (journal (front ++ more) ≡ Ok (holding (list ++ entries) (before ++ places)))

pub some_is : (a b : ℕ) → ◌≡◌ {A = Option ℕ} (Some a) (Some b) → a ≡ b
some_is a b e = cc

pub opened_at : (version : Version) (octets : List ℕ) (gate : ℕ) (list : List Entry) → version_in octets ≡ version → 33 ≤ length octets → place_in (journal octets) ≡ Some gate → StandsFor octets list → Opened version octets gate list
opened_at version octets gate list is enough gate_is stands =
    let e = stands.1 in
    let none = has_head octets (holding list stands.0) enough e in
    let read : found_from version (length octets) 31 octets ≡ Ok (holding list stands.0) = ap (λ (v : Version). found_from v (length octets) 31 octets) (sym is) ∙ sym (journal_headed octets enough none) ∙ e in
    let r = on_found version (length octets) 31 octets (holding list stands.0) read in
    let last : last_of stands.0 ≡ Some gate = sym (ap place_in e) ∙ gate_is in
    let place : length octets - length r.rest - 1 ≡ gate = some_is _ _ (sym r.gate ∙ last) in
    record {
      front = r.front;
      shut = r.shut;
      rest = r.rest;
      parts = r.parts;
      size = omega (arith, place, ap length r.parts, length-append r.front (r.shut ∷ r.rest));
      closed = r.closed;
      past = omega (arith, place, ap length r.parts, length-append r.front (r.shut ∷ r.rest), r.skipped);
      long = enough;
      is = is;
      on = λ more entries places long h.
          let t = r.on more (length (r.front ++ more)) entries places h in
          let same : head_fault (r.front ++ more) ≡ None = head_front r.front more r.skipped ∙ sym (head_front r.front (r.shut ∷ r.rest) r.skipped) ∙ ap head_fault (sym r.parts) ∙ none in
          let also : version_in (r.front ++ more) ≡ version = version_front r.front more r.skipped ∙ sym (version_front r.front (r.shut ∷ r.rest) r.skipped) ∙ ap version_in (sym r.parts) ∙ is in
          (t.0, journal_headed (r.front ++ more) long same ∙ ap (λ (v : Version). found_from v (length (r.front ++ more)) 31 (r.front ++ more)) also ∙ t.1);
    }

pub opened : (octets : List ℕ) (gate : ℕ) (list : List Entry) → IsSettled octets gate → StandsFor octets list → Opened Second octets gate list
opened octets gate list settled stands = opened_at Second octets gate list settled.second settled.long settled.place stands

-- with a closed gate there, the disk stands for the entries before it
closed_there : (octets : List ℕ) (gate : ℕ) (list : List Entry) (o : Opened Second octets gate list) (x : ℕ) (rest c : List ℕ) → (x == 167) ≡ false → 33 ≤ length c → c ≡ o.front ++ x ∷ rest → StandsFor c list
closed_there octets gate list o x rest c closed long is =
    let fits : 33 ≤ length (o.front ++ x ∷ rest) = subst (λ (z : List ℕ). 33 ≤ length z) is long in
    let t = o.on (x ∷ rest) [] ((length (o.front ++ x ∷ rest) - length rest - 1) ∷ []) fits (closed_gate Second (length (o.front ++ x ∷ rest)) x rest closed) in
    (t.0 ++ (length (o.front ++ x ∷ rest) - length rest - 1) ∷ [], ap journal is ∙ t.1 ∙ ap (λ (z : List Entry). Ok (holding z (t.0 ++ (length (o.front ++ x ∷ rest) - length rest - 1) ∷ []))) (append-nil list))

-- and with an open one and a batch, for the batch too; the next gate is the closed one behind it
open_there : (octets : List ℕ) (gate : ℕ) (list : List Entry) (o : Opened Second octets gate list) (es : List Entry) (batch rest c : List ℕ) → IsBatch batch es → c ≡ o.front ++ 167 ∷ (batch ++ rest)
    → (places : List ℕ) × (journal c ≡ Ok (holding (list ++ es) (places ++ (gate + length batch) ∷ [])))
open_there octets gate list o es batch rest c is_batch is =
    let all = o.front ++ 167 ∷ (batch ++ rest) in
    let size : length all ≡ gate + 1 + (length batch + length rest) = omega (arith, length-append o.front (167 ∷ (batch ++ rest)), length-append batch rest, o.size) in
    let ten : length batch ≡ 10 + length (spellings es) = ap length is_batch.spelled ∙ length-batch es in
    let g = open_gate (length all) es batch rest is_batch in
    let t = o.on (167 ∷ (batch ++ rest)) es (g.0 ++ (length all - length rest - 1) ∷ []) (omega (arith, size, ten, o.past)) g.1 in
    let place : length all - length rest - 1 ≡ gate + length batch = omega (arith, size) in
    (t.0 ++ g.0, ap journal is ∙ t.1 ∙ ap (λ (z : List ℕ). Ok (holding (list ++ es) z)) (sym (append_assoc t.0 g.0 ((length all - length rest - 1) ∷ []))) ∙ ap (λ (n : ℕ). Ok (holding (list ++ es) ((t.0 ++ g.0) ++ n ∷ []))) place)

pub front_is : (octets : List ℕ) (gate : ℕ) (list : List Entry) (o : Opened Second octets gate list) → take (gate + 1) octets ≡ o.front ++ o.shut ∷ []
front_is octets gate list o =
    ap (take (gate + 1)) (o.parts ∙ sym (append_assoc o.front (o.shut ∷ []) o.rest)) ∙ take_at (o.front ++ o.shut ∷ []) o.rest (gate + 1) (omega (arith, length-append o.front (o.shut ∷ []), o.size))

-- what the write behind the closed gate may leave
pub torn_first : (octets : List ℕ) (gate : ℕ) (list : List Entry) (o : Opened Second octets gate list) (n : ℕ) (c : List ℕ) → Torn (gate + 1) n octets c → StandsFor c list
torn_first octets gate list o n c torn =
    let whole : c ≡ o.front ++ o.shut ∷ drop (gate + 1) c =
    sym (take-append-drop (gate + 1) c) ∙ ap (λ (z : List ℕ). z ++ drop (gate + 1) c) (torn.before ∙ front_is octets gate list o) ∙ append_assoc o.front (o.shut ∷ []) (drop (gate + 1) c) in
    closed_there octets gate list o o.shut (drop (gate + 1) c) c o.closed (omega (arith, o.long, torn.no_shorter)) whole

-- what it leaves when it is done
pub first_done : (octets : List ℕ) (gate : ℕ) (list : List Entry) (o : Opened Second octets gate list) (batch c : List ℕ) → Written octets (gate + 1) batch c → c ≡ o.front ++ o.shut ∷ (batch ++ drop (gate + 1 + length batch) octets)
first_done octets gate list o batch c written =
    written ∙ ap (λ (z : List ℕ). z ++ batch ++ drop (gate + 1 + length batch) octets) (front_is octets gate list o) ∙ joined_up o.front o.shut batch (drop (gate + 1 + length batch) octets)
  where
    joined_up : (a : List ℕ) (x : ℕ) (b d : List ℕ) → ((a ++ x ∷ []) ++ b) ++ d ≡ a ++ x ∷ (b ++ d)
    joined_up a x b d = simp append_assoc

-- what the write of the gate may leave
pub torn_gate : (octets : List ℕ) (gate : ℕ) (list : List Entry) (o : Opened Second octets gate list) (es : List Entry) (batch rest staged c : List ℕ) → IsBatch batch es → staged ≡ o.front ++ o.shut ∷ (batch ++ rest) → Torn gate 1 staged c → Outcome list es c
torn_gate octets gate list o es batch rest staged c is_batch is torn =
    let size : length staged ≡ gate + 1 + (length batch + length rest) = omega (arith, ap length is, length-append o.front (o.shut ∷ (batch ++ rest)), length-append batch rest, o.size) in
    let ten : length batch ≡ 10 + length (spellings es) = ap length is_batch.spelled ∙ length-batch es in
    let x = get_or c gate 0 in
    let front : take gate c ≡ o.front = torn.before ∙ ap (take gate) is ∙ take_at o.front (o.shut ∷ (batch ++ rest)) gate o.size in
    let back : drop (gate + 1) c ≡ batch ++ rest =
    torn.behind ∙ ap (drop (gate + 1)) (is ∙ sym (append_assoc o.front (o.shut ∷ []) (batch ++ rest))) ∙ drop_at (o.front ++ o.shut ∷ []) (batch ++ rest) (gate + 1) (omega (arith, length-append o.front (o.shut ∷ []), o.size)) in
    let here : drop gate c ≡ x ∷ (batch ++ rest) = drop_more c gate 0 (omega (arith, torn.no_shorter, size)) ∙ ap (λ (z : List ℕ). x ∷ z) back in
    let whole : c ≡ o.front ++ x ∷ (batch ++ rest) = sym (take-append-drop gate c) ∙ ap (λ (z : List ℕ). z ++ drop gate c) front ∙ ap (λ (z : List ℕ). o.front ++ z) here in
    let long : 33 ≤ length c = omega (arith, torn.no_shorter, size, ten, o.past) in
    by_gate (x == 167) refl whole long
  where
    by_gate : (b : Bool) → (get_or c gate 0 == 167) ≡ b → c ≡ o.front ++ get_or c gate 0 ∷ (batch ++ rest) → 33 ≤ length c → Outcome list es c
    by_gate true gate_is whole long =
        let t = open_there octets gate list o es batch rest c is_batch (whole ∙ ap (λ (n : ℕ). o.front ++ n ∷ (batch ++ rest)) (eqb-true (get_or c gate 0) 167 gate_is)) in
        inr (t.0 ++ (gate + length batch) ∷ [], t.1)
    by_gate false gate_is whole long = inl (closed_there octets gate list o (get_or c gate 0) (batch ++ rest) c gate_is long whole)

-- what it leaves when it is done
pub gate_done : (octets : List ℕ) (gate : ℕ) (list : List Entry) (o : Opened Second octets gate list) (batch rest staged c : List ℕ) → staged ≡ o.front ++ o.shut ∷ (batch ++ rest) → Written staged gate (167 ∷ []) c → c ≡ o.front ++ 167 ∷ (batch ++ rest)
gate_done octets gate list o batch rest staged c is written =
    let front : take gate staged ≡ o.front = ap (take gate) is ∙ take_at o.front (o.shut ∷ (batch ++ rest)) gate o.size in
    let back : drop (gate + 1) staged ≡ batch ++ rest =
    ap (drop (gate + 1)) (is ∙ sym (append_assoc o.front (o.shut ∷ []) (batch ++ rest))) ∙ drop_at (o.front ++ o.shut ∷ []) (batch ++ rest) (gate + 1) (omega (arith, length-append o.front (o.shut ∷ []), o.size)) in
    written ∙ ap (λ (z : List ℕ). z ++ (167 ∷ []) ++ drop (gate + 1) staged) front ∙ ap (λ (z : List ℕ). o.front ++ (167 ∷ []) ++ z) back ∙ append_assoc o.front (167 ∷ []) (batch ++ rest)

pub stands_after : (octets : List ℕ) (gate : ℕ) (list : List Entry) (o : Opened Second octets gate list) (es : List Entry) (batch rest c : List ℕ) → IsBatch batch es → c ≡ o.front ++ 167 ∷ (batch ++ rest) → StandsFor c (list ++ es)
stands_after octets gate list o es batch rest c is_batch is = let t = open_there octets gate list o es batch rest c is_batch is in (t.0 ++ (gate + length batch) ∷ [], t.1)

pub settled_after : (octets : List ℕ) (gate : ℕ) (list : List Entry) (o : Opened Second octets gate list) (es : List Entry) (batch rest c : List ℕ) → IsBatch batch es → gate + 1 + length batch < 2 ^ 64 → c ≡ o.front ++ 167 ∷ (batch ++ rest) → IsSettled c (gate + length batch)
settled_after octets gate list o es batch rest c is_batch room is =
    let t = open_there octets gate list o es batch rest c is_batch is in
    let size : length c ≡ gate + 1 + (length batch + length rest) = omega (arith, ap length is, length-append o.front (167 ∷ (batch ++ rest)), length-append batch rest, o.size) in
    let ten : length batch ≡ 10 + length (spellings es) = ap length is_batch.spelled ∙ length-batch es in
    let same : version_in c ≡ Second =
    ap version_in is ∙ version_front o.front (167 ∷ (batch ++ rest)) (omega (arith, o.size, o.past)) ∙ sym (version_front o.front (o.shut ∷ o.rest) (omega (arith, o.size, o.past))) ∙ ap version_in (sym o.parts) ∙ o.is in
    record { long = omega (arith, size, ten, o.past); second = same; place = ap place_in t.1 ∙ last_push t.0 (gate + length batch); room = omega (arith, room) }

found_in : (gate : ℕ) (read : Result Found OpenFault) → place_in read ≡ Some gate → (found : Found) × (read ≡ Ok found)
found_in gate (Ok found) e = (found, refl)
found_in gate (Err f) e = absurd cc

-- a settled disk stands for some entries
pub stands_for_some : (octets : List ℕ) (gate : ℕ) → IsSettled octets gate → (list : List Entry) × StandsFor octets list
stands_for_some octets gate settled = let f = found_in gate (journal octets) settled.place in (f.0.entries, (f.0.places, f.1))

pub gate_inside : (octets : List ℕ) (gate : ℕ) → IsSettled octets gate → gate + 1 ≤ length octets
gate_inside octets gate settled =
    let s = stands_for_some octets gate settled in
    let o = opened octets gate s.0 settled s.1 in
    omega (arith, ap length o.parts, length-append o.front (o.shut ∷ o.rest), o.size)

-- each image after the write behind the gate
pub first_image : (octets : List ℕ) (gate : ℕ) (list : List Entry) (o : Opened Second octets gate list) (at n : ℕ) (old new : List ℕ → Type 0) → at ≡ gate + 1 → Only octets old → Follows (Torn at n) old new → (c : List ℕ) → new c → StandsFor c list
first_image octets gate list o at n old new is only follows c now =
    let from = follows c now in
    torn_first octets gate list o n c (subst (λ (m : ℕ). Torn m n octets c) is (subst (λ (d : List ℕ). Torn at n d c) (only from.0 from.1) from.2))

-- each image after the write of the gate
pub gate_image : (octets : List ℕ) (gate : ℕ) (list : List Entry) (o : Opened Second octets gate list) (es : List Entry) (batch rest staged : List ℕ) (old new : List ℕ → Type 0) → IsBatch batch es → staged ≡ o.front ++ o.shut ∷ (batch ++ rest)
    → Only staged old → Follows (Torn gate 1) old new → (c : List ℕ) → new c → Outcome list es c
gate_image octets gate list o es batch rest staged old new is_batch is only follows c now =
    let from = follows c now in
    torn_gate octets gate list o es batch rest staged c is_batch is (subst (λ (d : List ℕ). Torn gate 1 d c) (only from.0 from.1) from.2)

-- behind the place that stands last there is room for a gate
pub room_behind : (octets : List ℕ) (found : Found) (gate : ℕ) → journal octets ≡ Ok found → last_of found.places ≡ Some gate → 33 ≤ length octets → length octets < 2 ^ 64 → gate + 1 < 2 ^ 64
room_behind octets found gate read last long fits = room (opened_at (version_in octets) octets gate found.entries refl long (ap place_in read ∙ last) (found.places, read))
  where
    room : Opened (version_in octets) octets gate found.entries → gate + 1 < 2 ^ 64
    room o =
        let inside : gate + 1 ≤ length octets = omega (arith, ap length o.parts, length-append o.front (o.shut ∷ o.rest), o.size) in
        omega (arith, inside, fits)

-- the place 0 stands last where there is no head, and only there
pub short_at_0 : (octets : List ℕ) (found : Found) (gate : ℕ) → journal octets ≡ Ok found → last_of found.places ≡ Some gate → gate ≡ 0 → length octets < 33
short_at_0 octets found gate read last is = elim (cases_lt (length octets) 33) [
  | inl lt ↦ lt
  | inr le ↦ (let o = opened_at (version_in octets) octets gate found.entries refl le (ap place_in read ∙ last) (found.places, read) in absurd (contradiction o.past is))
]
  where
    contradiction : 31 ≤ gate → gate ≡ 0 → ⊥
    contradiction past is = absurd (omega arith)

pub long_past_0 : (octets : List ℕ) (found : Found) (gate : ℕ) → journal octets ≡ Ok found → last_of found.places ≡ Some gate → (gate ≡ 0 → ⊥) → 33 ≤ length octets
long_past_0 octets found gate read last more = elim (cases_lt (length octets) 33) [
  | inl lt ↦ (let zero_is : Some 0 ≡ Some gate = sym (ap place_in (journal_short octets lt)) ∙ ap place_in read ∙ last in absurd (more (sym (some_is 0 gate zero_is))))
  | inr le ↦ le
]
