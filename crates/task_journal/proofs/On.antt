-- How reading goes on: what stands before a closed gate is read alike, whatever stands there and behind it.
use Rattle.std.proofs.Common.{◌≡◌, ℕ, zero, suc, ◌+◌, ◌-◌, ◌<◌, ◌≤◌, Bool, true, false, List, [], ◌∷◌, ◌++◌, length, take, drop, Result, Ok, Err, Option, Some, None, refl, sym, ap, subst, ◌∙◌, append_assoc, arith, length-drop}
use Rattle.std.specs.Prelude.{◌==◌, nat_lt, if◌then◌else◌}
use Rattle.std.specs.Int.{w32, from_be_bytes}
use Rattle.std.proofs.lemmas.Bool.{le-ltb, lt-ltb}
use Rattle.std.proofs.lemmas.List.{take-append-le, drop-append-le}
use Rattle.cluster_types.specs.declared.entry.Entry.{Entry}
use Rattle.task_journal.specs.declared.fault.OpenFault.{OpenFault}
use Rattle.task_journal.specs.declared.fault.OpenFault.TheVariants.{NotAJournal, Damaged, DiskFault, OutOfMemory}
use Rattle.task_journal.specs.declared.found.Found.{Found}
use Rattle.task_journal.specs.declared.gate.GateState.{GateState}
use Rattle.task_journal.specs.declared.gate.GateState.TheVariants.{Missing, Closed, Short, Open}
use Rattle.task_journal.specs.declared.version.Version.{Version}
use Rattle.task_journal.specs.Versions.{version_in, entry_in}
use Rattle.task_journal.specs.Journal.{◌>>=◌, nothing, holding, behind, with_front, one, record_of, record_at, records_at, gate_in, from_gate, found_from, head_fault, headed, journal, last_of, Fails}
use Rattle.task_journal.specs.Window.{HasHead}
use Rattle.task_journal.proofs.Gates.{gate_front}

pub bind_ok : {A B : Type 0} (r : Result A OpenFault) (f : A → Result B OpenFault) (y : B) → (r >>= f) ≡ Ok y → (x : A) × (r ≡ Ok x) × (f x ≡ Ok y)
bind_ok (Ok x) f y e = (x, refl, e)
bind_ok (Err d) f y e = absurd cc

pub ok_is : {A : Type 0} (x y : A) → ◌≡◌ {A = Result A OpenFault} (Ok x) (Ok y) → x ≡ y
ok_is x y e = cc

pub last_behind : (xs ys : List ℕ) (x : ℕ) → last_of ys ≡ Some x → last_of (xs ++ ys) ≡ Some x
last_behind [] ys x e = e
last_behind (y ∷ []) [] x e = absurd cc
last_behind (y ∷ []) (z ∷ zs) x e = e
last_behind (y ∷ (w ∷ ws)) ys x e = last_behind (w ∷ ws) ys x e

-- the entries of records don't depend on their place
entries_alike : (version : Version) (n end other : ℕ) (octets : List ℕ) (found : Found) → records_at version n end octets ≡ Ok found → (places : List ℕ) × (records_at version n other octets ≡ Ok (holding found.entries places))
unfolding records_at record_at
entries_alike version zero end other octets found e = none (length octets == 0) found e
  where
    none : (b : Bool) (f : Found) → (if b then Ok nothing else Err (Damaged (end - length octets))) ≡ Ok f → (places : List ℕ) × ((if b then Ok nothing else Err (Damaged (other - length octets))) ≡ Ok (holding f.entries places))
    none true f e = ([], ap (λ (g : Found). Ok (holding g.entries [])) (ok_is nothing f e))
    none false f e = absurd cc
entries_alike version (suc n) end other octets found e =
    let p = bind_ok (record_of (entry_in version octets) (end - length octets)) (λ first. with_front (one first.0 (end - length octets)) (records_at version n end first.1)) found e in
    let q = bind_ok (records_at version n end p.0.1) (λ f. Ok (behind (one p.0.0 (end - length octets)) f)) found p.2 in
    let r = entries_alike version n end other p.0.1 q.0 q.1 in
    let is : behind (one p.0.0 (end - length octets)) q.0 ≡ found = ok_is _ _ q.2 in
    let same : record_of (entry_in version octets) (other - length octets) ≡ Ok p.0 = alike (entry_in version octets) p.0 p.1 in
    ((other - length octets) ∷ r.0, rw (same, r.1) (ap (λ (f : Found). Ok (holding f.entries ((other - length octets) ∷ r.0))) is))
  where
    alike : (read : _) (x : Entry × List ℕ) → record_of read (end - length octets) ≡ Ok x → record_of read (other - length octets) ≡ Ok x
    alike (Ok y) x e = e
    alike (Err s) x e = absurd cc

shut_is : (b c : Bool) (m n : ℕ) → (if b then (if c then Short else Open m n) else Closed) ≡ Closed → b ≡ false
shut_is true true m n e = absurd cc
shut_is true false m n e = absurd cc
shut_is false c m n e = refl

-- what was found up to a closed gate is found again in front of other octets, and what is found in those comes behind it
pub record On (version : Version) (total skip : ℕ) (octets : List ℕ) (found : Found) : Type 0 where
  pub front : List ℕ
  pub shut : ℕ
  pub rest : List ℕ
  pub parts : octets ≡ front ++ shut ∷ rest
  pub closed : (shut == 167) ≡ false
  pub skipped : skip ≤ length front
  pub gate : last_of found.places ≡ Some (total - length rest - 1)
  pub on : (more : List ℕ) (size : ℕ) (entries : List Entry) (places : List ℕ) → found_from version size 0 more ≡ Ok (holding entries places) → (before : List ℕ) × (found_from version size skip (front ++ more) ≡ Ok (holding (found.entries ++ entries) (before ++ places)))

on_open : (version : Version) (total x len count : ℕ) (octets : List ℕ) (found : Found) → ((skip : ℕ) (f : Found) → found_from version total skip octets ≡ Ok f → On version total skip octets f) → gate_in (x ∷ octets) ≡ Open len count
    → from_gate version (Open len count) total octets (λ skip. found_from version total skip octets) ≡ Ok found → On version total 0 (x ∷ octets) found
unfolding found_from
on_open version total x len count octets found again gate e =
    let end = total - length (drop (9 + len) octets) in
    let p = bind_ok (records_at version count end (take len (drop 9 octets))) (λ f. with_front f (found_from version total (9 + len) octets)) found e in
    let q = bind_ok (found_from version total (9 + len) octets) (λ f. Ok (behind p.0 f)) found p.2 in
    let r = again (9 + len) q.0 q.1 in
    let is : behind p.0 q.0 ≡ found = ok_is _ _ q.2 in
    subst (λ (f : Found). On version total 0 (x ∷ octets) f) is (record {
      front = x ∷ r.front;
      shut = r.shut;
      rest = r.rest;
      parts = ap (λ (z : List ℕ). x ∷ z) r.parts;
      closed = r.closed;
      skipped = omega arith;
      gate = last_behind p.0.places q.0.places _ r.gate;
      on = λ more size entries places h.
          let s = r.on more size entries places h in
          let t = entries_alike version count end (size - length (drop (9 + len) (r.front ++ more))) (take len (drop 9 octets)) p.0 p.1 in
          let body : take len (drop 9 octets) ≡ take len (drop 9 (r.front ++ more)) = body_alike r.front (r.shut ∷ r.rest) more len r.skipped octets r.parts in
          let same : gate_in (x ∷ (r.front ++ more)) ≡ Open len count = gate_alike x r.front (r.shut ∷ r.rest) more (omega (arith, r.skipped)) octets r.parts ∙ gate in
          let records : records_at version count (size - length (drop (9 + len) (r.front ++ more))) (take len (drop 9 (r.front ++ more))) ≡ Ok (holding p.0.entries t.0) = ap (λ (z : List ℕ). records_at version count (size - length (drop (9 + len) (r.front ++ more))) z) (sym body) ∙ t.1 in
          (t.0 ++ s.0, rw (same, records, s.1) (ap (λ (f : Found). Ok f) (pair (sym (append_assoc p.0.entries q.0.entries entries)) (sym (append_assoc t.0 s.0 places)))));
    })
  where
    pair : {a b : List Entry} {c d : List ℕ} → a ≡ b → c ≡ d → holding a c ≡ holding b d
    pair e f = rw (e, f) refl

    front_alike : (n : ℕ) (a b d : List ℕ) → n ≤ length a → take n (a ++ b) ≡ take n (a ++ d)
    front_alike n a b d le = take-append-le n a b le ∙ sym (take-append-le n a d le)

    gate_alike : (y : ℕ) (a b d : List ℕ) → 9 ≤ length a → (xs : List ℕ) → xs ≡ a ++ b → gate_in (y ∷ (a ++ d)) ≡ gate_in (y ∷ xs)
    gate_alike y a b d le xs parts =
        sym (gate_front (y ∷ (a ++ d))) ∙ ap (λ (z : List ℕ). gate_in (y ∷ z)) (front_alike 9 a d b le) ∙ gate_front (y ∷ (a ++ b)) ∙ ap (λ (z : List ℕ). gate_in (y ∷ z)) (sym parts)

    body_alike : (a b d : List ℕ) (n : ℕ) → 9 + n ≤ length a → (xs : List ℕ) → xs ≡ a ++ b → take n (drop 9 xs) ≡ take n (drop 9 (a ++ d))
    body_alike a b d n le xs parts =
        ap (λ (z : List ℕ). take n (drop 9 z)) parts ∙ ap (take n) (drop-append-le 9 a b (omega (arith, le))) ∙ front_alike n (drop 9 a) b d (omega (arith, length-drop 9 a, le)) ∙ ap (take n) (sym (drop-append-le 9 a d (omega (arith, le))))

on_gate : (version : Version) (g : GateState) (total x : ℕ) (octets : List ℕ) (found : Found) → ((skip : ℕ) (f : Found) → found_from version total skip octets ≡ Ok f → On version total skip octets f) → gate_in (x ∷ octets) ≡ g
    → from_gate version g total octets (λ skip. found_from version total skip octets) ≡ Ok found → On version total 0 (x ∷ octets) found
on_gate version Missing total x octets found again gate e = absurd cc
on_gate version Short total x octets found again gate e = absurd cc
on_gate version Closed total x octets found again gate e =
    let is : holding [] ((total - length octets - 1) ∷ []) ≡ found = ok_is _ _ e in
    subst (λ (f : Found). On version total 0 (x ∷ octets) f) is (record {
      front = [];
      shut = x;
      rest = octets;
      parts = refl;
      closed = shut_is (x == 167) (nat_lt (length octets) 9) (from_be_bytes w32 (take 4 (drop 1 octets))) (from_be_bytes w32 (take 4 (drop 5 octets))) gate;
      skipped = omega arith;
      gate = refl;
      on = λ more size entries places h. ([], h);
    })
on_gate version (Open len count) total x octets found again gate e = on_open version total x len count octets found again gate e

pub on_found : (version : Version) (total skip : ℕ) (octets : List ℕ) (found : Found) → found_from version total skip octets ≡ Ok found → On version total skip octets found
unfolding found_from
on_found version total zero [] found e = absurd cc
on_found version total (suc skip) [] found e = absurd cc
on_found version total (suc skip) (x ∷ octets) found e =
    let r = on_found version total skip octets found e in record {
      front = x ∷ r.front;
      shut = r.shut;
      rest = r.rest;
      parts = ap (λ (z : List ℕ). x ∷ z) r.parts;
      closed = r.closed;
      skipped = omega (arith, r.skipped);
      gate = r.gate;
      on = r.on;
    }
on_found version total zero (x ∷ octets) found e = on_gate version (gate_in (x ∷ octets)) total x octets found (λ skip f. on_found version total skip octets f) refl e

-- ---- a whole disk

pub journal_short : (octets : List ℕ) → length octets < 33 → journal octets ≡ Ok (holding [] (0 ∷ []))
unfolding journal
journal_short octets lt = let few : nat_lt (length octets) 33 ≡ true = lt-ltb _ _ lt in rw few refl

pub journal_headed : (octets : List ℕ) → 33 ≤ length octets → head_fault octets ≡ None → journal octets ≡ found_from (version_in octets) (length octets) 31 octets
unfolding journal
journal_headed octets le same = let many : nat_lt (length octets) 33 ≡ false = le-ltb _ _ le in rw (many, same) refl

pub journal_other : (octets : List ℕ) (place : ℕ) → 33 ≤ length octets → head_fault octets ≡ Some place → journal octets ≡ Err (NotAJournal place)
unfolding journal
journal_other octets place le other = let many : nat_lt (length octets) 33 ≡ false = le-ltb _ _ le in rw (many, other) refl

head_same : (o : Option ℕ) (read : Result Found OpenFault) (found : Found) → headed o read ≡ Ok found → o ≡ None
head_same None read found e = refl
head_same (Some place) read found e = absurd cc

pub has_head : (octets : List ℕ) (found : Found) → 33 ≤ length octets → journal octets ≡ Ok found → head_fault octets ≡ None
unfolding journal
has_head octets found long e =
    let many : nat_lt (length octets) 33 ≡ false = le-ltb _ _ long in
    head_same (head_fault octets) (found_from (version_in octets) (length octets) 31 octets) found (rw many at e)

pub head_fails : (e : OpenFault) (octets : List ℕ) → 33 ≤ length octets → HasHead octets (Err e) → Fails e (journal octets)
head_fails (NotAJournal place) octets le other = journal_other octets place le other
head_fails (Damaged place) octets le other = absurd other
head_fails DiskFault octets le other = tt
head_fails OutOfMemory octets le other = tt
