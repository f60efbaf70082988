-- The records of a journal's list have no more octets than the journal.
use Rattle.std.proofs.Common.{◌≡◌, ℕ, zero, suc, ◌+◌, ◌-◌, ◌≤◌, Bool, true, false, List, [], ◌∷◌, ◌++◌, length, take, drop, Option, Some, None, Result, Ok, Err, ap, subst, ◌∙◌, arith, inl, inr, length-append}
use Rattle.std.specs.Prelude.{◌==◌, nat_lt, if◌then◌else◌}
use Rattle.std.proofs.lemmas.Bool.{cases_lt}
use Rattle.std.proofs.lemmas.Grind.{flat_map-append}
use Rattle.std.proofs.lemmas.List.{length-take, get_or-take, get_or_past}
use Rattle.cluster_types.specs.declared.entry.Entry.{Entry}
use Rattle.edges.specs.declared.stop.Stop.TheVariants.{Bad}
use Rattle.edges.specs.Reading.{Read}
use Rattle.edges.proofs.Takes.{IsBytes, IsBytes-drop}
use Rattle.edges.proofs.Takes as takes
use Rattle.record_codec.specs.Reading.{entry_at}
use Rattle.record_codec.specs.Spelling.{spelling}
use Rattle.record_codec.specs.Records.{spellings}
use Rattle.record_codec.proofs.Takes.{entry_takes}
use Rattle.task_journal.specs.declared.fault.OpenFault.{OpenFault}
use Rattle.task_journal.specs.declared.fault.OpenFault.TheVariants.{Damaged}
use Rattle.task_journal.specs.declared.found.Found.{Found}
use Rattle.task_journal.specs.declared.gate.GateState.{GateState}
use Rattle.task_journal.specs.declared.gate.GateState.TheVariants.{Missing, Closed, Short, Open}
use Rattle.task_journal.specs.declared.version.Version.{Version}
use Rattle.task_journal.specs.Versions.{version_in, knows, entry_in}
use Rattle.task_journal.specs.Journal.{nothing, holding, behind, with_front, one, record_of, record_at, records_at, gate_in, from_gate, found_from, head_fault, headed, journal, StandsFor}
use Rattle.task_journal.proofs.On.{bind_ok, ok_is}

first_bytes : (n : ℕ) (bytes : List ℕ) → IsBytes bytes → IsBytes (take n bytes)
first_bytes n bytes h i =
    elim (cases_lt i n) [
      | inl lt ↦ rw (get_or-take n bytes i 0 lt) (h i)
      | inr le ↦ rw (get_or_past (take n bytes) i 0 (omega (arith, length-take n bytes))) (omega arith)
    ]

-- a record and what is left have all octets
record RecordSize (octets : List ℕ) (x : Entry × List ℕ) : Type 0 where
  size : length (spelling x.0) + length x.1 ≡ length octets
  bytes : IsBytes x.1

record_ok : (read : Read Entry) (place : ℕ) (x : Entry × List ℕ) → record_of read place ≡ Ok x → read ≡ Ok x
record_ok (Ok y) place x e = ap (λ (z : Entry × List ℕ). Ok z) (ok_is y x e)
record_ok (Err s) place x e = absurd cc

record_size : (version : Version) (octets : List ℕ) (x : Entry × List ℕ) → IsBytes octets → entry_in version octets ≡ Ok x → RecordSize octets x
unfolding entry_in
record_size version octets x bytes e =
    let p = takes.bind_ok (entry_at octets) (λ y. if knows version y.0 then Ok (y.0, y.1) else Err Bad) x e in
    let t = entry_takes octets x.0 x.1 bytes (p.1 ∙ chosen (knows version p.0.0) p.0 p.2) in
    record { size = omega (arith, ap length t.1, ap length t.2.0, length-append t.0 x.1); bytes = t.3 }
  where
    chosen : (b : Bool) (y : Entry × List ℕ) → ◌≡◌ {A = Read Entry} (if b then Ok (y.0, y.1) else Err Bad) (Ok x) → ◌≡◌ {A = Read Entry} (Ok y) (Ok x)
    chosen true y e = e
    chosen false y e = absurd cc

records_size : (version : Version) (n end : ℕ) (octets : List ℕ) (found : Found) → IsBytes octets → records_at version n end octets ≡ Ok found → length (spellings found.entries) ≤ length octets
unfolding records_at record_at
records_size version zero end octets found bytes e = none (length octets == 0) e
  where
    none : (b : Bool) → (if b then Ok nothing else Err (Damaged (end - length octets))) ≡ Ok found → length (spellings found.entries) ≤ length octets
    none true e = subst (λ (f : Found). length (spellings f.entries) ≤ length octets) (ok_is nothing found e) (omega arith)
    none false e = absurd cc
records_size version (suc n) end octets found bytes e =
    let p = bind_ok (record_of (entry_in version octets) (end - length octets)) (λ first. with_front (one first.0 (end - length octets)) (records_at version n end first.1)) found e in
    let q = bind_ok (records_at version n end p.0.1) (λ f. Ok (behind (one p.0.0 (end - length octets)) f)) found p.2 in
    let r = record_size version octets p.0 bytes (record_ok (entry_in version octets) (end - length octets) p.0 p.1) in
    let more = records_size version n end p.0.1 q.0 r.bytes q.1 in
    subst (λ (f : Found). length (spellings f.entries) ≤ length octets) (ok_is (behind (one p.0.0 (end - length octets)) q.0) found q.2)
    (omega (arith, more, r.size, length-append (spelling p.0.0) (spellings q.0.entries)))

gate_size : (g : GateState) (version : Version) (total : ℕ) (octets : List ℕ) (found : Found) → IsBytes octets
    → ((skip : ℕ) (f : Found) → found_from version total skip octets ≡ Ok f → skip + length (spellings f.entries) ≤ length octets)
    → from_gate version g total octets (λ skip. found_from version total skip octets) ≡ Ok found → length (spellings found.entries) ≤ length octets
gate_size Missing version total octets found bytes next e = absurd cc
gate_size Closed version total octets found bytes next e =
    subst (λ (f : Found). length (spellings f.entries) ≤ length octets) (ok_is (record { entries = []; places = (total - length octets - 1) ∷ [] }) found e) (omega arith)
gate_size Short version total octets found bytes next e = absurd cc
gate_size (Open len count) version total octets found bytes next e =
    let end = total - length (drop (9 + len) octets) in
    let body = take len (drop 9 octets) in
    let p = bind_ok (records_at version count end body) (λ f. with_front f (found_from version total (9 + len) octets)) found e in
    let q = bind_ok (found_from version total (9 + len) octets) (λ f. Ok (behind p.0 f)) found p.2 in
    let first = records_size version count end body p.0 (first_bytes len (drop 9 octets) (IsBytes-drop 9 octets bytes)) p.1 in
    let more = next (9 + len) q.0 q.1 in
    let both : length (spellings (p.0.entries ++ q.0.entries)) ≡ length (spellings p.0.entries) + length (spellings q.0.entries) =
    ap length (flat_map-append spelling p.0.entries q.0.entries) ∙ length-append (spellings p.0.entries) (spellings q.0.entries) in
    subst (λ (f : Found). length (spellings f.entries) ≤ length octets) (ok_is (behind p.0 q.0) found q.2)
    (omega (arith, first, more, both, length-take len (drop 9 octets)))

found_size : (version : Version) (total skip : ℕ) (octets : List ℕ) (found : Found) → IsBytes octets → found_from version total skip octets ≡ Ok found → skip + length (spellings found.entries) ≤ length octets
unfolding found_from
found_size version total zero [] found bytes e = absurd cc
found_size version total (suc skip) [] found bytes e = absurd cc
found_size version total (suc skip) (x ∷ octets) found bytes e = let more = found_size version total skip octets found (λ i. bytes (suc i)) e in omega (arith, more)
found_size version total zero (x ∷ octets) found bytes e =
    let le = gate_size (gate_in (x ∷ octets)) version total octets found (λ i. bytes (suc i)) (λ skip f. found_size version total skip octets f (λ i. bytes (suc i))) e in
    omega (arith, le)

pub journal_size : (octets : List ℕ) (list : List Entry) → IsBytes octets → StandsFor octets list → length (spellings list) ≤ length octets
unfolding journal
journal_size octets list bytes stands = by_size (nat_lt (length octets) 33) stands.1
  where
    found : Result Found OpenFault
    found = found_from (version_in octets) (length octets) 31 octets

    by_head : (o : Option ℕ) → headed o found ≡ Ok (holding list stands.0) → length (spellings list) ≤ length octets
    by_head None e = let le = found_size (version_in octets) (length octets) 31 octets (holding list stands.0) bytes e in omega (arith, le)
    by_head (Some place) e = absurd cc

    by_size : (few : Bool) → (if few then Ok (record { entries = []; places = 0 ∷ [] }) else headed (head_fault octets) found) ≡ Ok (holding list stands.0) → length (spellings list) ≤ length octets
    by_size true e = subst (λ (f : Found). length (spellings f.entries) ≤ length octets) (ok_is (record { entries = []; places = 0 ∷ [] }) (holding list stands.0) e) (omega arith)
    by_size false e = by_head (head_fault octets) e
