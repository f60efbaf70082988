-- What the first version reads, each version reads.
use Rattle.std.proofs.Common.{◌≡◌, ℕ, zero, suc, ◌+◌, ◌-◌, List, [], ◌∷◌, length, take, drop, Ok, Err, ap}
use Rattle.cluster_types.specs.declared.entry.Entry.{Entry}
use Rattle.edges.specs.Reading.{Read}
use Rattle.task_journal.specs.declared.found.Found.{Found}
use Rattle.task_journal.specs.declared.gate.GateState.{GateState}
use Rattle.task_journal.specs.declared.gate.GateState.TheVariants.{Missing, Closed, Short, Open}
use Rattle.task_journal.specs.declared.version.Version.{Version}
use Rattle.task_journal.specs.declared.version.Version.TheVariants.{First}
use Rattle.task_journal.specs.Versions.{entry_in}
use Rattle.task_journal.specs.Journal.{behind, with_front, one, record_of, record_at, records_at, gate_in, from_gate, found_from}
use Rattle.task_journal.proofs.Versions.{entry_later}
use Rattle.task_journal.proofs.On.{bind_ok, ok_is}

record_ok : (read : Read Entry) (place : ℕ) (x : Entry × List ℕ) → record_of read place ≡ Ok x → read ≡ Ok x
record_ok (Ok y) place x e = ap (λ (z : Entry × List ℕ). Ok z) (ok_is y x e)
record_ok (Err s) place x e = absurd cc

record_later : (version : Version) (octets : List ℕ) (place : ℕ) (x : Entry × List ℕ) → record_of (entry_in First octets) place ≡ Ok x → record_of (entry_in version octets) place ≡ Ok x
record_later version octets place x e = ap (λ (r : Read Entry). record_of r place) (entry_later version octets x (record_ok (entry_in First octets) place x e))

records_later : (version : Version) (n end : ℕ) (octets : List ℕ) (found : Found) → records_at First n end octets ≡ Ok found → records_at version n end octets ≡ Ok found
unfolding records_at record_at
records_later version zero end octets found e = e
records_later version (suc n) end octets found e =
    let p = bind_ok (record_of (entry_in First octets) (end - length octets)) (λ first. with_front (one first.0 (end - length octets)) (records_at First n end first.1)) found e in
    let q = bind_ok (records_at First n end p.0.1) (λ f. Ok (behind (one p.0.0 (end - length octets)) f)) found p.2 in
    rw (record_later version octets (end - length octets) p.0 p.1, records_later version n end p.0.1 q.0 q.1) q.2

gate_later : (g : GateState) (version : Version) (total : ℕ) (octets : List ℕ) (found : Found) → ((skip : ℕ) (f : Found) → found_from First total skip octets ≡ Ok f → found_from version total skip octets ≡ Ok f)
    → from_gate First g total octets (λ skip. found_from First total skip octets) ≡ Ok found → from_gate version g total octets (λ skip. found_from version total skip octets) ≡ Ok found
gate_later Missing version total octets found again e = e
gate_later Closed version total octets found again e = e
gate_later Short version total octets found again e = e
gate_later (Open len count) version total octets found again e =
    let end = total - length (drop (9 + len) octets) in
    let p = bind_ok (records_at First count end (take len (drop 9 octets))) (λ f. with_front f (found_from First total (9 + len) octets)) found e in
    let q = bind_ok (found_from First total (9 + len) octets) (λ f. Ok (behind p.0 f)) found p.2 in
    rw (records_later version count end (take len (drop 9 octets)) p.0 p.1, again (9 + len) q.0 q.1) q.2

pub found_later : (version : Version) (total skip : ℕ) (octets : List ℕ) (found : Found) → found_from First total skip octets ≡ Ok found → found_from version total skip octets ≡ Ok found
unfolding found_from
found_later version total zero [] found e = e
found_later version total (suc skip) [] found e = e
found_later version total (suc skip) (x ∷ octets) found e = found_later version total skip octets found e
found_later version total zero (x ∷ octets) found e = gate_later (gate_in (x ∷ octets)) version total octets found (λ skip f. found_later version total skip octets f) e
