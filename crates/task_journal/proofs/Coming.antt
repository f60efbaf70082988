-- What is still to come of a journal, step by step.
use Rattle.std.proofs.Common.{◌≡◌, ℕ, suc, ◌-◌, ◌<◌, ◌≤◌, Bool, true, false, List, [], length, drop, Result, Ok, Err, None, refl, sym, ap, ◌∙◌, arith, eq-eqb}
use Rattle.std.specs.Prelude.{◌==◌}
use Rattle.std.proofs.lemmas.Bool.Decides.{nat_tests}
use Rattle.cluster_types.specs.declared.entry.Entry.{Entry}
use Rattle.task_journal.specs.declared.fault.OpenFault.{OpenFault}
use Rattle.task_journal.specs.declared.fault.OpenFault.TheVariants.{NotAJournal, Damaged, DiskFault, OutOfMemory}
use Rattle.task_journal.specs.declared.found.Found.{Found}
use Rattle.task_journal.specs.declared.version.Version.{Version}
use Rattle.task_journal.specs.Versions.{version_in}
use Rattle.task_journal.specs.Journal.{◌>>=◌, with_front, one, record_at, records_at, found_from, head_fault, journal, Fails}
use Rattle.task_journal.specs.Window.{Ready, span}
use Rattle.task_journal.specs.Cursor.{Standing, IsOn, shut, batch_then, behind_gate, to_come}
use Rattle.task_journal.proofs.Loops.{regroup, none_before}
use Rattle.task_journal.proofs.Spans.{length-span, place_is}
use Rattle.task_journal.proofs.Gates.{found_skip}
use Rattle.task_journal.proofs.On.{journal_short, journal_headed}

-- behind the records of a batch comes what is found from the gate on
pub taken_come : (at : Standing) (disk : List ℕ) → IsOn at disk → at.left ≡ 0 → at.end ≤ at.ready.place → to_come at disk ≡ behind_gate at disk
unfolding to_come records_at
taken_come at disk on none le =
    let empty : length (span at.ready.place at.end disk) ≡ 0 = omega (arith, length-span at.ready.place at.end disk on.shows.whole) in
    let yes : (length (span at.ready.place at.end disk) == 0) ≡ true = eq-eqb (length (span at.ready.place at.end disk)) 0 empty in
    rw (none, yes) (none_before (behind_gate at disk))

-- octets are left over behind the records of a batch
pub over_come : (at : Standing) (disk : List ℕ) → IsOn at disk → at.left ≡ 0 → at.ready.place < at.end → to_come at disk ≡ Err (Damaged at.ready.place)
unfolding to_come records_at
over_come at disk on none lt =
    let some : 0 < length (span at.ready.place at.end disk) = omega (arith, length-span at.ready.place at.end disk on.shows.whole) in
    let more : (length (span at.ready.place at.end disk) == 0) ≡ false = grind (arith, nat_tests) in
    rw (none, more, place_is at.ready at.end disk on.shows) refl

pub first_then : (front : Found) (read after : Result Found OpenFault) → (with_front front read >>= λ found. with_front found after) ≡ with_front front (read >>= λ found. with_front found after)
first_then front (Ok found) after = sym (regroup front found after)
first_then front (Err e) after = refl

-- the record at the front is the first to come
pub record_comes : (at : Standing) (ready : Ready) (n : ℕ) (disk : List ℕ) (e : Entry) → IsOn at disk → at.left ≡ suc n → record_at at.version at.end (span at.ready.place at.end disk) ≡ Ok (e, span ready.place at.end disk)
    → to_come at disk ≡ with_front (one e at.ready.place) (to_come (record { version = at.version; ready = ready; size = at.size; left = n; end = at.end; gate = at.gate; closed = at.closed }) disk)
unfolding to_come records_at
record_comes at ready n disk e on some read =
    rw (some, read, place_is at.ready at.end disk on.shows) (first_then (one e at.ready.place) (records_at at.version n at.end (span ready.place at.end disk)) (behind_gate at disk))

pub then_fails : {X Y Z : Type 0} (e : OpenFault) (read : Result X OpenFault) (next : X → Result Y OpenFault) (more : Y → Result Z OpenFault) → Fails e read → Fails e (read >>= next >>= more)
then_fails (NotAJournal place) read next more fails = rw fails refl
then_fails (Damaged place) read next more fails = rw fails refl
then_fails DiskFault read next more fails = tt
then_fails OutOfMemory read next more fails = tt

-- no record stands at the front
pub record_fails : (e : OpenFault) (at : Standing) (n : ℕ) (disk : List ℕ) → at.left ≡ suc n → Fails e (record_at at.version at.end (span at.ready.place at.end disk)) → Fails e (to_come at disk)
unfolding to_come records_at
record_fails e at n disk some fails =
    let first = λ (x : Entry × List ℕ). with_front (one x.0 (at.end - length (span at.ready.place at.end disk))) (records_at at.version n at.end x.1) in
    rw some (then_fails e (record_at at.version at.end (span at.ready.place at.end disk)) first (λ found. with_front found (behind_gate at disk)) fails)

-- before the first entry of a disk that has no head
pub begun_short : (version : Version) (size : ℕ) (disk : List ℕ) → size ≡ length disk → size < 33 → to_come (record { version = version; ready = record { octets = []; place = 0 }; size = size; left = 0; end = 0; gate = 0; closed = true }) disk ≡ journal disk
unfolding to_come records_at
begun_short version size disk is lt = sym (journal_short disk (omega (arith, is, lt)))

-- and of one that has a head
pub begun_long : (version : Version) (size : ℕ) (disk : List ℕ) → size ≡ length disk → 33 ≤ size → head_fault disk ≡ None → version ≡ version_in disk
    → to_come (record { version = version; ready = record { octets = []; place = 31 }; size = size; left = 0; end = 31; gate = 31; closed = false }) disk ≡ journal disk
unfolding to_come records_at
begun_long version size disk is le same read =
    none_before (found_from version size 0 (drop 31 disk)) ∙ sym (found_skip version size 31 disk) ∙ ap (λ (n : ℕ). found_from version n 31 disk) is ∙ ap (λ (v : Version). found_from v (length disk) 31 disk) read
    ∙ sym (journal_headed disk (omega (arith, is, le)) same)

-- behind a gate that was found closed nothing comes
pub closed_come : (at : Standing) (disk : List ℕ) → IsOn at disk → at.left ≡ 0 → at.end ≤ at.ready.place → at.closed ≡ true → to_come at disk ≡ Ok (shut at.gate)
closed_come at disk on none le closed = taken_come at disk on none le ∙ rw closed refl

-- and behind another what is found from it on
pub open_come : (at : Standing) (disk : List ℕ) → IsOn at disk → at.left ≡ 0 → at.end ≤ at.ready.place → at.closed ≡ false → to_come at disk ≡ found_from at.version at.size 0 (drop at.gate disk)
open_come at disk on none le closed = taken_come at disk on none le ∙ rw closed refl

-- a standing at a closed gate
pub shut_on : (at : Standing) (disk : List ℕ) (gate : ℕ) → IsOn at disk → gate < at.size → IsOn (record { version = at.version; ready = record { octets = []; place = gate }; size = at.size; left = at.left; end = gate; gate = gate; closed = true }) disk
shut_on at disk gate on lt = record {
  shows = record { octets = refl; inside = omega arith; whole = omega (arith, on.whole) };
  whole = on.whole;
  fits = on.fits;
  read = on.read;
}

pub shut_come : (version : Version) (size left gate : ℕ) (disk : List ℕ) → left ≡ 0 → to_come (record { version = version; ready = record { octets = []; place = gate }; size = size; left = left; end = gate; gate = gate; closed = true }) disk ≡ Ok (shut gate)
unfolding to_come records_at
shut_come version size left gate disk none =
    let some : gate - gate ≡ 0 = omega arith in
    rw (none, some) refl

-- a standing before the records of a batch
pub batch_on : (at : Standing) (disk : List ℕ) (count from end gate : ℕ) → IsOn at disk → from ≤ end → end ≤ at.size
    → IsOn (record { version = at.version; ready = record { octets = []; place = from }; size = at.size; left = count; end = end; gate = gate; closed = at.closed }) disk
batch_on at disk count from end gate on first last = record {
  shows = record { octets = refl; inside = omega (arith, first); whole = omega (arith, on.whole, last) };
  whole = on.whole;
  fits = on.fits;
  read = on.read;
}

pub batch_come : (version : Version) (size count from end gate : ℕ) (closed : Bool) (disk : List ℕ) → closed ≡ false
    → to_come (record { version = version; ready = record { octets = []; place = from }; size = size; left = count; end = end; gate = gate; closed = closed }) disk ≡ batch_then version count (span from end disk) end (found_from version size 0 (drop gate disk))
unfolding to_come
batch_come version size count from end gate closed disk open_yet = rw open_yet refl
