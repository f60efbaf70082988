-- Octets of a disk between two places, and the record at their front.
use Rattle.std.proofs.Common.{◌≡◌, ℕ, ◌+◌, ◌-◌, ◌<◌, ◌≤◌, List, [], ◌++◌, length, take, drop, Result, Ok, Err, refl, sym, ap, ◌∙◌, arith, length-append, length-drop}
use Rattle.std.proofs.lemmas.List.{length-take, drop-drop, drop_all, drop-append-le}
use Rattle.std.proofs.Math.Seq.{take-add}
use Rattle.cluster_types.specs.declared.entry.Entry.{Entry}
use Rattle.edges.specs.declared.stop.Stop.TheVariants.{Short, Bad}
use Rattle.task_journal.specs.declared.version.Version.{Version}
use Rattle.task_journal.specs.Versions.{entry_in}
use Rattle.task_journal.proofs.Versions.{reads_on}
use Rattle.task_journal.specs.declared.fault.OpenFault.{OpenFault}
use Rattle.task_journal.specs.declared.fault.OpenFault.TheVariants.{Damaged, DiskFault, OutOfMemory}
use Rattle.task_journal.specs.Journal.{record_at, Fails, IsOfDisk}
use Rattle.task_journal.specs.Window.{Ready, Shows, span}

pub fails_any : {Y : Type 0} (e : OpenFault) (read : Result Y OpenFault) → IsOfDisk e → Fails e read
fails_any DiskFault read of = tt
fails_any OutOfMemory read of = tt
fails_any _ read of = absurd of

pub length-span : (from to : ℕ) (disk : List ℕ) → to ≤ length disk → length (span from to disk) ≡ to - from
length-span from to disk le = omega (arith, length-take (to - from) (drop from disk), length-drop from disk)

-- a span is a part of it and the rest
pub span_parts : (from mid to : ℕ) (disk : List ℕ) → from ≤ mid → mid ≤ to → span from to disk ≡ span from mid disk ++ span mid to disk
span_parts from mid to disk le le2 =
    let sizes : to - from ≡ (mid - from) + (to - mid) = omega arith in
    let place : from + (mid - from) ≡ mid = omega arith in
    ap (λ (n : ℕ). take n (drop from disk)) sizes ∙ take-add (mid - from) (to - mid) (drop from disk)
    ∙ ap (λ (z : List ℕ). span from mid disk ++ take (to - mid) z) (drop-drop (mid - from) from disk ∙ ap (λ (n : ℕ). drop n disk) place)

ready_is : (w : Ready) (end : ℕ) (disk : List ℕ) → Shows w end disk → w.octets ≡ span w.place (w.place + length w.octets) disk
ready_is w end disk shows =
    let n : (w.place + length w.octets) - w.place ≡ length w.octets = omega arith in
    shows.octets ∙ ap (λ (n : ℕ). take n (drop w.place disk)) (sym n)

-- the octets up to the end are those that were read and those that weren't
pub left_is : (w : Ready) (end : ℕ) (disk : List ℕ) → Shows w end disk → span w.place end disk ≡ w.octets ++ span (w.place + length w.octets) end disk
left_is w end disk shows =
    span_parts w.place (w.place + length w.octets) end disk (omega arith) shows.inside ∙ ap (λ (z : List ℕ). z ++ span (w.place + length w.octets) end disk) (sym (ready_is w end disk shows))

pub place_is : (w : Ready) (end : ℕ) (disk : List ℕ) → Shows w end disk → end - length (span w.place end disk) ≡ w.place
place_is w end disk shows = omega (arith, length-span w.place end disk shows.whole, shows.inside)

-- what is left of what was read, after octets were taken off its front
pub taken_shows : (w v : Ready) (end : ℕ) (disk : List ℕ) (n : ℕ) → Shows w end disk → n ≤ length w.octets → v.octets ≡ drop n w.octets → v.place ≡ w.place + n → Shows v end disk
taken_shows w v end disk n shows le octets place =
    let m : length v.octets ≡ length w.octets - n = ap length octets ∙ length-drop n w.octets in
    let all : w.octets ≡ span w.place (w.place + length w.octets) disk = ready_is w end disk shows in
    let parts : span w.place (w.place + length w.octets) disk ≡ span w.place (w.place + n) disk ++ span (w.place + n) (w.place + length w.octets) disk = span_parts w.place (w.place + n) (w.place + length w.octets) disk (omega arith) (omega arith) in
    let long : length (span w.place (w.place + n) disk) ≡ n = omega (arith, length-span w.place (w.place + n) disk (omega (arith, shows.inside, shows.whole))) in
    let rest : drop n w.octets ≡ span (w.place + n) (w.place + length w.octets) disk =
    ap (drop n) (all ∙ parts) ∙ drop-append-le n (span w.place (w.place + n) disk) (span (w.place + n) (w.place + length w.octets) disk) (omega (arith, long))
    ∙ ap (λ (z : List ℕ). z ++ span (w.place + n) (w.place + length w.octets) disk) (drop_whole n (span w.place (w.place + n) disk) (omega (arith, long))) in
    let size : (w.place + length w.octets) - (w.place + n) ≡ length v.octets = omega (arith, m) in
    record {
      octets = octets ∙ rest ∙ ap (λ (k : ℕ). take k (drop (w.place + n) disk)) size ∙ ap (λ (k : ℕ). take (length v.octets) (drop k disk)) (sym place);
      inside = omega (arith, m, place, shows.inside);
      whole = shows.whole;
    }
  where
    drop_whole : (n : ℕ) (xs : List ℕ) → length xs ≤ n → drop n xs ≡ []
    drop_whole n xs le = drop_all n xs le

-- the record at the front of what was read is the one at the front of all
pub record_found : (version : Version) (w v : Ready) (end : ℕ) (disk : List ℕ) (e : Entry) (n : ℕ) → Shows w end disk → n ≤ length w.octets → v.octets ≡ drop n w.octets → v.place ≡ w.place + n → entry_in version w.octets ≡ Ok (e, drop n w.octets)
    → record_at version end (span w.place end disk) ≡ Ok (e, span v.place end disk)
unfolding record_at
record_found version w v end disk e n shows le octets place read =
    let behind = span (w.place + length w.octets) end disk in
    let whole : entry_in version (span w.place end disk) ≡ Ok (e, drop n w.octets ++ behind) = ap (entry_in version) (left_is w end disk shows) ∙ (reads_on version).whole w.octets behind e (drop n w.octets) read in
    let later = taken_shows w v end disk n shows le octets place in
    let size : v.place + length v.octets ≡ w.place + length w.octets = omega (arith, ap length octets, length-drop n w.octets, place, le) in
    let rest : drop n w.octets ++ behind ≡ span v.place end disk =
    ap (λ (z : List ℕ). z ++ behind) (sym octets) ∙ ap (λ (k : ℕ). v.octets ++ span k end disk) (sym size) ∙ sym (left_is v end disk later) in
    rw (whole, rest) refl

-- no record stands there, whatever comes behind what was read
pub record_bad : (version : Version) (w : Ready) (end : ℕ) (disk : List ℕ) → Shows w end disk → entry_in version w.octets ≡ Err Bad → record_at version end (span w.place end disk) ≡ Err (Damaged w.place)
unfolding record_at
record_bad version w end disk shows read =
    let whole : entry_in version (span w.place end disk) ≡ Err Bad = ap (entry_in version) (left_is w end disk shows) ∙ (reads_on version).bad w.octets (span (w.place + length w.octets) end disk) read in
    rw (whole, place_is w end disk shows) refl

-- the record is longer than the octets up to the end
pub record_short : (version : Version) (w : Ready) (end : ℕ) (disk : List ℕ) (missing : ℕ) → Shows w end disk → entry_in version w.octets ≡ Err (Short missing) → end - (w.place + length w.octets) < missing → record_at version end (span w.place end disk) ≡ Err (Damaged w.place)
unfolding record_at
record_short version w end disk missing shows read lt =
    let behind = span (w.place + length w.octets) end disk in
    let few : length behind < missing = omega (arith, length-span (w.place + length w.octets) end disk shows.whole, lt) in
    let whole : entry_in version (span w.place end disk) ≡ Err (Short (missing - length behind)) = ap (entry_in version) (left_is w end disk shows) ∙ (reads_on version).short w.octets behind missing read few in
    rw (whole, place_is w end disk shows) refl

-- more octets are read
pub more_shows : (w v : Ready) (end : ℕ) (disk : List ℕ) (n : ℕ) → Shows w end disk → w.place + length w.octets + n ≤ end → v.octets ≡ w.octets ++ take n (drop (w.place + length w.octets) disk) → v.place ≡ w.place → Shows v end disk
more_shows w v end disk n shows le octets place =
    let added : length (take n (drop (w.place + length w.octets) disk)) ≡ n = omega (arith, length-take n (drop (w.place + length w.octets) disk), length-drop (w.place + length w.octets) disk, le, shows.whole) in
    let size : length v.octets ≡ length w.octets + n = omega (arith, ap length octets, length-append w.octets (take n (drop (w.place + length w.octets) disk)), added) in
    let joined : take (length w.octets + n) (drop w.place disk) ≡ take (length w.octets) (drop w.place disk) ++ take n (drop (w.place + length w.octets) disk) =
    take-add (length w.octets) n (drop w.place disk) ∙ ap (λ (z : List ℕ). take (length w.octets) (drop w.place disk) ++ take n z) (drop-drop (length w.octets) w.place disk) in
    record {
      octets = octets ∙ ap (λ (z : List ℕ). z ++ take n (drop (w.place + length w.octets) disk)) shows.octets ∙ sym joined ∙ ap (λ (k : ℕ). take k (drop w.place disk)) (sym size) ∙ ap (λ (k : ℕ). take (length v.octets) (drop k disk)) (sym place);
      inside = omega (arith, size, place, le);
      whole = shows.whole;
    }
