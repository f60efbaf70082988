-- What the versions of a journal have in common, and how its head tells them.
use Rattle.std.proofs.Common.{◌≡◌, ℕ, ◌≤◌, Bool, true, false, List, ◌++◌, length, take, drop, set, Ok, Err, refl, sym, ap, ◌∙◌, arith, length-set, take-append-drop}
use Rattle.std.specs.Prelude.{◌==◌, if◌then◌else◌, slice_index}
use Rattle.std.proofs.lemmas.Bool.{eqb-true}
use Rattle.std.proofs.lemmas.List.{get_or_append_left, set-append_left, set-get_or, take-append-le, length-take}
use Rattle.cluster_types.specs.declared.entry.Entry.{Entry}
use Rattle.edges.specs.declared.stop.Stop.TheVariants.{Bad}
use Rattle.edges.specs.Difference.{difference}
use Rattle.edges.specs.Reading.{Read, ◌>>=◌}
use Rattle.edges.proofs.Extends.{Extends, in_turn, gives, refuses, eithers}
use Rattle.record_codec.specs.Reading.{entry_at}
use Rattle.record_codec.proofs.Extends.{entries}
use Rattle.task_journal.specs.declared.version.Version.{Version}
use Rattle.task_journal.specs.declared.version.Version.TheVariants.{First, Second}
use Rattle.task_journal.specs.Versions.{version_by, version_in, as_second, knows, entry_in}
use Rattle.task_journal.specs.Journal.{head, head_fault}
use Rattle.task_journal.proofs.Loops.{difference_take}

-- what reading a record in a version gives where more octets come
pub reads_on : (version : Version) → Extends (entry_in version)
unfolding entry_in
reads_on version = in_turn entry_at _ entries (λ e. eithers (knows version e) _ _ (gives e) refuses)

-- a record of the first version is one of each
pub entry_later : (version : Version) (octets : List ℕ) (x : Entry × List ℕ) → entry_in First octets ≡ Ok x → entry_in version octets ≡ Ok x
unfolding entry_in
entry_later First octets x e = e
entry_later Second octets x e = known (entry_at octets) e
  where
    chosen : (b : Bool) (y : Entry × List ℕ) → ◌≡◌ {A = Read Entry} (if b then Ok (y.0, y.1) else Err Bad) (Ok x) → ◌≡◌ {A = Read Entry} (Ok (y.0, y.1)) (Ok x)
    chosen true y e = e
    chosen false y e = absurd cc

    known : (read : Read Entry) → (read >>= λ y. if knows First y.0 then Ok (y.0, y.1) else Err Bad) ≡ Ok x → (read >>= λ y. if knows Second y.0 then Ok (y.0, y.1) else Err Bad) ≡ Ok x
    known (Ok y) e = chosen (knows First y.0) y e
    known (Err s) e = absurd cc

thirty_one : length head ≤ 31
thirty_one = let is : length head ≡ 31 = refl in omega arith

-- a head is seen in a front that is as long, and so is its version
pub head_front : (front rest : List ℕ) → 31 ≤ length front → head_fault (front ++ rest) ≡ head_fault front
head_front front rest le =
    let long : 31 ≤ length (set front 12 2) = omega (arith, length-set front 12 2, le) in
    ap (λ (z : List ℕ). difference 0 head z) (set-append_left front rest 12 2 (omega (arith, le)))
    ∙ sym (difference_take 0 31 head (set front 12 2 ++ rest) thirty_one)
    ∙ ap (λ (z : List ℕ). difference 0 head z) (take-append-le 31 (set front 12 2) rest long)
    ∙ difference_take 0 31 head (set front 12 2) thirty_one

pub version_front : (front rest : List ℕ) → 31 ≤ length front → version_in (front ++ rest) ≡ version_in front
version_front front rest le = ap version_by (get_or_append_left front rest 0 12 (omega (arith, le)))

fronts_is : (disk : List ℕ) → 31 ≤ length disk → 31 ≤ length (take 31 disk)
fronts_is disk le = omega (arith, length-take 31 disk, le)

pub head_read : (disk : List ℕ) → 31 ≤ length disk → head_fault (take 31 disk) ≡ head_fault disk
head_read disk le = sym (head_front (take 31 disk) (drop 31 disk) (fronts_is disk le)) ∙ ap head_fault (take-append-drop 31 disk)

pub version_read : (disk : List ℕ) → 31 ≤ length disk → version_in (take 31 disk) ≡ version_in disk
version_read disk le = sym (version_front (take 31 disk) (drop 31 disk) (fronts_is disk le)) ∙ ap version_in (take-append-drop 31 disk)

octet_is : (octet : ℕ) → version_by octet ≡ Second → octet ≡ 2
octet_is octet is = eqb-true octet 2 (chosen (octet == 2) is)
  where
    chosen : (b : Bool) → (if b then Second else First) ≡ Second → b ≡ true
    chosen true e = refl
    chosen false e = absurd cc

-- a journal of the second version has its version octet already
pub second_stays : (octets : List ℕ) → version_in octets ≡ Second → as_second octets ≡ octets
second_stays octets is = ap (λ (n : ℕ). set octets 12 n) (sym (octet_is (slice_index octets 12) is)) ∙ set-get_or octets 12 0
