-- What a crash leaves while a journal of the first version becomes one of the second.
use Rattle.std.proofs.Common.{◌≡◌, ℕ, ◌<◌, ◌≤◌, ◌^◌, List, [], ◌∷◌, ◌++◌, length, get_or, take, drop, set, Ok, Some, refl, sym, ap, subst, ◌∙◌, append_assoc, arith, length-set, take-append-drop}
use Rattle.std.proofs.lemmas.List.{set-set, set_split, get_or-set_same, drop-set-lt, drop_more}
use Rattle.cluster_types.specs.declared.entry.Entry.{Entry}
use Rattle.disk_model.specs.Crashes.{Torn, Written, Follows, Only}
use Rattle.edges.specs.Difference.{difference}
use Rattle.task_journal.specs.declared.found.Found.{Found}
use Rattle.task_journal.specs.declared.version.Version.{Version}
use Rattle.task_journal.specs.declared.version.Version.TheVariants.{First, Second}
use Rattle.task_journal.specs.Versions.{version_by, version_in, as_second}
use Rattle.task_journal.specs.Journal.{holding, found_from, head, journal, StandsFor, IsSame, entries_of, last_of, place_in}
use Rattle.task_journal.specs.Settled.{IsSettled}
use Rattle.task_journal.proofs.Versions.{second_stays}
use Rattle.task_journal.proofs.Gates.{found_skip}
use Rattle.task_journal.proofs.On.{journal_headed, has_head}
use Rattle.task_journal.proofs.Later.{found_later}
use Rattle.task_journal.proofs.Crash.{room_behind}

-- a journal of the first version holds the same with each version octet
marked_alike : (octets : List ℕ) (found : Found) (x : ℕ) → 33 ≤ length octets → version_in octets ≡ First → journal octets ≡ Ok found → journal (set octets 12 x) ≡ Ok found
marked_alike octets found x long first read =
    let c = set octets 12 x in
    let none = has_head octets found long read in
    let now : found_from First (length octets) 31 octets ≡ Ok found = ap (λ (v : Version). found_from v (length octets) 31 octets) (sym first) ∙ sym (journal_headed octets long none) ∙ read in
    let size : length c ≡ length octets = length-set octets 12 x in
    let same : drop 31 c ≡ drop 31 octets = drop-set-lt 31 octets 12 x (omega arith) in
    journal_headed c (omega (arith, size, long)) (ap (λ (z : List ℕ). difference 0 head z) (set-set octets 12 x 2) ∙ none)
    ∙ ap (λ (n : ℕ). found_from (version_in c) n 31 c) size
    ∙ found_skip (version_in c) (length octets) 31 c
    ∙ ap (λ (z : List ℕ). found_from (version_in c) (length octets) 0 z) same
    ∙ sym (found_skip (version_in c) (length octets) 31 octets)
    ∙ found_later (version_in c) (length octets) 31 octets found now

-- a journal holds the same as one of the second version
pub second_alike : (octets : List ℕ) (found : Found) → 33 ≤ length octets → journal octets ≡ Ok found → journal (as_second octets) ≡ Ok found
second_alike octets found long read = by_version (version_in octets) refl
  where
    by_version : (version : Version) → version_in octets ≡ version → journal (as_second octets) ≡ Ok found
    by_version First is = marked_alike octets found 2 long is read
    by_version Second is = ap journal (second_stays octets is) ∙ read

pub second_same : (octets c : List ℕ) (found : Found) → 33 ≤ length octets → journal octets ≡ Ok found → c ≡ as_second octets → IsSame c octets
second_same octets c found long read is = ap (λ (z : List ℕ). entries_of (journal z)) is ∙ ap entries_of (second_alike octets found long read) ∙ sym (ap entries_of read)

-- what the write of the version octet may leave
torn_mark : (octets c : List ℕ) → 33 ≤ length octets → Torn 12 1 octets c → c ≡ set octets 12 (get_or c 12 0)
torn_mark octets c long torn =
    let x = get_or c 12 0 in
    let here : drop 12 c ≡ x ∷ drop 13 octets = drop_more c 12 0 (omega (arith, torn.no_shorter, long)) ∙ ap (λ (z : List ℕ). x ∷ z) torn.behind in
    sym (take-append-drop 12 c) ∙ ap (λ (z : List ℕ). z ++ drop 12 c) torn.before ∙ ap (λ (z : List ℕ). take 12 octets ++ z) here ∙ sym (set_split octets 12 x (omega (arith, long)))

pub mark_image : (octets : List ℕ) (list : List Entry) (old new : List ℕ → Type 0) → 33 ≤ length octets → version_in octets ≡ First → StandsFor octets list → Only octets old → Follows (Torn 12 1) old new
    → (c : List ℕ) → new c → IsSame c octets
mark_image octets list old new long first stands only follows c now =
    let from = follows c now in
    let is = torn_mark octets c long (subst (λ (d : List ℕ). Torn 12 1 d c) (only from.0 from.1) from.2) in
    ap (λ (z : List ℕ). entries_of (journal z)) is ∙ ap entries_of (marked_alike octets (holding list stands.0) (get_or c 12 0) long first stands.1) ∙ sym (ap entries_of stands.1)

-- what it leaves when it is done
pub mark_done : (octets c : List ℕ) → 33 ≤ length octets → Written octets 12 (2 ∷ []) c → c ≡ as_second octets
mark_done octets c long written = written ∙ append_assoc (take 12 octets) (2 ∷ []) (drop 13 octets) ∙ sym (set_split octets 12 2 (omega (arith, long)))

-- the journal of the second version is settled where the one that was read is
pub second_settled : (octets c : List ℕ) (found : Found) (gate : ℕ) → journal octets ≡ Ok found → last_of found.places ≡ Some gate → 33 ≤ length octets → length octets < 2 ^ 64 → c ≡ as_second octets → IsSettled c gate
second_settled octets c found gate read last long fits is = subst (λ (z : List ℕ). IsSettled z gate) (sym is) (record {
  long = omega (arith, length-set octets 12 2, long);
  second = ap version_by (get_or-set_same octets 12 2 0 (omega (arith, long)));
  place = ap place_in (second_alike octets found long read) ∙ last;
  room = room_behind octets found gate read last long fits;
})
