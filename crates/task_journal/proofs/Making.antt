-- What a crash leaves while an empty journal is made.
use Rattle.std.proofs.Common.{◌≡◌, inl, inr, ℕ, ◌+◌, ◌<◌, List, [], ◌∷◌, ◌++◌, length, get_or, take, drop, Result, Ok, Err, refl, sym, ap, subst, ◌∙◌, arith, take-append-drop}
use Rattle.std.proofs.lemmas.Bool.{cases_lt}
use Rattle.std.proofs.lemmas.List.{drop_all, drop_more, append-nil}
use Rattle.cluster_types.specs.declared.entry.Entry.{Entry}
use Rattle.disk_model.specs.Crashes.{Torn, Written, Follows, Only}
use Rattle.task_journal.specs.declared.fault.OpenFault.{OpenFault}
use Rattle.task_journal.specs.declared.found.Found.{Found}
use Rattle.task_journal.specs.Journal.{holding, found_from, head, journal, StandsFor, IsSame, entries_of, place_in}
use Rattle.task_journal.specs.Versions.{version_in}
use Rattle.task_journal.specs.Settled.{IsSettled}
use Rattle.task_journal.proofs.On.{journal_short, journal_headed}

-- the head and a closed gate
abbrev pub made : List ℕ
made = head ++ 0 ∷ []

pub short_stands : (c : List ℕ) → length c < 33 → StandsFor c []
short_stands c lt = (0 ∷ [], journal_short c lt)

-- behind the closed gate an octet that is read over
full : (x : ℕ) → journal (made ++ x ∷ []) ≡ Ok (holding [] (31 ∷ []))
unfolding found_from
full x = journal_headed (made ++ x ∷ []) (let n : length (made ++ x ∷ []) ≡ 33 = refl in omega arith) refl ∙ refl

-- what the write of the head may leave
pub torn_head : (octets c : List ℕ) → length octets < 33 → Torn 0 32 octets c → StandsFor c []
torn_head octets c lt torn = short_stands c (omega (arith, torn.no_longer, lt))

pub head_done : (octets c : List ℕ) → length octets < 33 → Written octets 0 made c → c ≡ made
head_done octets c lt written = written ∙ ap (λ (z : List ℕ). made ++ z) (drop_all 32 octets (omega (arith, lt))) ∙ append-nil made

-- what the write of the pad may leave
pub torn_pad : (c : List ℕ) → Torn 32 1 made c → StandsFor c []
torn_pad c torn =
    let size : length made ≡ 32 = refl in
    elim (cases_lt (length c) 33) [
      | inl lt ↦ short_stands c lt
      | inr le ↦
          let front : take 32 c ≡ made = torn.before in
          let none : drop (32 + 1) c ≡ [] = drop_all 33 c (omega (arith, torn.no_longer, size)) in
          let here : drop 32 c ≡ get_or c 32 0 ∷ [] = drop_more c 32 0 (omega (arith, le)) ∙ ap (λ (z : List ℕ). get_or c 32 0 ∷ z) none in
          let whole : c ≡ made ++ get_or c 32 0 ∷ [] = sym (take-append-drop 32 c) ∙ ap (λ (z : List ℕ). z ++ drop 32 c) front ∙ ap (λ (z : List ℕ). made ++ z) here in
          (31 ∷ [], ap journal whole ∙ full (get_or c 32 0))
    ]

pub pad_done : (c : List ℕ) → Written made 32 (0 ∷ []) c → c ≡ made ++ 0 ∷ []
pad_done c written = written

pub made_settled : (c : List ℕ) → c ≡ made ++ 0 ∷ [] → IsSettled c 31
made_settled c is =
    let size : length (made ++ 0 ∷ []) ≡ 33 = refl in
    record { long = omega (arith, ap length is, size); second = ap version_in is; place = ap (λ (z : List ℕ). place_in (journal z)) is ∙ ap place_in (full 0); room = omega arith }

pub made_empty : (c : List ℕ) → c ≡ made ++ 0 ∷ [] → StandsFor c []
made_empty c is = (31 ∷ [], ap journal is ∙ full 0)

pub head_image : (octets : List ℕ) (old new : List ℕ → Type 0) → length octets < 33 → Only octets old → Follows (Torn 0 32) old new → (c : List ℕ) → new c → StandsFor c []
head_image octets old new lt only follows c now =
    let from = follows c now in torn_head octets c lt (subst (λ (d : List ℕ). Torn 0 32 d c) (only from.0 from.1) from.2)

pub pad_image : (staged : List ℕ) (old new : List ℕ → Type 0) → staged ≡ made → Only staged old → Follows (Torn 32 1) old new → (c : List ℕ) → new c → StandsFor c []
pad_image staged old new is only follows c now =
    let from = follows c now in torn_pad c (subst (λ (d : List ℕ). Torn 32 1 d c) (only from.0 from.1 ∙ is) from.2)

-- a disk without entries stands for the same as one of fewer than 33 octets
pub same_empty : (c octets : List ℕ) → length octets < 33 → StandsFor c [] → IsSame c octets
same_empty c octets lt empty = ap entries_of empty.1 ∙ sym (ap entries_of (journal_short octets lt))

stands_by : (entries : List Entry) (read : Result Found OpenFault) → entries_of read ≡ Ok entries → (places : List ℕ) × (read ≡ Ok (holding entries places))
stands_by entries (Ok found) e = let is : found.entries ≡ entries = cc in (found.places, ap (λ (z : List Entry). Ok (holding z found.places)) is)
stands_by entries (Err f) e = absurd cc

pub stands_alike : (c octets : List ℕ) (found : Found) → IsSame c octets → journal octets ≡ Ok found → StandsFor c found.entries
stands_alike c octets found same read = stands_by found.entries (journal c) (same ∙ ap entries_of read)
