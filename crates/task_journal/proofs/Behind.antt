-- What stands behind a closed gate is no part of a journal.
use Rattle.std.proofs.Common.{◌≡◌, ◌∙◌, ℕ, ◌+◌, ◌-◌, ◌<◌, ◌≤◌, List, [], ◌∷◌, ◌++◌, length, take, drop, Ok, Some, refl, sym, ap, subst, append_assoc, arith, length-append, take-append-drop}
use Rattle.std.specs.Prelude.{max, min}
use Rattle.std.proofs.lemmas.List.{append-nil, take-take, length-take-le}
use Rattle.cluster_types.specs.declared.entry.Entry.{Entry}
use Rattle.disk_model.specs.Crashes.{Torn, Shortened, Follows, NoMore, Only}
use Rattle.task_journal.specs.Journal.{holding, journal, StandsFor, place_in}
use Rattle.task_journal.specs.Settled.{IsSettled, IsReady}
use Rattle.task_journal.specs.Room.{IsTrimmed}
use Rattle.task_journal.specs.Versions.{version_in}
use Rattle.task_journal.specs.declared.version.Version.TheVariants.{Second}
use Rattle.task_journal.proofs.Loops.{last_push}
use Rattle.task_journal.proofs.Versions.{version_front}
use Rattle.task_journal.proofs.Crash.{Opened, opened, closed_gate, front_is, stands_for_some, some_is}

-- octets that are the same up to a gate, and long enough for a head
pub record IsAlike (octets : List ℕ) (gate : ℕ) (c : List ℕ) : Type 0 where
  pub front : take (gate + 1) c ≡ take (gate + 1) octets
  pub long : 33 ≤ length c

whole_is : (octets : List ℕ) (gate : ℕ) (list : List Entry) (o : Opened Second octets gate list) (c : List ℕ) → IsAlike octets gate c → c ≡ o.front ++ o.shut ∷ drop (gate + 1) c
whole_is octets gate list o c alike =
    sym (take-append-drop (gate + 1) c) ∙ ap (λ (z : List ℕ). z ++ drop (gate + 1) c) (alike.front ∙ front_is octets gate list o) ∙ append_assoc o.front (o.shut ∷ []) (drop (gate + 1) c)

-- they hold the same, and the gate stands last
shut_there : (octets : List ℕ) (gate : ℕ) (list : List Entry) (o : Opened Second octets gate list) (c : List ℕ) → IsAlike octets gate c → (places : List ℕ) × (journal c ≡ Ok (holding list (places ++ gate ∷ [])))
shut_there octets gate list o c alike =
    let rest = drop (gate + 1) c in
    let all = o.front ++ o.shut ∷ rest in
    let whole : c ≡ all = whole_is octets gate list o c alike in
    let fits : 33 ≤ length all = subst (λ (z : List ℕ). 33 ≤ length z) whole alike.long in
    let place : length all - length rest - 1 ≡ gate = omega (arith, length-append o.front (o.shut ∷ rest), o.size) in
    let t = o.on (o.shut ∷ rest) [] ((length all - length rest - 1) ∷ []) fits (closed_gate Second (length all) o.shut rest o.closed) in
    (t.0, ap journal whole ∙ t.1 ∙ ap (λ (z : List Entry). Ok (holding z (t.0 ++ (length all - length rest - 1) ∷ []))) (append-nil list) ∙ ap (λ (n : ℕ). Ok (holding list (t.0 ++ n ∷ []))) place)

pub stands_alike : (octets : List ℕ) (gate : ℕ) → IsSettled octets gate → (c : List ℕ) → IsAlike octets gate c → (list : List Entry) → StandsFor octets list → StandsFor c list
stands_alike octets gate settled c alike list stands =
    let t = shut_there octets gate list (opened octets gate list settled stands) c alike in
    (t.0 ++ gate ∷ [], t.1)

pub settled_alike : (octets : List ℕ) (gate : ℕ) → IsSettled octets gate → (c : List ℕ) → IsAlike octets gate c → IsSettled c gate
settled_alike octets gate settled c alike =
    let s = stands_for_some octets gate settled in
    let o = opened octets gate s.0 settled s.1 in
    let t = shut_there octets gate s.0 o c alike in
    let past : 31 ≤ length o.front = omega (arith, o.size, o.past) in
    let same : version_in c ≡ Second =
    ap version_in (whole_is octets gate s.0 o c alike) ∙ version_front o.front (o.shut ∷ drop (gate + 1) c) past ∙ sym (version_front o.front (o.shut ∷ o.rest) past) ∙ ap version_in (sym o.parts) ∙ o.is in
    record { long = alike.long; second = same; place = ap place_in t.1 ∙ last_push t.0 gate; room = settled.room }

-- what a disk holds is alike
pub alike_now : (octets : List ℕ) (gate : ℕ) → IsSettled octets gate → IsAlike octets gate octets
alike_now octets gate settled = record { front = refl; long = settled.long }

pub alike_only : (octets : List ℕ) (gate : ℕ) (image : List ℕ → Type 0) → IsSettled octets gate → Only octets image → (c : List ℕ) → image c → IsAlike octets gate c
alike_only octets gate image settled only c now = subst (λ (z : List ℕ). IsAlike octets gate z) (sym (only c now)) (alike_now octets gate settled)

-- what a write behind the gate may leave
torn_alike : (octets : List ℕ) (gate at n : ℕ) → IsSettled octets gate → gate + 1 ≤ at → (c : List ℕ) → Torn at n octets c → IsAlike octets gate c
torn_alike octets gate at n settled le c torn = record {
  front = sym (take-take (gate + 1) at c le) ∙ ap (take (gate + 1)) torn.before ∙ take-take (gate + 1) at octets le;
  long = omega (arith, settled.long, torn.no_shorter);
}

pub write_alike : (octets : List ℕ) (gate at n : ℕ) (old new : List ℕ → Type 0) → IsSettled octets gate → gate + 1 ≤ at → Only octets old → Follows (Torn at n) old new → (c : List ℕ) → new c → IsAlike octets gate c
write_alike octets gate at n old new settled le only follows c now =
    let from = follows c now in
    torn_alike octets gate at n settled le c (subst (λ (d : List ℕ). Torn at n d c) (only from.0 from.1) from.2)

-- what a cut behind it may leave
cut_alike_one : (octets : List ℕ) (gate size : ℕ) → IsSettled octets gate → gate + 1 ≤ size → 33 ≤ size → size ≤ length octets → (c : List ℕ) → Shortened size octets c → IsAlike octets gate c
cut_alike_one octets gate size settled le long within c cut = record {
  front = ap (take (gate + 1)) cut.front ∙ take-take (gate + 1) (length c) octets (omega (arith, cut.no_shorter, le, within));
  long = omega (arith, cut.no_shorter, long, within);
}

pub cut_alike : (octets : List ℕ) (gate size : ℕ) (old new : List ℕ → Type 0) → IsSettled octets gate → gate + 1 ≤ size → 33 ≤ size → size ≤ length octets → Only octets old → Follows (Shortened size) old new → (c : List ℕ) → new c → IsAlike octets gate c
cut_alike octets gate size old new settled le long within only follows c now =
    let from = follows c now in
    cut_alike_one octets gate size settled le long within c (subst (λ (d : List ℕ). Shortened size d c) (only from.0 from.1) from.2)

-- the same behind a call that wrote or cut, and a sync
pub ready_again : {D : Type 0} (content : D → List ℕ) (image : D → List ℕ → Type 0) (old mid new : D) (gate : ℕ) → IsReady content image old gate → ((c : List ℕ) → image mid c → IsAlike (content old) gate c) → image mid (content mid) → content new ≡ content mid → Only (content mid) (image new) → IsReady content image new gate
ready_again content image old mid new gate ready alike now same only =
    let is = subst (λ (z : List ℕ). IsAlike (content old) gate z) (sym same) (alike (content mid) now) in
    record { settled = settled_alike (content old) gate ready.settled (content new) is; durable = subst (λ (z : List ℕ). Only z (image new)) (sym same) only }

pub stands_again : {D : Type 0} (content : D → List ℕ) (image : D → List ℕ → Type 0) (old mid new : D) (gate : ℕ) → IsReady content image old gate → ((c : List ℕ) → image mid c → IsAlike (content old) gate c) → image mid (content mid) → content new ≡ content mid → (list : List Entry) → StandsFor (content old) list → StandsFor (content new) list
stands_again content image old mid new gate ready alike now same list stands =
    subst (λ (z : List ℕ). StandsFor z list) (sym same) (stands_alike (content old) gate ready.settled (content mid) (alike (content mid) now) list stands)

-- behind a call that changed nothing
pub ready_read : {D : Type 0} (content : D → List ℕ) (image : D → List ℕ → Type 0) (old new : D) (gate : ℕ) → IsReady content image old gate → content new ≡ content old → NoMore (image old) (image new) → IsReady content image new gate
ready_read content image old new gate ready same images = record {
  settled = subst (λ (z : List ℕ). IsSettled z gate) (sym same) ready.settled;
  durable = λ c now. ready.durable c (images c now) ∙ sym same;
}

-- each image of a ready disk stands for what the disk does
pub stands_now : {D : Type 0} (content : D → List ℕ) (image : D → List ℕ → Type 0) (disk : D) (gate : ℕ) → IsReady content image disk gate → (list : List Entry) → StandsFor (content disk) list → (c : List ℕ) → image disk c → StandsFor c list
stands_now content image disk gate ready list stands c now = subst (λ (z : List ℕ). StandsFor z list) (sym (ready.durable c now)) stands

-- the gate ends what is left after a cut behind it
pub trimmed_at : (octets c : List ℕ) (gate : ℕ) → IsSettled c gate → max (gate + 1) 33 ≤ length octets → c ≡ take (max (gate + 1) 33) octets → IsTrimmed c
trimmed_at octets c gate settled le is = λ other place.
    ap length is ∙ length-take-le (max (gate + 1) 33) octets le ∙ ap (λ (n : ℕ). max (n + 1) 33) (some_is gate other (sym settled.place ∙ place))
