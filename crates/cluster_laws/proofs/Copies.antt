-- What is purged is settled, and what is resubmitted is known, settled and not purged.
use Rattle.std.proofs.Common.{◌≡◌, ℕ, ◌+◌, List, [], ◌∷◌, Bool, true, false, cond, not, ◌&&◌, ◌||◌, refl, sym, subst, Option, Some, None, bytes_eq, ⊎_elim}
use Rattle.std.specs.Prelude.{filter, find, option_map, nat_lt, length}
use Rattle.std.specs.List.{list_all}
use Rattle.std.proofs.lemmas.Bool.{and_parts, not-true, or_cases}
use Rattle.cluster_types.specs.declared.event.Event.{Event}
use Rattle.cluster_types.specs.declared.event.Event.TheVariants.{Submit, Direct, Reply, Join, Leave, Pong, Purge, Resubmit, Abort, Ask}
use Rattle.cluster_defs.specs.Words.{Id, is_empty, is_listed, once}
use Rattle.cluster_defs.specs.Facts.{Facts, is_settled}
use Rattle.cluster_types.specs.Limits.{most_ids}
use Rattle.cluster_defs.specs.Purges.{inflight, gone_or_unknown, purge_list, purging, Unknown, Inflight, Drops, dropped, purged_by, drops, Copy, copies_from, never_known, gone, resubmitting, resubmitting_known, Resubmitting, NeverKnown, Gone, Running, NoRoom, Makes, made, copied_by, copied_ids, copied_from}
use Rattle.cluster_defs.proofs.Options.{same_id}

-- where nothing passes a test, all fail it
pub none_pass : {X : Type 0} (p : X → Bool) (xs : List X) → is_empty (filter p xs) ≡ true → list_all (λ x. not (p x)) xs ≡ true
none_pass p [] h = refl
none_pass {X} p (x ∷ xs) h =
    (elim (p x) as (λ b. is_empty (cond b (x ∷ filter p xs) (filter p xs)) ≡ true → (not b && list_all (λ x. not (p x)) xs) ≡ true) [
      | true ↦ λ k. cc
      | false ↦ λ k. none_pass p xs k
    ]) h

-- what all pass, each listed id passes
pub listed_passes : (p : Id → Bool) (ids : List Id) (id : Id) → list_all p ids ≡ true → is_listed id ids ≡ true → p id ≡ true
listed_passes p [] id all h = cc
listed_passes p (i ∷ ids) id all h =
    let both = and_parts _ _ all in
    ⊎_elim (λ same. subst (λ x. p x ≡ true) (same_id i id same) both.0) (listed_passes p ids id both.1) (or_cases _ _ h)

-- PURGE

not_not : (b : Bool) → not b ≡ false → b ≡ true
not_not true h = refl
not_not false h = cc

choice_drops : (f : Facts) (ids out : List Id) → dropped (purging f ids) ≡ Some out → (out ≡ ids) × (is_empty (inflight f ids) ≡ true)
choice_drops f ids out h =
    (elim (is_empty (gone_or_unknown f ids)) as (λ b. dropped (cond (not b) (Unknown (gone_or_unknown f ids)) (cond (not (is_empty (inflight f ids))) (Inflight (inflight f ids)) (Drops ids))) ≡ Some out → (out ≡ ids) × (is_empty (inflight f ids) ≡ true)) [
      | false ↦ λ k. cc
      | true ↦ λ k. (elim (is_empty (inflight f ids)) as (λ c. dropped (cond (not c) (Inflight (inflight f ids)) (Drops ids)) ≡ Some out → (out ≡ ids) × (c ≡ true)) [
        | false ↦ λ l. cc
        | true ↦ λ l. (let same : ids ≡ out = cc in sym same, refl)
      ]) k
    ]) h

list_settled : (f : Facts) (ids : List Id) (o : Option (List Id)) → dropped (purging f ids) ≡ o → (id : Id) → drops id o ≡ true → is_settled f id ≡ true
list_settled f ids None is id h = cc
list_settled f ids (Some out) is id h =
    let says = choice_drops f ids out is in
    let all = none_pass (λ i. not (is_settled f i)) ids says.1 in
    let listed : is_listed id ids ≡ true = subst (λ x. is_listed id x ≡ true) says.0 h in
    not_not _ (not-true _ (listed_passes (λ i. not (not (is_settled f i))) ids id all listed))

-- what a Purge drops is settled
pub purge_settled : (f : Facts) (o : Option Event) (id : Id) → drops id (purged_by f o) ≡ true → is_settled f id ≡ true
purge_settled f None id h = cc
purge_settled f (Some (Purge all ids)) id h = list_settled f (purge_list f all ids) _ refl id h
purge_settled f (Some (Submit s)) id h = cc
purge_settled f (Some (Direct s)) id h = cc
purge_settled f (Some (Reply name header ok declined)) id h = cc
purge_settled f (Some (Join u)) id h = cc
purge_settled f (Some Leave) id h = cc
purge_settled f (Some (Pong b)) id h = cc
purge_settled f (Some (Resubmit ids)) id h = cc
purge_settled f (Some (Abort ids)) id h = cc
purge_settled f (Some (Ask q)) id h = cc

-- RESUBMIT

-- an id that may be resubmitted
pub record Copied (f : Facts) (old : Id) : Type 0 where
  pub known : is_listed old f.known ≡ true
  pub unpurged : f.purged old ≡ false
  pub settled : is_settled f old ≡ true

abbrev pub AllCopied : Facts → List Copy → Type 0
AllCopied f [] = Unit {0}
AllCopied f (c ∷ copies) = Copied f c.old × AllCopied f copies

abbrev AllMay : Facts → List Id → Type 0
AllMay f [] = Unit {0}
AllMay f (id ∷ ids) = Copied f id × AllMay f ids

from_all : (f : Facts) (number : ℕ) (ids : List Id) → AllMay f ids → AllCopied f (copies_from number ids)
from_all f number [] all = tt
from_all f number (id ∷ ids) all = (all.0, from_all f (number + 1) ids all.1)

all_may : (f : Facts) (ids : List Id) → list_all (λ id. not (not (is_listed id f.known))) ids ≡ true → list_all (λ id. not (f.purged id)) ids ≡ true → list_all (λ id. not (not (is_settled f id))) ids ≡ true → AllMay f ids
all_may f [] a b c = tt
all_may f (id ∷ ids) a b c =
    let x = and_parts _ _ a in
    let y = and_parts _ _ b in
    let z = and_parts _ _ c in
    (record { known = not_not _ (not-true _ x.0); unpurged = not-true _ y.0; settled = not_not _ (not-true _ z.0) }, all_may f ids x.1 y.1 z.1)

-- what an accepted Resubmit says of the ids that it lists, and of the copies that it makes
pub record Made (f : Facts) (ids : List Id) (copies : List Copy) : Type 0 where
  pub known : is_empty (never_known f ids) ≡ true
  pub unpurged : is_empty (gone f ids) ≡ true
  pub settled : is_empty (inflight f ids) ≡ true
  pub room : made (resubmitting_known f ids) ≡ Some copies

open_choice : (b : Bool) (x y : Resubmitting) (copies : List Copy) → made x ≡ None → made (cond (not b) x y) ≡ Some copies → (b ≡ true) × (made y ≡ Some copies)
open_choice true x y copies none h = (refl, h)
open_choice false x y copies none h = cc

pub made_says : (f : Facts) (ids : List Id) (copies : List Copy) → made (resubmitting f ids) ≡ Some copies → Made f ids copies
made_says f ids copies h =
    let a = open_choice (is_empty (never_known f ids)) (NeverKnown (never_known f ids)) (cond (not (is_empty (gone f ids))) (Gone (gone f ids)) (resubmitting_known f ids)) copies refl h in
    let b = open_choice (is_empty (gone f ids)) (Gone (gone f ids)) (resubmitting_known f ids) copies refl a.1 in
    let c = open_choice (is_empty (inflight f ids)) (Running (inflight f ids)) _ copies refl b.1 in
    record { known = a.0; unpurged = b.0; settled = c.0; room = b.1 }

room_choice : (full : Bool) (ids : List Copy) (copies : List Copy) → made (cond full NoRoom (Makes ids)) ≡ Some copies → (copies ≡ ids) × (full ≡ false)
room_choice true ids copies h = cc
room_choice false ids copies h = (let same : ids ≡ copies = cc in sym same, refl)

-- the copies are of the listed ids, in order, with the next numbers, and there is room for them
pub record MadeOf (f : Facts) (ids : List Id) (copies : List Copy) : Type 0 where
  pub all : AllMay f ids
  pub are : copies ≡ copies_from (length f.known + 1) ids
  pub fits : nat_lt most_ids (length f.known + length ids) ≡ false

pub made_of : (f : Facts) (ids : List Id) (copies : List Copy) → made (resubmitting f ids) ≡ Some copies → MadeOf f ids copies
made_of f ids copies h =
    let says = made_says f ids copies h in
    let c = open_choice (is_empty (inflight f ids)) (Running (inflight f ids)) (cond (nat_lt most_ids (length f.known + length ids)) NoRoom (Makes (copies_from (length f.known + 1) ids))) copies refl says.room in
    let room = room_choice (nat_lt most_ids (length f.known + length ids)) (copies_from (length f.known + 1) ids) copies c.1 in
    record {
      all = all_may f ids (none_pass (λ id. not (is_listed id f.known)) ids says.known) (none_pass (λ id. f.purged id) ids says.unpurged) (none_pass (λ id. not (is_settled f id)) ids says.settled);
      are = room.0;
      fits = room.1;
    }

-- an event that makes copies is a Resubmit
pub copies_of : (f : Facts) (o : Option Event) (copies : List Copy) → copied_by f o ≡ Some copies → (ids : List Id) × MadeOf f ids copies
copies_of f None copies h = cc
copies_of f (Some (Resubmit ids)) copies h = (once ids, made_of f (once ids) copies h)
copies_of f (Some (Submit s)) copies h = cc
copies_of f (Some (Abort ids)) copies h = cc
copies_of f (Some (Direct s)) copies h = cc
copies_of f (Some (Reply name header ok declined)) copies h = cc
copies_of f (Some (Join u)) copies h = cc
copies_of f (Some Leave) copies h = cc
copies_of f (Some (Pong b)) copies h = cc
copies_of f (Some (Purge all ids)) copies h = cc
copies_of f (Some (Ask q)) copies h = cc

pub all_copied : (f : Facts) (o : Option Event) (copies : List Copy) → copied_by f o ≡ Some copies → AllCopied f copies
all_copied f o copies h =
    let of = copies_of f o copies h in
    subst (AllCopied f) (sym of.1.are) (from_all f (length f.known + 1) of.0 of.1.all)

found_copied : (f : Facts) (p : Copy → Bool) (copies : List Copy) → AllCopied f copies → (c : Copy) → find p copies ≡ Some c → Copied f c.old
found_copied f p [] all c h = cc
found_copied f p (d ∷ copies) all c h =
    (elim (p d) as (λ b. cond b (Some d) (find p copies) ≡ Some c → Copied f c.old) [
      | true ↦ λ k. let same : d ≡ c = cc in subst (λ (x : Copy). Copied f x.old) same all.0
      | false ↦ λ k. found_copied f p copies all.1 c k
    ]) h

-- what a new id is a copy of, may be resubmitted
pub old_copied : (f : Facts) (o : Option Event) (id old : Id) → copied_from id (copied_by f o) ≡ Some old → Copied f old
old_copied f o id old h = go (copied_by f o) refl h
  where
    at : (copies : List Copy) → AllCopied f copies → (c : Option Copy) → find (λ (d : Copy). bytes_eq d.new id) copies ≡ c → option_map (λ (d : Copy). d.old) c ≡ Some old → Copied f old
    at copies all None is k = cc
    at copies all (Some c) is k = let same : c.old ≡ old = cc in subst (Copied f) same (found_copied f (λ d. bytes_eq d.new id) copies all c is)

    go : (c : Option (List Copy)) → copied_by f o ≡ c → copied_from id c ≡ Some old → Copied f old
    go None is k = cc
    go (Some copies) is k = at copies (all_copied f o copies is) (find (λ (d : Copy). bytes_eq d.new id) copies) refl k

-- a listed new id is a copy of something
pub listed_copied : (id : Id) (copies : List Copy) → is_listed id (copied_ids (Some copies)) ≡ true → (old : Id) × (copied_from id (Some copies) ≡ Some old)
listed_copied id [] h = cc
listed_copied id (c ∷ copies) h =
    (elim (bytes_eq c.new id) as (λ b. (b || is_listed id (copied_ids (Some copies))) ≡ true → (old : Id) × (option_map (λ (d : Copy). d.old) (cond b (Some c) (find (λ (d : Copy). bytes_eq d.new id) copies)) ≡ Some old)) [
      | true ↦ λ _. (c.old, refl)
      | false ↦ λ k. listed_copied id copies k
    ]) h
