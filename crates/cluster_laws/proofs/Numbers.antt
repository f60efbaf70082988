-- The ids of resubmissions are new: each known id that begins as theirs do has a number that was given.
use Rattle.std.proofs.Common.{◌≡◌, ℕ, suc, ◌+◌, ◌<◌, ◌≤◌, ◌^◌, List, [], ◌∷◌, ◌++◌, length, map, append-nil, length-append, true, false, cond, ◌&&◌, ◌||◌, refl, sym, ap, ◌∙◌, subst, arith, Option, Some, None, bytes_eq, ⊎_elim}
use Rattle.std.specs.Prelude.{nat_le, nat_lt, codes, decimal}
use Rattle.std.specs.Option.{is_none}
use Rattle.std.proofs.Math.Seq.{take-append_seam}
use Rattle.std.proofs.lemmas.Bool.{or_cases, leb-false, ltb-false, false_from_ne_true, both_ways}
use Rattle.std.proofs.lemmas.Fmt.{decimal_injective}
use Rattle.std.proofs.lemmas.List.{append_cancel_left}
use Rattle.std.proofs.lemmas.List.Folds.{list_any-append}
use Rattle.cluster_types.specs.declared.message.Message.{Message}
use Rattle.cluster_types.specs.declared.event.Event.{Event}
use Rattle.cluster_types.specs.declared.event.Event.TheVariants.{Submit, Direct, Reply, Join, Leave, Pong, Purge, Resubmit, Abort, Ask}
use Rattle.cluster_types.specs.declared.entry.Input.TheVariants.{Open, Up, Down, In, Beat, Time}
use Rattle.cluster_types.specs.declared.entry.Entry.{Entry}
use Rattle.cluster_types.specs.declared.entry.Entry.TheVariants.{Input, Hand, Settle, Lose}
use Rattle.cluster_defs.specs.Texts.{resubmit_id}
use Rattle.cluster_defs.specs.declared.acceptance.Acceptance.TheVariants.{Reserved, Purged, Again, NoSuchEngine, Full, Accepted}
use Rattle.cluster_defs.specs.Words.{Id, is_listed, begins_with}
use Rattle.cluster_defs.specs.Engines.{engine_named}
use Rattle.cluster_defs.specs.Facts.{Facts, event_on}
use Rattle.cluster_types.specs.Limits.{most_ids}
use Rattle.cluster_defs.specs.Acceptance.{Demand, demanded, reserved_front, is_repeat, acceptance_new, acceptance_open, acceptance, is_accepted, accepted_as, accepted, accepted_id}
use Rattle.cluster_defs.specs.Purges.{Copy, copies_from, copied_by, copied_ids}
use Rattle.cluster_defs.specs.Steps.{next}
use Rattle.cluster_defs.specs.Histories.{History, facts}
use Rattle.cluster_defs.proofs.Options.{then_some, if_some, same_id, id_self}
use Rattle.cluster_laws.proofs.Copies.{copies_of}

-- WHAT IS ACCEPTED

-- an accepted demand has an id that isn't reserved, and there is room for it
pub record AcceptedSays (f : Facts) (d : Demand) : Type 0 where
  pub open_id : begins_with reserved_front d.submission.id ≡ false
  pub unlisted : is_listed d.submission.id f.known ≡ false
  pub room : nat_le most_ids (length f.known) ≡ false

new_says : (f : Facts) (d : Demand) (m : Message) → is_accepted (acceptance_new f d m) ≡ true → nat_le most_ids (length f.known) ≡ false
new_says f d m h =
    (elim (d.direct && is_none (engine_named f.engines.live m.target)) as (λ b. is_accepted (cond b NoSuchEngine (cond (nat_le most_ids (length f.known)) Full Accepted)) ≡ true → nat_le most_ids (length f.known) ≡ false) [
      | true ↦ λ k. cc
      | false ↦ λ k. (elim (nat_le most_ids (length f.known)) as (λ b. is_accepted (cond b Full Accepted) ≡ true → b ≡ false) [ true ↦ λ l. cc | false ↦ λ l. refl ]) k
    ]) h

open_says : (f : Facts) (d : Demand) (m : Message) → is_accepted (acceptance_open f d m) ≡ true → (is_listed d.submission.id f.known ≡ false) × (nat_le most_ids (length f.known) ≡ false)
open_says f d m h =
    (elim (f.purged d.submission.id) as (λ b. is_accepted (cond b Purged (cond (is_listed d.submission.id f.known) (Again (is_repeat f d m)) (acceptance_new f d m))) ≡ true → (is_listed d.submission.id f.known ≡ false) × (nat_le most_ids (length f.known) ≡ false)) [
      | true ↦ λ k. cc
      | false ↦ λ k. (elim (is_listed d.submission.id f.known) as (λ b. is_accepted (cond b (Again (is_repeat f d m)) (acceptance_new f d m)) ≡ true → (b ≡ false) × (nat_le most_ids (length f.known) ≡ false)) [
        | true ↦ λ l. cc
        | false ↦ λ l. (refl, new_says f d m l)
      ]) k
    ]) h

demand_says : (f : Facts) (d : Demand) (m : Message) → is_accepted (acceptance f d m) ≡ true → AcceptedSays f d
demand_says f d m h =
    (elim (begins_with reserved_front d.submission.id) as (λ b. begins_with reserved_front d.submission.id ≡ b → is_accepted (cond b Reserved (acceptance_open f d m)) ≡ true → AcceptedSays f d) [
      | true ↦ λ _ k. cc
      | false ↦ λ off k. let says = open_says f d m k in record { open_id = off; unlisted = says.0; room = says.1 }
    ]) refl h

pub accepted_says : (f : Facts) (m : Message) (o : Option Event) (d : Demand) → accepted f m o ≡ Some d → AcceptedSays f d
accepted_says f m o d h =
    let at = then_some (accepted_as f m) (demanded o) d h in
    let is = if_some (is_accepted (acceptance f at.0 m)) (Some at.0) d at.2 in
    let same : at.0 ≡ d = cc in
    subst (AcceptedSays f) same (demand_says f at.0 m is.0)

-- what makes a request, makes no copies
pub no_copies : (f : Facts) (m : Message) (o : Option Event) (d : Demand) → accepted f m o ≡ Some d → copied_by f o ≡ None
no_copies f m (Some (Resubmit ids)) d h = cc
no_copies f m (Some (Abort ids)) d h = refl
no_copies f m None d h = refl
no_copies f m (Some (Submit s)) d h = refl
no_copies f m (Some (Direct s)) d h = refl
no_copies f m (Some (Reply name header ok declined)) d h = refl
no_copies f m (Some (Join u)) d h = refl
no_copies f m (Some Leave) d h = refl
no_copies f m (Some (Pong b)) d h = refl
no_copies f m (Some (Purge all ids)) d h = refl
no_copies f m (Some (Ask q)) d h = refl

-- NUMBERS

-- an id with a number that was given
pub record Given (most : ℕ) (id : Id) : Type 0 where
  pub number : ℕ
  pub given : number ≤ most
  pub is : id ≡ resubmit_id number

pub record Numbered (known : List Id) : Type 0 where
  pub few : length known ≤ most_ids
  pub numbered : (id : Id) → is_listed id known ≡ true → begins_with reserved_front id ≡ true → Given (length known) id

more_given : (a b : ℕ) (id : Id) → a ≤ b → Given a id → Given b id
more_given a b id le given = let within = given.given in record { number = given.number; given = omega arith; is = given.is }

same_numbered : (known new : List Id) → new ≡ known → Numbered known → Numbered new
same_numbered known new is numbered = subst Numbered (sym is) numbered

-- one request more
one_more : (f : Facts) (d : Demand) → AcceptedSays f d → Numbered f.known → Numbered (f.known ++ d.submission.id ∷ [])
one_more f d says before =
    let size : length (f.known ++ d.submission.id ∷ []) ≡ length f.known + 1 = length-append f.known (d.submission.id ∷ []) in
    let few = before.few in
    let room : length f.known < most_ids = leb-false most_ids (length f.known) says.room in
    record {
      few = omega arith;
      numbered = λ id listed begins. ⊎_elim (λ h. more_given (length f.known) _ id (omega arith) (before.numbered id h begins))
          (λ h. absurd (own id h begins)) (or_cases _ _ (sym (list_any-append (λ i. bytes_eq i id) f.known (d.submission.id ∷ [])) ∙ listed));
    }
  where
    own : (id : Id) → (bytes_eq d.submission.id id || false) ≡ true → begins_with reserved_front id ≡ true → ⊥
    own id h begins = ⊎_elim (λ same. both_ways _ says.open_id (subst (λ i. begins_with reserved_front i ≡ true) (sym (same_id d.submission.id id same)) begins)) (λ e. cc) (or_cases _ _ h)

-- copies with the next numbers
pub number_given : (number : ℕ) (ids : List Id) (id : Id) → is_listed id (map (λ c. c.new) (copies_from number ids)) ≡ true → (k : ℕ) × (number ≤ k) × (k < number + length ids) × (id ≡ resubmit_id k)
number_given number [] id h = cc
number_given number (old ∷ ids) id h =
    ⊎_elim (λ same. (number, omega arith, omega arith, sym (same_id (resubmit_id number) id same)))
    (λ later. let at = number_given (number + 1) ids id later in let low = at.1 in let high = at.2 in (at.0, omega arith, omega arith, at.3)) (or_cases _ _ h)

copies_length : (number : ℕ) (ids : List Id) → length (map (λ (c : Copy). c.new) (copies_from number ids)) ≡ length ids
copies_length number [] = refl
copies_length number (old ∷ ids) = ap suc (copies_length (number + 1) ids)

many_more : (known ids : List Id) → nat_lt most_ids (length known + length ids) ≡ false → Numbered known → Numbered (known ++ map (λ c. c.new) (copies_from (length known + 1) ids))
many_more known ids fits before =
    let new = map (λ (c : Copy). c.new) (copies_from (length known + 1) ids) in
    let size : length (known ++ new) ≡ length known + length ids = length-append known new ∙ ap (λ n. length known + n) (copies_length (length known + 1) ids) in
    let room : length known + length ids ≤ most_ids = ltb-false most_ids (length known + length ids) fits in
    record {
      few = omega arith;
      numbered = λ id listed begins. ⊎_elim (λ h. more_given (length known) _ id (omega arith) (before.numbered id h begins))
          (λ h. let at = number_given (length known + 1) ids id h in let high = at.2 in record { number = at.0; given = omega arith; is = at.3 })
          (or_cases _ _ (sym (list_any-append (λ i. bytes_eq i id) known new) ∙ listed));
    }

in_numbered : (f : Facts) (m : Message) (o : Option Event) → Numbered f.known → Numbered (f.known ++ accepted_id (accepted f m o) ++ copied_ids (copied_by f o))
in_numbered f m o before = go (accepted f m o) refl
  where
    copies : (c : Option (List Copy)) → copied_by f o ≡ c → Numbered (f.known ++ [] ++ copied_ids c)
    copies None is = same_numbered f.known _ (append-nil (f.known ++ []) ∙ append-nil f.known) before
    copies (Some made) is =
        let of = copies_of f o made is in
        subst (λ known. Numbered (known ++ map (λ (c : Copy). c.new) made)) (sym (append-nil f.known))
        (subst (λ made. Numbered (f.known ++ map (λ (c : Copy). c.new) made)) (sym of.1.are) (many_more f.known of.0 of.1.fits before))

    go : (a : Option Demand) → accepted f m o ≡ a → Numbered (f.known ++ accepted_id a ++ copied_ids (copied_by f o))
    go None is = copies (copied_by f o) refl
    go (Some d) is =
        subst (λ c. Numbered (f.known ++ d.submission.id ∷ [] ++ copied_ids c)) (sym (no_copies f m o d is))
        (same_numbered (f.known ++ d.submission.id ∷ []) _ (append-nil (f.known ++ d.submission.id ∷ [])) (one_more f d (accepted_says f m o d is) before))

numbered_more : (f : Facts) (e : Entry) → Numbered f.known → Numbered (next f e).known
numbered_more f (Hand i n) before = before
numbered_more f (Settle i v c) before = before
numbered_more f (Lose n) before = before
numbered_more f (Input (Open moment scheme hwm misses)) before = before
numbered_more f (Input (Up conn channel moment word identity)) before = before
numbered_more f (Input (Down conn moment word)) before = before
numbered_more f (Input (Beat moment word)) before = before
numbered_more f (Input (Time moment word)) before = before
numbered_more f (Input (In conn moment word m)) before = in_numbered f m (event_on f conn m) before

pub numbered : (h : History) → Numbered (facts h).known
numbered [] = record { few = omega arith; numbered = λ id h begins. cc }
numbered (e ∷ older) = numbered_more (facts older) e (numbered older)

-- NEW IDS ARE NEW

begins_own : (number : ℕ) → begins_with reserved_front (resubmit_id number) ≡ true
unfolding reserved_front resubmit_id
begins_own number = subst (λ x. bytes_eq x (codes "resubmit:") ≡ true) (sym (take-append_seam (codes "resubmit:") (decimal number))) (id_self (codes "resubmit:"))

pub same_number : (m n : ℕ) → m < 2 ^ 64 → n < 2 ^ 64 → resubmit_id m ≡ resubmit_id n → m ≡ n
unfolding resubmit_id
same_number m n a b h = decimal_injective m n a b (append_cancel_left (codes "resubmit:") (decimal m) (decimal n) h)

new_unlisted : (known : List Id) (number : ℕ) → Numbered known → length known < number → number ≤ most_ids → is_listed (resubmit_id number) known ≡ false
new_unlisted known number before above within =
    false_from_ne_true _ (λ listed.
    let given = before.numbered (resubmit_id number) listed (begins_own number) in
    let low = given.given in
    let same : number ≡ given.number = same_number number given.number (omega arith) (omega arith) given.is in
    absurd (omega arith))

abbrev pub AllNew : List Id → List Copy → Type 0
AllNew known [] = Unit {0}
AllNew known (c ∷ copies) = (is_listed c.new known ≡ false) × AllNew known copies

from_new : (known : List Id) → Numbered known → (number : ℕ) (ids : List Id) → length known < number → number + length ids ≤ most_ids + 1 → AllNew known (copies_from number ids)
from_new known before number [] above within = tt
from_new known before number (old ∷ ids) above within =
    (new_unlisted known number before above (omega arith), from_new known before (number + 1) ids (omega arith) (omega arith))

-- the copies that a Resubmit makes have ids that weren't known
pub copies_new : (f : Facts) (o : Option Event) (copies : List Copy) → Numbered f.known → copied_by f o ≡ Some copies → AllNew f.known copies
copies_new f o copies before is =
    let of = copies_of f o copies is in
    let room : length f.known + length of.0 ≤ most_ids = ltb-false most_ids (length f.known + length of.0) of.1.fits in
    subst (AllNew f.known) (sym of.1.are) (from_new f.known before (length f.known + 1) of.0 (omega arith) (omega arith))
