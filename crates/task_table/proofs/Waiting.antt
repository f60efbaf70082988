-- A task that is settled changes what is so of the tasks that wait for it alone.
use Rattle.std.proofs.Common.{◌≡◌, ◌≤◌, ◌+◌, ℕ, zero, suc, length, arith, List, [], ◌∷◌, ◌++◌, map, Bool, true, false, not, ◌&&◌, ◌||◌, cond, refl, sym, ap, ◌∙◌, subst, Option, Some, None, bytes_eq, ◌⊎◌, inl}
use Rattle.std.specs.Prelude.{⊤, slice_get, ◌==◌, option_map}
use Rattle.std.specs.Ordering.{nat_cmp}
use Rattle.std.specs.BTreeMap.{is_at}
use Rattle.std.specs.List.{list_any, list_all}
use Rattle.std.specs.List.Sorted.{IsStrictlySortedBy}
use Rattle.std.proofs.lemmas.List.Folds.{list_any-append}
use Rattle.std.specs.Option.{is_none, option_and_then}
use Rattle.std.specs.BTreeSet.{BTreeSet}
use Rattle.place_sets.specs.Sets.{has, holds, holds_at, Apart, at_place}
use Rattle.place_sets.specs.Lanes.{in_set, keys_in}
use Rattle.place_sets.proofs.Ascending.{members_are}
use Rattle.place_sets.proofs.Sweeping.{apart_at, here_at}
use Rattle.cluster_types.specs.declared.event.Dep.{Dep}
use Rattle.cluster_defs.specs.Words.{Id, is_empty, is_listed}
use Rattle.cluster_defs.specs.declared.settled.Settled.{Settled}
use Rattle.cluster_defs.specs.Dependencies.{asked, other_kind, quantified, met, unreachable}
use Rattle.cluster_defs.specs.Requests.{Request}
use Rattle.cluster_defs.proofs.Options.{same_id, id_self}
use Rattle.task_table.specs.Seen.{Seen, seen_in, place_in}
use Rattle.task_table.specs.Places.{name, settling, asking, Alike}
use Rattle.task_graph.specs.Listing.{Waits, set_of, waiting_for, is_waiting, lists, Noted, TakenOut, SameWaits}
use Rattle.std.proofs.lemmas.Bool.{both_ways, eqb-true, eq-eqb, or_right, or_left, false_from_ne_true}
use Rattle.task_table.specs.Waiting.{settled_in, awaits_as, awaits, waits_on, waiting_on, is_among, Awaited, Indexed, ids_of, LeftFor, LeftAt}
use Rattle.task_table.proofs.Places.{same_place, found_seen}

-- WHAT HANGS ON LISTED IDS ALONE

pub all_agree : (p q : Id → Bool) (ids : List Id) → ((i : Id) → is_listed i ids ≡ true → p i ≡ q i) → list_all p ids ≡ list_all q ids
all_agree p q [] same = refl
all_agree p q (i ∷ ids) same = rw (same i (or_left _ _ (id_self i)), all_agree p q ids (λ j on. same j (or_right _ _ on))) refl

pub any_agree : (p q : Id → Bool) (ids : List Id) → ((i : Id) → is_listed i ids ≡ true → p i ≡ q i) → list_any p ids ≡ list_any q ids
any_agree p q [] same = refl
any_agree p q (i ∷ ids) same = rw (same i (or_left _ _ (id_self i)), any_agree p q ids (λ j on. same j (or_right _ _ on))) refl

by_kind : (all : Bool) (p q : Id → Bool) (ids : List Id) → ((i : Id) → is_listed i ids ≡ true → p i ≡ q i) → quantified all p ids ≡ quantified all q ids
by_kind true p q ids same = all_agree p q ids same
by_kind false p q ids same = any_agree p q ids same

module _ (f g : Id → Option Settled) where
  pub met_agrees : (d : Dep) → ((i : Id) → is_listed i d.ids ≡ true → f i ≡ g i) → met d f ≡ met d g
  met_agrees d same = ap (λ b. is_empty d.ids || b) (by_kind d.all (λ i. asked d (f i)) (λ i. asked d (g i)) d.ids (λ i on. ap (asked d) (same i on)))

  pub unreachable_agrees : (d : Dep) → ((i : Id) → is_listed i d.ids ≡ true → f i ≡ g i) → unreachable d f ≡ unreachable d g
  unreachable_agrees d same = ap (λ b. not (is_empty d.ids) && b) (by_kind (not d.all) (λ i. other_kind d (f i)) (λ i. other_kind d (g i)) d.ids (λ i on. ap (other_kind d) (same i on)))

-- COVERED BEFORE, COVERED AFTER

-- two tables agree on the ids that a task waits on
abbrev pub Agrees : List Seen → List Seen → Option Seen → Type 0
Agrees ts us None = ⊤
Agrees ts us (Some t) = (i : Id) → waits_on i t ≡ true → settled_in ts i ≡ settled_in us i

module _ (ts us : List Seen) where
  -- outside the set the tasks are the same, and so is what they wait for
  abbrev pub Outside : BTreeSet ℕ → Type 0
  Outside s = (i : ℕ) → has s i ≡ false → (slice_get us i ≡ slice_get ts i) × Agrees ts us (slice_get ts i)

  -- what was in the set or elsewhere still is
  pub kept : {H : ℕ → Type 0} (p q : Seen → Bool) (s : BTreeSet ℕ) → ((t : Seen) → Agrees ts us (Some t) → p t ≡ q t) → ((i : ℕ) → holds_at p ts i ≡ true → (has s i ≡ true) ⊎ H i) → Outside s → (i : ℕ) → holds_at q us i ≡ true → (has s i ≡ true) ⊎ H i
  kept {H} p q s same covers out i on =
      elim (has s i) as (λ b. has s i ≡ b → (has s i ≡ true) ⊎ H i) [
        | true ↦ λ here. inl here
        | false ↦ λ off. covers i (at (slice_get ts i) (out i off).1 ∙ ap (holds q) (sym (out i off).0) ∙ on)
      ] refl
    where
      at : (o : Option Seen) → Agrees ts us o → holds p o ≡ holds q o
      at None agrees = refl
      at (Some t) agrees = same t agrees

-- HOW OTHER IDS WERE SETTLED

abbrev pub settled_by : List Seen → Option ℕ → Option Settled
settled_by ts o = option_and_then (λ t. t.settled) (option_and_then (slice_get ts) o)

by_place : (ts : List Seen) (id : Id) → settled_in ts id ≡ settled_by ts (place_in id ts)
by_place ts id = ap (option_and_then (λ t. t.settled)) (sym (found_seen id ts))

apart_settled : (ts us : List Seen) (p : ℕ) (o : Option ℕ) → Apart p ts us → (o ≡ Some p → ⊥) → settled_by ts o ≡ settled_by us o
apart_settled ts us p None apart other = refl
apart_settled ts us p (Some q) apart other = ap (option_and_then (λ t. t.settled)) (sym (apart q (λ e. other (ap Some e))))

-- a change at the place of an id leaves how other ids were settled
pub others_settled : (ts us : List Seen) (x j : Id) (p : ℕ) → map name us ≡ map name ts → Apart p ts us → place_in x ts ≡ Some p → (place_in j ts ≡ Some p → bytes_eq j x ≡ true) → bytes_eq j x ≡ false → settled_in ts j ≡ settled_in us j
others_settled ts us x j p names apart at once off =
    by_place ts j ∙ apart_settled ts us p (place_in j ts) apart (λ e. both_ways (bytes_eq j x) off (once e)) ∙ ap (settled_by us) (sym (same_place j ts us names)) ∙ sym (by_place us j)

-- A SETTLE

-- where the places of those that wait for an id, and its own, are in the set, the others agree
pub settle_outside : (ts us : List Seen) (x : Id) (p : ℕ) (places : List ℕ) (s : BTreeSet ℕ) → Awaited x ts places → ((i : ℕ) → is_among i places ≡ true → has s i ≡ true) → has s p ≡ true → Apart p ts us → ((j : Id) → bytes_eq j x ≡ false → settled_in ts j ≡ settled_in us j) → Outside ts us s
settle_outside ts us x p places s awaited marked here apart others = λ i off. (
  apart i (λ e. both_ways (has s p) (subst (λ k. has s k ≡ false) e off) here),
  agree (slice_get ts i) (false_from_ne_true (holds (waits_on x) (slice_get ts i)) (λ on. both_ways (has s i) off (marked i (awaited i on)))),
)
  where
    agree : (o : Option Seen) → holds (waits_on x) o ≡ false → Agrees ts us o
    agree None off = tt
    agree (Some t) off = λ j on. others j (false_from_ne_true (bytes_eq j x) (λ same. both_ways (waits_on x t) off (subst (λ k. waits_on k t ≡ true) (same_id j x same) on)))

-- two ids of one place are one
at_once : (b c : Bool) (o q : Option ℕ) (p : ℕ) {P : Type 0} → cond b (Some 0) (option_map suc o) ≡ Some p → cond c (Some 0) (option_map suc q) ≡ Some p → (b ≡ true → c ≡ true → P) → ((k : ℕ) → o ≡ Some k → q ≡ Some k → P) → P
at_once true true o q p one two here later = here refl refl
at_once true false o None p one two here later = cc
at_once true false o (Some k) zero one two here later = cc
at_once true false o (Some k) (suc p) one two here later = cc
at_once false c None q p one two here later = cc
at_once false true (Some k) q zero one two here later = cc
at_once false true (Some k) q (suc p) one two here later = cc
at_once false false (Some k) None p one two here later = cc
at_once false false (Some k) (Some l) p one two here later =
    let up : suc k ≡ p = cc in
    let other : suc l ≡ p = cc in
    let same : l ≡ k = omega (arith, up, other) in
    later k refl (ap (λ n. Some n) same)

pub one_place : (ts : List Seen) (x j : Id) (p : ℕ) → place_in x ts ≡ Some p → place_in j ts ≡ Some p → bytes_eq j x ≡ true
one_place [] x j p one two = cc
one_place (t ∷ ts) x j p one two =
    at_once (bytes_eq t.row.id x) (bytes_eq t.row.id j) (place_in x ts) (place_in j ts) p one two
    (λ is so. subst (λ k. bytes_eq k x ≡ true) (same_id t.row.id j so) is)
    (λ k is so. one_place ts x j k is so)

-- WHERE ALL ARE SETTLED AS BEFORE

abbrev flat : Option (Option Settled) → Option Settled
flat None = None
flat (Some o) = o

by_settles : (ts : List Seen) (p : ℕ) → option_and_then (λ (t : Seen). t.settled) (slice_get ts p) ≡ flat (slice_get (map settling ts) p)
by_settles [] p = refl
by_settles (t ∷ ts) zero = refl
by_settles (t ∷ ts) (suc p) = by_settles ts p

settled_alike : (ts us : List Seen) → map settling us ≡ map settling ts → (o : Option ℕ) → settled_by ts o ≡ settled_by us o
settled_alike ts us same None = refl
settled_alike ts us same (Some p) = by_settles ts p ∙ ap (λ ss. flat (slice_get ss p)) (sym same) ∙ sym (by_settles us p)

pub alike_settled : (ts us : List Seen) → Alike ts us → (j : Id) → settled_in ts j ≡ settled_in us j
alike_settled ts us a j =
    by_place ts j ∙ settled_alike ts us a.settled (place_in j ts) ∙ ap (settled_by us) (sym (same_place j ts us a.names)) ∙ sym (by_place us j)

-- where each id is settled as before, all tasks agree
pub all_agree_at : (ts us : List Seen) → ((j : Id) → settled_in ts j ≡ settled_in us j) → (o : Option Seen) → Agrees ts us o
all_agree_at ts us same None = tt
all_agree_at ts us same (Some t) = λ j on. same j

-- A TASK MORE

abbrev settling_of : Option Seen → Option Settled
settling_of o = option_and_then (λ (t : Seen). t.settled) o

behind : (b : Bool) (u : Seen) (o p : Option Seen) → settling_of o ≡ settling_of p → settling_of (cond b (Some u) o) ≡ settling_of (cond b (Some u) p)
behind true u o p same = refl
behind false u o p same = same

last : (b : Bool) (t : Seen) → t.settled ≡ None → None ≡ settling_of (cond b (Some t) None)
last true t none = sym none
last false t none = refl

-- one that isn't settled changes nothing of how the others are
pub more_settled : (ts : List Seen) (t : Seen) → t.settled ≡ None → (j : Id) → settled_in ts j ≡ settled_in (ts ++ t ∷ []) j
more_settled [] t none j = last (bytes_eq t.row.id j) t none
more_settled (u ∷ ts) t none j = behind (bytes_eq u.row.id j) u (seen_in ts j) (seen_in (ts ++ t ∷ []) j) (more_settled ts t none j)

pub get_more : (ts : List Seen) (t : Seen) (i : ℕ) → (i ≡ length ts → ⊥) → slice_get (ts ++ t ∷ []) i ≡ slice_get ts i
get_more [] t zero apart = absurd (apart refl)
get_more [] t (suc i) apart = refl
get_more (u ∷ ts) t zero apart = refl
get_more (u ∷ ts) t (suc i) apart = get_more ts t i (λ e. apart (ap suc e))

get_last : (ts : List Seen) (t : Seen) → slice_get (ts ++ t ∷ []) (length ts) ≡ Some t
get_last [] t = refl
get_last (u ∷ ts) t = get_last ts t

-- THE INDEX

abbrev waits_in : Id → Option (Option Settled) → Option (Option Request) → Bool
waits_in id None o = false
waits_in id (Some s) None = false
waits_in id (Some s) (Some o) = is_none s && awaits_as id o

by_parts : (id : Id) (ts : List Seen) (i : ℕ) → holds_at (waits_on id) ts i ≡ waits_in id (slice_get (map settling ts) i) (slice_get (map asking ts) i)
by_parts id [] i = refl
by_parts id (t ∷ ts) zero = refl
by_parts id (t ∷ ts) (suc i) = by_parts id ts i

-- it hangs on the requests, and on who is settled
pub indexed_alike : (ts us : List Seen) (waits : Waits) → Indexed ts waits → Alike ts us → Indexed us waits
indexed_alike ts us waits is same = λ id i.
    is id i ∙ by_parts id ts i ∙ ap (λ ss. waits_in id (slice_get ss i) (slice_get (map asking ts) i)) (sym same.settled)
    ∙ ap (λ os. waits_in id (slice_get (map settling us) i) (slice_get os i)) (sym same.requests) ∙ sym (by_parts id us i)

pub indexed_kept : (ts : List Seen) (old new : Waits) → Indexed ts old → SameWaits old new → Indexed ts new
indexed_kept ts old new is same = λ id i. same id i ∙ is id i

pub past_end : (p : Seen → Bool) (ts : List Seen) → holds_at p ts (length ts) ≡ false
past_end p [] = refl
past_end p (t ∷ ts) = past_end p ts

-- the place of a task more waits for nothing yet
pub fresh_place : (ts : List Seen) (waits : Waits) → Indexed ts waits → (j : Id) → is_waiting waits j (length ts) ≡ false
fresh_place ts waits is j = is j (length ts) ∙ past_end (waits_on j) ts

listed_awaits : (id : Id) (o : Option Request) → lists (ids_of o) id ≡ awaits_as id o
listed_awaits id None = refl
listed_awaits id (Some r) = list_any-append (λ i. bytes_eq i id) r.after.ids r.follow.ids

-- A TASK MORE, NOTED WITH THE IDS THAT IT LISTS

at_end : (x o : Bool) → o ≡ false → ((x && true) || o) ≡ x
at_end true o off = refl
at_end false o off = off

elsewhere : (x o : Bool) → ((x && false) || o) ≡ o
elsewhere true o = refl
elsewhere false o = refl

module _ (ts : List Seen) (t : Seen) (old new : Waits) where
  pub indexed_noted : t.settled ≡ None → Indexed ts old → Noted (lists (ids_of t.request)) (length ts) old new → Indexed (ts ++ t ∷ []) new
  indexed_noted none is added = λ id i. added id i ∙ noted_at id i
    where
      last_is : (id : Id) → ((lists (ids_of t.request) id && true) || is_waiting old id (length ts)) ≡ holds_at (waits_on id) (ts ++ t ∷ []) (length ts)
      last_is id =
          at_end (lists (ids_of t.request) id) (is_waiting old id (length ts)) (fresh_place ts old is id) ∙ listed_awaits id t.request
          ∙ sym (ap (λ o. is_none o && awaits id t) none) ∙ ap (holds (waits_on id)) (sym (get_last ts t))

      noted_at : (id : Id) (i : ℕ) → ((lists (ids_of t.request) id && (i == length ts)) || is_waiting old id i) ≡ holds_at (waits_on id) (ts ++ t ∷ []) i
      noted_at id i =
          elim (i == length ts) as (λ b. (i == length ts) ≡ b → ((lists (ids_of t.request) id && b) || is_waiting old id i) ≡ holds_at (waits_on id) (ts ++ t ∷ []) i) [
            | true ↦ λ here. subst (λ k. ((lists (ids_of t.request) id && true) || is_waiting old id k) ≡ holds_at (waits_on id) (ts ++ t ∷ []) k) (sym (eqb-true i (length ts) here)) (last_is id)
            | false ↦ λ off.
                elsewhere (lists (ids_of t.request) id) (is_waiting old id i) ∙ is id i
                ∙ ap (holds (waits_on id)) (sym (get_more ts t i (λ e. both_ways (i == length ts) off (eq-eqb i (length ts) e))))
          ] refl

-- A TASK THAT IS SETTLED, AND TAKEN OUT OF THE IDS THAT IT LISTS

gone : (x e o : Bool) → e ≡ true → (x ≡ false → o ≡ false) → (not (x && e) && o) ≡ false
gone true true o on off = refl
gone true false o on off = cc
gone false e o on off = off refl

still : (x e o : Bool) → e ≡ false → (not (x && e) && o) ≡ o
still true true o off = cc
still true false o off = refl
still false e o off = refl

second_off : (a b : Bool) → b ≡ false → (a && b) ≡ false
second_off true b off = off
second_off false b off = refl

module _ (f : Seen → Seen) (done : (t : Seen) → is_none (f t).settled ≡ false) (kept_request : (t : Seen) → (f t).request ≡ t.request) (place : ℕ) (old new : Waits) where
  left_here : (j : Id) (o : Option Seen) → is_waiting old j place ≡ holds (waits_on j) o → LeftFor place old new (option_map f o) → is_waiting new j place ≡ holds (waits_on j) (option_map f o)
  left_here j None is same = same j place ∙ is
  left_here j (Some t) is out =
      out j place
      ∙ gone (lists (ids_of (f t).request) j) (place == place) (is_waiting old j place) (eq-eqb place place refl)
      (λ off. is ∙ second_off (is_none t.settled) (awaits j t) (sym (listed_awaits j t.request) ∙ ap (λ o. lists (ids_of o) j) (sym (kept_request t)) ∙ off))
      ∙ sym (ap (λ b. b && awaits j (f t)) (done t))

  left_there : (j : Id) (i : ℕ) (o : Option Seen) → (i == place) ≡ false → LeftFor place old new o → is_waiting new j i ≡ is_waiting old j i
  left_there j i None off same = same j i
  left_there j i (Some t) off out = out j i ∙ still (lists (ids_of t.request) j) (i == place) (is_waiting old j i) off

  pub indexed_settled : (ts us : List Seen) → us ≡ at_place f place ts → Indexed ts old → LeftAt us place old new → Indexed us new
  indexed_settled ts us made is left = λ j i.
      elim (i == place) as (λ b. (i == place) ≡ b → is_waiting new j i ≡ holds_at (waits_on j) us i) [
        | true ↦ λ on. subst (λ k. is_waiting new j k ≡ holds_at (waits_on j) us k) (sym (eqb-true i place on)) (here j)
        | false ↦ λ off.
            left_there j i (slice_get us place) off left ∙ is j i
            ∙ ap (holds (waits_on j)) (sym (ap (λ vs. slice_get vs i) made ∙ apart_at f place ts i (λ e. both_ways (i == place) off (eq-eqb i place e))))
      ] refl
    where
      at : slice_get us place ≡ option_map f (slice_get ts place)
      at = ap (λ vs. slice_get vs place) made ∙ here_at f place ts

      here : (j : Id) → is_waiting new j place ≡ holds_at (waits_on j) us place
      here j = left_here j (slice_get ts place) (is j place) (subst (LeftFor place old new) at left) ∙ ap (holds (waits_on j)) (sym at)

-- THE PLACES OF THOSE THAT WAIT ON AN ID

by_set : (o : Option (BTreeSet ℕ)) (i : ℕ) → is_among i (keys_in o) ≡ in_set o i
by_set None i = refl
by_set (Some s) i = refl

pub awaited_of : (ts : List Seen) (waits : Waits) (id : Id) (places : List ℕ) → Indexed ts waits → places ≡ waiting_for waits id → Awaited id ts places
awaited_of ts waits id places is same = λ i on. subst (λ qs. is_among i qs ≡ true) (sym same) (by_set (set_of waits id) i ∙ is id i ∙ on)

pub waiting_is : (ts : List Seen) (waits : Waits) (id : Id) → Indexed ts waits → IsStrictlySortedBy nat_cmp (waiting_for waits id) → waiting_for waits id ≡ waiting_on id ts
waiting_is ts waits id is sorted = members_are (waits_on id) ts (waiting_for waits id) sorted (λ i. by_set (set_of waits id) i ∙ is id i)

-- what a bound by those places says of the table
pub bound_of : (ts us : List Seen) (waits : Waits) (id : Id) (ws ps : List ℕ) (n m : ℕ) → Indexed ts waits → IsStrictlySortedBy nat_cmp (waiting_for waits id) → ps ≡ waiting_for waits id → ws ≡ ps → ts ≡ us → n ≤ m + (1 + length ws) → n ≤ m + (1 + length (waiting_on id us))
bound_of ts us waits id ws ps n m is sorted read same seen cost =
    subst (λ vs. n ≤ m + (1 + length (waiting_on id vs))) seen (subst (λ qs. n ≤ m + (1 + length qs)) (same ∙ read ∙ waiting_is ts waits id is sorted) cost)
