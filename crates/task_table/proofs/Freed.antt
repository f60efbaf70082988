-- What a settle frees waits on the id that is settled.
use Rattle.std.proofs.Common.{◌≡◌, List, [], ◌∷◌, Bool, true, false, not, ◌&&◌, cond, refl, sym, ap, ◌∙◌, subst, Option, Some, None, bytes_eq, ◌⊎◌, ⊎_elim}
use Rattle.std.specs.Prelude.{filter}
use Rattle.std.specs.Option.{is_some, is_none, option_and_then}
use Rattle.std.proofs.lemmas.Bool.{both_ways, or_left, and_from, false_from_ne_true}
use Rattle.cluster_types.specs.declared.event.Dep.{Dep}
use Rattle.cluster_types.specs.declared.message.Message.{Message}
use Rattle.cluster_types.proofs.Booleans.{and_left}
use Rattle.cluster_defs.specs.Words.{Id, is_listed}
use Rattle.cluster_defs.specs.declared.settled.Settled.{Settled}
use Rattle.cluster_defs.specs.Dependencies.{met, unreachable}
use Rattle.cluster_defs.specs.Requests.{Request}
use Rattle.cluster_defs.proofs.Options.{same_id}
use Rattle.place_sets.specs.Sets.{holds_at, places_where}
use Rattle.place_sets.proofs.Ascending.{filtered}
use Rattle.place_sets.proofs.Exact.{same_bools}
use Rattle.task_table.specs.Seen.{Seen, seen_in, changed, settled_with}
use Rattle.task_table.specs.Waiting.{settled_in, awaits_as, waits_on, waiting_on}
use Rattle.task_table.specs.Freeing.{settled_so, turns, newly_met, newly_dead}
use Rattle.task_table.proofs.Waiting.{met_agrees, unreachable_agrees}

same_turn : (a b : Bool) → a ≡ b → (not a && b) ≡ true → ⊥
same_turn true b same on = cc
same_turn false true same on = cc
same_turn false false same on = cc

module _ (test : Dep → (Id → Option Settled) → Bool) (agrees : (f g : Id → Option Settled) (d : Dep) → ((i : Id) → is_listed i d.ids ≡ true → f i ≡ g i) → test d f ≡ test d g) (id : Id) (s : Settled) (ts : List Seen) where
  -- what turns by a settle lists the id
  turns_listed : (o : Option Request) → turns test id s ts o ≡ true → awaits_as id o ≡ true
  turns_listed None on = cc
  turns_listed (Some r) on =
      elim (awaits_as id (Some r)) as (λ b. awaits_as id (Some r) ≡ b → b ≡ true) [
        | true ↦ λ _. refl
        | false ↦ λ off. absurd (same_turn (test r.after (settled_in ts)) (test r.after (settled_so id s (settled_in ts))) (agrees (settled_in ts) (settled_so id s (settled_in ts)) r.after (λ i here. other off i here)) on)
      ] refl
    where
      apart : awaits_as id (Some r) ≡ false → (i : Id) → is_listed i r.after.ids ≡ true → bytes_eq i id ≡ false
      apart off i here =
          false_from_ne_true (bytes_eq i id)
          (λ same. both_ways (awaits_as id (Some r)) off (or_left (is_listed id r.after.ids) (is_listed id r.follow.ids) (subst (λ k. is_listed k r.after.ids ≡ true) (same_id i id same) here)))

      other : awaits_as id (Some r) ≡ false → (i : Id) → is_listed i r.after.ids ≡ true → settled_in ts i ≡ settled_so id s (settled_in ts) i
      other off i here = ap (λ b. cond b (Some s) (settled_in ts i)) (sym (apart off i here))

and_right : (a b : Bool) → (a && b) ≡ true → b ≡ true
and_right true b on = on
and_right false b on = cc

pub met_waits : (id : Id) (s : Settled) (ts : List Seen) (t : Seen) → newly_met id s ts t ≡ true → waits_on id t ≡ true
met_waits id s ts t on =
    and_from (is_none t.settled) (awaits_as id t.request) (and_left (is_none t.settled) (turns met id s ts t.request) on)
    (turns_listed met met_agrees id s ts t.request (and_right (is_none t.settled) (turns met id s ts t.request) on))

pub dead_waits : (id : Id) (s : Settled) (ts : List Seen) (t : Seen) → newly_dead id s ts t ≡ true → waits_on id t ≡ true
dead_waits id s ts t on =
    and_from (is_none t.settled) (awaits_as id t.request) (and_left (is_none t.settled) (turns unreachable id s ts t.request) on)
    (turns_listed unreachable unreachable_agrees id s ts t.request (and_right (is_none t.settled) (turns unreachable id s ts t.request) on))

-- of the places of those that wait on the id, the places of those that are freed
pub met_places : (id : Id) (s : Settled) (ts : List Seen) → filter (holds_at (newly_met id s ts) ts) (waiting_on id ts) ≡ places_where (newly_met id s ts) ts
met_places id s ts = filtered (waits_on id) (newly_met id s ts) (met_waits id s ts) ts

pub dead_places : (id : Id) (s : Settled) (ts : List Seen) → filter (holds_at (newly_dead id s ts) ts) (waiting_on id ts) ≡ places_where (newly_dead id s ts) ts
dead_places id s ts = filtered (waits_on id) (newly_dead id s ts) (dead_waits id s ts) ts

-- A SETTLE CHANGES HOW ONE ID IS SETTLED

abbrev done : Option Seen → Option Settled
done o = option_and_then (λ (t : Seen). t.settled) o

known_here : (s : Settled) (a b : Bool) (u t : Seen) (o : Option Seen) → u.settled ≡ Some s → a ≡ b → done (cond a (Some u) o) ≡ cond b (Some s) (done (cond a (Some t) o))
known_here s true true u t o is same = is
known_here s true false u t o is same = cc
known_here s false true u t o is same = cc
known_here s false false u t o is same = refl

known_later : (s : Settled) (a b : Bool) (t : Seen) (o p : Option Seen) → (a ≡ true → b ≡ false) → done p ≡ cond b (Some s) (done o) → done (cond a (Some t) p) ≡ cond b (Some s) (done (cond a (Some t) o))
known_later s true true t o p off later = cc (off refl)
known_later s true false t o p off later = refl
known_later s false b t o p off later = later

pub settles_one : (ts : List Seen) (id j : Id) (s : Settled) (outcome : Option Message) → is_some (seen_in ts id) ≡ true → settled_in (changed id (settled_with s outcome) ts) j ≡ settled_so id s (settled_in ts) j
settles_one [] id j s outcome known = cc
settles_one (t ∷ ts) id j s outcome known =
    (elim (bytes_eq t.row.id id) as (λ b. bytes_eq t.row.id id ≡ b → is_some (cond b (Some t) (seen_in ts id)) ≡ true → done (seen_in (cond b (settled_with s outcome t ∷ ts) (t ∷ changed id (settled_with s outcome) ts)) j) ≡ settled_so id s (settled_in (t ∷ ts)) j) [
      | true ↦ λ here _. known_here s (bytes_eq t.row.id j) (bytes_eq j id) (settled_with s outcome t) t (seen_in ts j) refl
          (same_bools (bytes_eq t.row.id j) (bytes_eq j id) (λ on. subst (λ k. bytes_eq k id ≡ true) (same_id t.row.id j on) here) (λ on. subst (λ k. bytes_eq t.row.id k ≡ true) (sym (same_id j id on)) here))
      | false ↦ λ off there. known_later s (bytes_eq t.row.id j) (bytes_eq j id) t (seen_in ts j) (seen_in (changed id (settled_with s outcome) ts) j) (λ on. subst (λ k. bytes_eq k id ≡ false) (same_id t.row.id j on) off)
          (settles_one ts id j s outcome there)
    ]) refl known

pub frees_listed : (id : Id) (s : Settled) (ts : List Seen) (t : Seen) → (newly_met id s ts t ≡ true) ⊎ (newly_dead id s ts t ≡ true) → waits_on id t ≡ true
frees_listed id s ts t freed = ⊎_elim (met_waits id s ts t) (dead_waits id s ts t) freed
