-- What is settled as impossible could never run again, whatever comes.
use Rattle.std.proofs.Common.{◌≡◌, ℕ, ◌<◌, List, ◌∷◌, ◌++◌, Bool, true, false, cond, not, ◌&&◌, refl, sym, ap, ◌∙◌, subst, Option, Some, None, ⊎_elim}
use Rattle.std.specs.Prelude.{nat_lt, ◌==◌, option_map}
use Rattle.std.specs.List.{list_any, list_all}
use Rattle.std.proofs.lemmas.Bool.{both_ways, and_parts, or_cases, not-true, eqb-true, eq-eqb, ltb-true, false_from_ne_true}
use Rattle.cluster_types.specs.Verdicts.{completed}
use Rattle.cluster_types.specs.declared.event.Dep.{Dep}
use Rattle.cluster_types.specs.declared.verdict.Verdict.{Verdict}
use Rattle.cluster_types.specs.declared.verdict.Cause.{Cause}
use Rattle.cluster_types.specs.declared.verdict.Cause.TheVariants.{Reply as ByReply, EngineError, ImpossibleDependency, InvalidDependency, TaskTimeout, Abort as ByAbort}
use Rattle.cluster_types.specs.declared.entry.Entry.{Entry}
use Rattle.cluster_types.specs.declared.entry.Entry.TheVariants.{Settle}
use Rattle.cluster_defs.specs.declared.attempt.Attempt.{Attempt}
use Rattle.cluster_defs.specs.declared.attempt.Attempt.TheVariants.{Never, Running, EndedOk, EndedBadly, Lost, Declined, Withdrawn}
use Rattle.cluster_defs.specs.Words.{Id, is_empty, is_number}
use Rattle.cluster_defs.specs.declared.settled.Settled.{Settled}
use Rattle.cluster_defs.specs.Dependencies.{quantified, met, unreachable, asked, other_kind, on_engine, apart, same_engine, scattered}
use Rattle.cluster_defs.specs.Requests.{Request, is_direct, is_bound, is_target}
use Rattle.cluster_defs.specs.Facts.{Facts}
use Rattle.cluster_defs.specs.Scheduling.{is_live, excludes, is_dead, no_target, follow_dead, follow_spoilt, spoils, usable, usable_on, may_run, may_run_as, verdict_at, rests, failing, failing_as, is_timed_out}
use Rattle.cluster_defs.specs.Histories.{History, facts, Legal}
use Rattle.cluster_defs.proofs.Options.{if_some}
use Rattle.cluster_defs.proofs.Says.{due_says}
use Rattle.cluster_laws.proofs.Lists.{clash, clash_quantified, all-both}
use Rattle.cluster_laws.proofs.Later.{Later, later_all}
use Rattle.cluster_laws.proofs.Sound.{Sound, sound}
use Rattle.cluster_laws.proofs.Parts.{MayRun, may_parts, runs_parts}

-- DEPENDENCIES

kinds_clash : (d : Dep) (c : Bool) → cond c (not d.success) (not d.failure) ≡ true → cond c d.success d.failure ≡ true → ⊥
kinds_clash d true h k = let off = not-true _ h in cc
kinds_clash d false h k = let off = not-true _ h in cc

other_clash : (d : Dep) (o p : Option Settled) → ((s : Settled) → o ≡ Some s → p ≡ Some s) → other_kind d o ≡ true → asked d p ≡ true → ⊥
other_clash d None p stays h k = cc
other_clash d (Some s) p stays h k = kinds_clash d (completed s.verdict) h (subst (λ q. asked d q ≡ true) (stays s refl) k)

met_clash : (d : Dep) (old new : Id → Option Settled) → ((i : Id) (s : Settled) → old i ≡ Some s → new i ≡ Some s) → unreachable d old ≡ true → met d new ≡ true → ⊥
met_clash d old new stays h k =
    let a = and_parts _ _ h in
    ⊎_elim (both_ways (is_empty d.ids) (not-true (is_empty d.ids) a.0)) (λ q. clash_quantified d.all _ _ (λ i. other_clash d (old i) (new i) (stays i)) d.ids a.1 q) (or_cases _ _ k)

-- ENGINES

-- what an engine is that takes an id later
pub record Takes (f g : Facts) (id : Id) (r : Request) (n : ℕ) : Type 0 where
  pub live : is_live g n ≡ true
  pub not_excluded : excludes g id n ≡ false
  pub target : is_target n r ≡ true

and3 : (a b c : Bool) → a ≡ true → b ≡ false → c ≡ true → (a && not b && c) ≡ true
and3 true false true h k l = refl
and3 true true c h k l = cc
and3 false b c h k l = cc
and3 true false false h k l = cc

not_before : (f g : Facts) → Later f g → (id : Id) (n : ℕ) → excludes g id n ≡ false → excludes f id n ≡ false
not_before f g later id n off = false_from_ne_true _ (λ on. let now = later.excluded id n on in cc)

takes_before : (f g : Facts) → Later f g → (id : Id) (r : Request) (n : ℕ) → Takes f g id r n → n < f.engines.next → usable f id r n ≡ true
takes_before f g later id r n takes below = and3 _ _ _ (later.gone n below takes.live) (not_before f g later id n takes.not_excluded) takes.target

target_clash : (f g : Facts) → Later f g → (id : Id) (r : Request) (n : ℕ) → Takes f g id r n → (m : ℕ) → (not (is_live f m && not (excludes f id m)) && nat_lt m f.engines.next) ≡ true → (m == n) ≡ true → ⊥
target_clash f g later id r n takes m h same =
    let a = and_parts _ _ h in
    let is : m ≡ n = eqb-true m n same in
    let below : m < f.engines.next = ltb-true m f.engines.next a.1 in
    let live : is_live f m ≡ true = later.gone m below (subst (λ x. is_live g x ≡ true) (sym is) takes.live) in
    let free : excludes f id m ≡ false = not_before f g later id m (subst (λ x. excludes g id x ≡ false) (sym is) takes.not_excluded) in
    let off : (is_live f m && not (excludes f id m)) ≡ false = not-true _ a.0 in
    let on : (is_live f m && not (excludes f id m)) ≡ true = rw (live, free) refl in
    cc

targets_clash : (f g : Facts) → Sound f → Later f g → (id : Id) (r : Request) (n : ℕ) → f.request_of id ≡ Some r → Takes f g id r n → no_target f id r ≡ true → ⊥
targets_clash f g sound later id r n is takes h =
    let a = and_parts _ _ h in
    let all = all-both (λ m. not (is_live f m && not (excludes f id m))) (λ m. nat_lt m f.engines.next) r.targets a.1 (sound.targets id r is) in
    let bound : is_bound r ≡ true = a.0 in
    ⊎_elim (λ free. both_ways (is_bound r) (not-true (is_bound r) free) bound) (λ some. clash _ _ (target_clash f g later id r n takes) r.targets all some) (or_cases _ _ takes.target)

-- FOLLOW

-- an id that was settled as asked, on this engine
pub record Followed (d : Dep) (n : ℕ) (o : Option Settled) : Type 0 where
  pub settled : Settled
  pub is : o ≡ Some settled
  pub there : settled.engine ≡ Some n
  pub kind : asked d (Some settled) ≡ true

number_is : (n : ℕ) (o : Option ℕ) → is_number n o ≡ true → o ≡ Some n
number_is n None h = cc
number_is n (Some m) h = ap Some (eqb-true m n h)

asked_there : (d : Dep) (s : Settled) (b : Bool) → asked d (cond b (Some s) None) ≡ true → (b ≡ true) × (asked d (Some s) ≡ true)
asked_there d s true h = (refl, h)
asked_there d s false h = cc

followed : (d : Dep) (n : ℕ) (o : Option Settled) → asked d (on_engine n o) ≡ true → Followed d n o
followed d n None h = cc
followed d n (Some s) h = let a = asked_there d s (is_number n s.engine) h in record { settled = s; is = refl; there = number_is n s.engine a.0; kind = a.1 }

spoils_clash : (f g : Facts) → Sound f → Later f g → (id : Id) (r : Request) (n : ℕ) → Takes f g id r n → (i : Id) (o : Option Settled) → f.settled i ≡ o → spoils f id r o ≡ true → Followed r.follow n (g.settled i) → ⊥
spoils_clash f g sound later id r n takes i None was h now = cc
spoils_clash f g sound later id r n takes i (Some s) was h now =
    let same : s ≡ now.settled = let e = sym (later.settled i s was) ∙ now.is in cc in
    let there : s.engine ≡ Some n = subst (λ (x : Settled). x.engine ≡ Some n) (sym same) now.there in
    let kind : asked r.follow (Some s) ≡ true = subst (λ x. asked r.follow (Some x) ≡ true) (sym same) now.kind in
    let use_on : usable_on f id r s.engine ≡ true = subst (λ x. usable_on f id r x ≡ true) (sym there) (takes_before f g later id r n takes (sound.settled i s n was there)) in
    let off : (asked r.follow (Some s) && usable_on f id r s.engine) ≡ false = not-true _ h in
    let on : (asked r.follow (Some s) && usable_on f id r s.engine) ≡ true = and_both _ _ kind use_on in
    cc
  where
    and_both : (a b : Bool) → a ≡ true → b ≡ true → (a && b) ≡ true
    and_both true true h k = refl
    and_both true false h k = cc
    and_both false b h k = cc

apart_clash : (f g : Facts) → Later f g → (d : Dep) (n : ℕ) (i j : Id) (o p : Option Settled) → f.settled i ≡ o → f.settled j ≡ p → apart o p ≡ true → Followed d n (g.settled i) → Followed d n (g.settled j) → ⊥
apart_clash f g later d n i j None p a b h now and = cc
apart_clash f g later d n i j (Some s) None a b h now and = cc
apart_clash f g later d n i j (Some s) (Some t) a b h now and =
    let one : s ≡ now.settled = let e = sym (later.settled i s a) ∙ now.is in cc in
    let two : t ≡ and.settled = let e = sym (later.settled j t b) ∙ and.is in cc in
    let here : s.engine ≡ Some n = subst (λ (x : Settled). x.engine ≡ Some n) (sym one) now.there in
    let there : t.engine ≡ Some n = subst (λ (x : Settled). x.engine ≡ Some n) (sym two) and.there in
    let off : same_engine s.engine t.engine ≡ false = not-true _ h in
    let on : same_engine s.engine t.engine ≡ true = rw (here, there) (eq-eqb n n refl) in
    cc

abbrev on_n : Facts → Request → ℕ → Id → Bool
on_n g r n i = asked r.follow (on_engine n (g.settled i))

scattered_clash : (f g : Facts) → Later f g → (r : Request) (n : ℕ) (ids : List Id) → list_all (on_n g r n) ids ≡ true → scattered f.settled ids ≡ true → ⊥
scattered_clash f g later r n ids all h =
    clash (on_n g r n) (λ i. list_any (λ j. apart (f.settled i) (f.settled j)) ids)
    (λ i here some. clash (on_n g r n) (λ j. apart (f.settled i) (f.settled j)) (λ j there is. apart_clash f g later r.follow n i j _ _ refl refl is (followed r.follow n _ here) (followed r.follow n _ there)) ids all some) ids all h

spoilt_clash : (f g : Facts) → Sound f → Later f g → (id : Id) (r : Request) (n : ℕ) → Takes f g id r n → (all : Bool) → follow_spoilt f id r all ≡ true → quantified all (on_n g r n) r.follow.ids ≡ true → ⊥
spoilt_clash f g sound later id r n takes true h k =
    ⊎_elim (λ some. clash (on_n g r n) (λ i. spoils f id r (f.settled i)) (λ i here bad. spoils_clash f g sound later id r n takes i _ refl bad (followed r.follow n _ here)) r.follow.ids k some)
    (λ far. scattered_clash f g later r n r.follow.ids k far) (or_cases _ _ h)
spoilt_clash f g sound later id r n takes false h k =
    clash (λ i. spoils f id r (f.settled i)) (on_n g r n) (λ i bad here. spoils_clash f g sound later id r n takes i _ refl bad (followed r.follow n _ here)) r.follow.ids h k

follow_clash : (f g : Facts) → Sound f → Later f g → (id : Id) (r : Request) (n : ℕ) → Takes f g id r n → follow_dead f id r ≡ true → met r.follow (λ i. on_engine n (g.settled i)) ≡ true → ⊥
follow_clash f g sound later id r n takes h k =
    let a = and_parts _ _ h in
    ⊎_elim (both_ways (is_empty r.follow.ids) (not-true (is_empty r.follow.ids) a.0)) (λ q. spoilt_clash f g sound later id r n takes r.follow.all a.1 q) (or_cases _ _ k)

-- an id that is dead may not run later
dead_clash : (f g : Facts) → Sound f → Later f g → (id : Id) (n : ℕ) (r : Request) → f.request_of id ≡ Some r → is_dead f id r ≡ true → MayRun g id n → ⊥
dead_clash f g sound later id n r is dead may =
    let parts = runs_parts g id n r (subst (λ o. may_run_as g id n o ≡ true) (later.request id r is) may.request) in
    let takes : Takes f g id r n = record { live = may.live; not_excluded = may.not_excluded; target = parts.target } in
    ⊎_elim (λ two. ⊎_elim (λ h. met_clash r.after f.settled g.settled later.settled h parts.after) (targets_clash f g sound later id r n is takes) (or_cases _ _ two))
    (λ h. follow_clash f g sound later id r n takes h parts.follow) (or_cases _ _ dead)

-- a final id has another cause
cause_of : Option (Verdict × Cause) → Option Cause
cause_of = option_map (λ v. v.1)

not_impossible : (over : Bool) (a : Attempt) (v : Verdict) → verdict_at over a ≡ Some (v, ImpossibleDependency) → ⊥
unfolding cause_of
not_impossible over Never v h = cc
not_impossible over (Running n) v h = cc
not_impossible over (EndedOk n) v h = let c : Some ByReply ≡ Some ImpossibleDependency = ap cause_of h in cc
not_impossible true (EndedBadly n) v h = let c : Some ByReply ≡ Some ImpossibleDependency = ap cause_of h in cc
not_impossible false (EndedBadly n) v h = cc
not_impossible true (Lost n) v h = let c : Some EngineError ≡ Some ImpossibleDependency = ap cause_of h in cc
not_impossible false (Lost n) v h = cc
not_impossible over (Declined n) v h = cc
not_impossible over (Withdrawn n) v h = let c : Some ByAbort ≡ Some ImpossibleDependency = ap cause_of h in cc

-- what fails as impossible, is dead
why_dead : (invalid dead late : Bool) → cond invalid (Some InvalidDependency) (cond dead (Some ImpossibleDependency) (cond late (Some TaskTimeout) None)) ≡ Some ImpossibleDependency → dead ≡ true
why_dead true dead late h = cc
why_dead false true late h = refl
why_dead false false true h = cc
why_dead false false false h = cc

submit_dead : (f : Facts) (id : Id) (r : Request) (direct : Bool) → cond direct None (failing f id r) ≡ Some ImpossibleDependency → is_dead f id r ≡ true
submit_dead f id r true h = cc
submit_dead f id r false h = why_dead r.invalid (is_dead f id r) (is_timed_out f r) h

failing_dead : (f : Facts) (id : Id) (o : Option Request) → f.request_of id ≡ o → failing_as f id o ≡ Some ImpossibleDependency → (r : Request) × (f.request_of id ≡ Some r) × (is_dead f id r ≡ true)
failing_dead f id None is h = cc
failing_dead f id (Some r) is h = (r, is, submit_dead f id r (is_direct r) h)

impossible_dead : (history : History) (id : Id) (v : Verdict) → Legal (Settle id v ImpossibleDependency ∷ history) →
    (r : Request) × ((facts history).request_of id ≡ Some r) × (is_dead (facts history) id r ≡ true)
impossible_dead history id v legal =
    let f = facts history in
    ⊎_elim (λ is. absurd (not_impossible _ _ v is))
    (λ fails. failing_dead f id (f.request_of id) refl (if_some (rests f id) (failing_as f id (f.request_of id)) ImpossibleDependency fails.0).1)
    ((due_says f (Settle id v ImpossibleDependency) legal.0).why)

pub impossible_for_good : (history : History) (id : Id) (v : Verdict) → Legal (Settle id v ImpossibleDependency ∷ history) → (later : List Entry) (n : ℕ) → may_run (facts (later ++ history)) id n ≡ false
impossible_for_good history id v legal later n =
    let f = facts history in
    let g = facts (later ++ history) in
    let dead = impossible_dead history id v legal in
    false_from_ne_true _ (λ may. dead_clash f g (sound history legal.1) (later_all later history) id n dead.0 dead.1 dead.2 (may_parts g id n may))
