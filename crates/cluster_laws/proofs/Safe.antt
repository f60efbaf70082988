-- What each hand-out and each settle of a legal history keeps to.
use Rattle.std.proofs.Common.{◌≡◌, ℕ, [], ◌∷◌, Bool, true, false, cond, refl, Option, Some, None, ⊎_elim}
use Rattle.std.proofs.lemmas.Bool.{or_left, eq-eqb, or_right}
use Rattle.cluster_types.specs.declared.entry.Entry.TheVariants.{Input, Hand, Settle, Lose}
use Rattle.cluster_defs.specs.Words.{Id, is_number}
use Rattle.cluster_defs.specs.Requests.{Request, is_direct}
use Rattle.cluster_defs.specs.Facts.{Facts, is_settled}
use Rattle.cluster_defs.specs.Scheduling.{may_run_as, is_live, direct_engine}
use Rattle.cluster_defs.specs.Histories.{History, facts, Legal}
use Rattle.cluster_defs.specs.Safety.{Once, AfterHeld, FollowHeld, TargetsHeld, after_met, follow_met, fits_target}
use Rattle.cluster_defs.proofs.Says.{SaysHand, due_says, hand_rests}
use Rattle.cluster_laws.proofs.Parts.{may_parts, runs_parts, waits}
use Rattle.cluster_laws.proofs.Direct.{direct_live}

pub hand_says : (older : History) (id : Id) (n : ℕ) → Legal (Hand id n ∷ older) → SaysHand (facts older) id n
hand_says older id n legal = due_says (facts older) (Hand id n) legal.0

pub hand_open : (older : History) (id : Id) (n : ℕ) → Legal (Hand id n ∷ older) → is_settled (facts older) id ≡ false
hand_open older id n legal = (hand_rests (facts older) id n (hand_says older id n legal)).0

pub hand_live : (older : History) (id : Id) (n : ℕ) → Legal (Hand id n ∷ older) → is_live (facts older) n ≡ true
hand_live older id n legal =
    ⊎_elim (direct_live older id n legal.1) (λ may. (may_parts (facts older) id n may).live) (hand_says older id n legal).why

-- a Direct has neither dependencies nor targets, and goes to its engine
direct_is : (r : Request) (n : ℕ) → direct_engine (Some r) ≡ Some n → is_direct r ≡ true
direct_is r n h = rw h refl

direct_after : (f : Facts) (o : Option Request) (n : ℕ) → direct_engine o ≡ Some n → after_met f o ≡ true
direct_after f None n h = cc
direct_after f (Some r) n h = or_left _ _ (direct_is r n h)

direct_follow : (f : Facts) (o : Option Request) (n : ℕ) → direct_engine o ≡ Some n → follow_met f n o ≡ true
direct_follow f None n h = cc
direct_follow f (Some r) n h = or_left _ _ (direct_is r n h)

on_true : (b c d : Bool) → b ≡ true → c ≡ true → cond b c d ≡ true
on_true true c d h k = k
on_true false c d h k = cc

on_false : (b c d : Bool) → b ≡ false → d ≡ true → cond b c d ≡ true
on_false true c d h k = cc
on_false false c d h k = k

direct_target : (o : Option Request) (n : ℕ) → direct_engine o ≡ Some n → fits_target n o ≡ true
direct_target None n h = cc
direct_target (Some r) n h = let here : is_number n r.direct_to ≡ true = rw h (eq-eqb n n refl) in on_true (is_direct r) _ _ (direct_is r n h) here

may_after : (f : Facts) (id : Id) (n : ℕ) (o : Option Request) → may_run_as f id n o ≡ true → after_met f o ≡ true
may_after f id n None h = cc
may_after f id n (Some r) h = or_right _ _ (runs_parts f id n r h).after

may_follow : (f : Facts) (id : Id) (n : ℕ) (o : Option Request) → may_run_as f id n o ≡ true → follow_met f n o ≡ true
may_follow f id n None h = cc
may_follow f id n (Some r) h = or_right _ _ (runs_parts f id n r h).follow

may_target : (f : Facts) (id : Id) (n : ℕ) (o : Option Request) → may_run_as f id n o ≡ true → fits_target n o ≡ true
may_target f id n None h = cc
may_target f id n (Some r) h = let parts = runs_parts f id n r h in on_false (is_direct r) _ _ parts.no_direct parts.target

-- what a hand-out says of the request, by either reason
either : (older : History) (id : Id) (n : ℕ) → Legal (Hand id n ∷ older) → (P : Option Request → Type 0) →
    ((o : Option Request) → direct_engine o ≡ Some n → P o) → ((o : Option Request) → may_run_as (facts older) id n o ≡ true → P o) → P ((facts older).request_of id)
either older id n legal P direct may =
    let f = facts older in
    ⊎_elim (λ w. direct (f.request_of id) (waits f id n w).engine) (λ m. may (f.request_of id) (may_parts f id n m).request) (hand_says older id n legal).why

pub legal_once : (history : History) → Legal history → Once history
legal_once [] legal = tt
legal_once (Settle id v c ∷ older) legal = ((due_says (facts older) (Settle id v c) legal.0).open_yet, legal_once older legal.1)
legal_once (Hand id n ∷ older) legal = (hand_open older id n legal, legal_once older legal.1)
legal_once (Lose n ∷ older) legal = legal_once older legal.1
legal_once (Input input ∷ older) legal = legal_once older legal.1

pub legal_after : (history : History) → Legal history → AfterHeld history
legal_after [] legal = tt
legal_after (Hand id n ∷ older) legal =
    (either older id n legal (λ o. after_met (facts older) o ≡ true) (λ o. direct_after (facts older) o n) (may_after (facts older) id n), legal_after older legal.1)
legal_after (Settle id v c ∷ older) legal = legal_after older legal.1
legal_after (Lose n ∷ older) legal = legal_after older legal.1
legal_after (Input input ∷ older) legal = legal_after older legal.1

pub legal_follow : (history : History) → Legal history → FollowHeld history
legal_follow [] legal = tt
legal_follow (Hand id n ∷ older) legal =
    (either older id n legal (λ o. follow_met (facts older) n o ≡ true) (λ o. direct_follow (facts older) o n) (may_follow (facts older) id n), legal_follow older legal.1)
legal_follow (Settle id v c ∷ older) legal = legal_follow older legal.1
legal_follow (Lose n ∷ older) legal = legal_follow older legal.1
legal_follow (Input input ∷ older) legal = legal_follow older legal.1

pub legal_targets : (history : History) → Legal history → TargetsHeld history
legal_targets [] legal = tt
legal_targets (Hand id n ∷ older) legal =
    (hand_live older id n legal, either older id n legal (λ o. fits_target n o ≡ true) (λ o. direct_target o n) (may_target (facts older) id n), legal_targets older legal.1)
legal_targets (Settle id v c ∷ older) legal = legal_targets older legal.1
legal_targets (Lose n ∷ older) legal = legal_targets older legal.1
legal_targets (Input input ∷ older) legal = legal_targets older legal.1
