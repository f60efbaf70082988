-- The lanes of a place: what comes into them, and what stays in the sets beside them.
use Rattle.std.proofs.Common.{◌≡◌, ℕ, List, [], ◌∷◌, ◌++◌, Bool, true, false, refl, sym, subst, Option, Some, None, ◌⊎◌, inl, inr, ⊎_elim}
use Rattle.std.specs.Prelude.{slice_get, nat_le, not, ◌==◌, Result, Ok, Err, OnOk}
use Rattle.std.specs.BTreeSet.{BTreeSet}
use Rattle.std.proofs.lemmas.Bool.{both_ways, eqb-true, eq-eqb}
use Rattle.place_sets.specs.Sets.{has, holds, holds_at, Without}
use Rattle.place_sets.specs.Lanes.{LaneList, in_lane}
use Rattle.cluster_defs.specs.declared.engine.Engine.{Engine}
use Rattle.cluster_defs.specs.Engines.{lists_number}
use Rattle.cluster_defs.specs.Requests.{Request}
use Rattle.task_table.specs.Seen.{Seen}
use Rattle.task_table.specs.Live.{lone}
use Rattle.task_table.specs.Waiting.{ready}
use Rattle.task_table.specs.Fitting.{fits, hopeless, late, is_tied, tied}
use Rattle.task_table.specs.Marking.{InSome, StaysWhereFit, OthersStay, IsLaned, IsLanedOn, IsWatched, LanedFor, WatchedFor, TimedFor}
use Rattle.task_table.proofs.Fits.{fits_tied, fits_ready, hope_without, hope_with}
use Rattle.task_table.proofs.Marking.{among_end}

pub up_ok : {T E P Q : Type 0} (r : Result T E) → (P → Q) → OnOk r P → OnOk r Q
up_ok (Ok x) up p = up p
up_ok (Err e) up p = tt

-- THE LANES OF ENGINES WHERE A TASK FITS

pub fit_after : (ts : List Seen) (t : Seen) (place : ℕ) (l m n : LaneList) → StaysWhereFit ts t place l m → StaysWhereFit ts t place m n → StaysWhereFit ts t place l n
fit_after ts t place l m n one two = λ k i here on. two k i here (one k i here on)

pub laned_more : (es : List ℕ) (e : ℕ) (ts : List Seen) (t : Seen) (place : ℕ) (m n : LaneList) → IsLanedOn es ts t place m → StaysWhereFit ts t place m n → (fits ts t e ≡ true → in_lane n e place ≡ true) → IsLanedOn (es ++ e ∷ []) ts t place n
laned_more es e ts t place m n laned stays there = λ k on fit. ⊎_elim
    (λ before. stays k place (λ _. fit) (laned k before fit))
    (λ same. subst (λ j. in_lane n j place ≡ true) (sym same) (there (subst (λ j. fits ts t j ≡ true) same fit)))
    (among_end es e k on)

-- the lanes of the engines that tell where a tied task may run are those of all where it fits
pub laned_tied : (ts : List Seen) (t : Seen) (place : ℕ) (r : Request) (lanes : LaneList) → t.request ≡ Some r → is_tied r ≡ true → IsLanedOn (tied ts r) ts t place lanes → IsLaned ts t place lanes
laned_tied ts t place r lanes is some laned = λ n fit. laned n (fits_tied ts t n r is some fit) fit

-- a task that isn't ready fits nowhere
pub unready_laned : (ts : List Seen) (t : Seen) (place : ℕ) (lanes : LaneList) → ready ts t ≡ false → IsLaned ts t place lanes
unready_laned ts t place lanes off = λ n fit. absurd (both_ways (ready ts t) off (fits_ready ts t n fit))

-- THE LANE OF AN ENGINE THAT GIVES HOPE

pub others_after : (place : ℕ) (l m n : LaneList) → OthersStay place l m → OthersStay place m n → OthersStay place l n
others_after place l m n one two = λ k i other on. two k i other (one k i other on)

pub hope_watched : (ts : List Seen) (t : Seen) (place : ℕ) (lanes : LaneList) → hopeless ts [] t ≡ false → IsWatched ts t place lanes
hope_watched ts t place lanes off = λ live on. absurd (hope_without ts live t off on)

pub guard_watched : (ts : List Seen) (t : Seen) (place n : ℕ) (lanes : LaneList) → hopeless ts (lone n ∷ []) t ≡ false → in_lane lanes n place ≡ true → IsWatched ts t place lanes
guard_watched ts t place n lanes off there = λ live on. (n, hope_with ts n live t off on, there)

-- WHAT STAYS IN THE SETS

-- one place, or another
by_place : (i place : ℕ) {P : Type 0} → (i ≡ place → P) → ((i ≡ place → ⊥) → P) → P
by_place i place {P} here other =
    elim (i == place) as (λ b. (i == place) ≡ b → P) [
      | true ↦ λ same. here (eqb-true i place same)
      | false ↦ λ off. other (λ e. both_ways (i == place) off (eq-eqb i place e))
    ] refl

module _ (ts : List Seen) (place : ℕ) (s u : BTreeSet ℕ) where
  -- the lanes have what they had, and the place where its task fits; then it may be left out of the set
  pub free_without : (l m : LaneList) → LanedFor ts place l m true (slice_get ts place) → Without place s u
      → ((n i : ℕ) → holds_at (λ t. fits ts t n) ts i ≡ true → (has s i ≡ true) ⊎ (in_lane l n i ≡ true)) → (n i : ℕ) → holds_at (λ t. fits ts t n) ts i ≡ true → (has u i ≡ true) ⊎ (in_lane m n i ≡ true)
  free_without l m laned without free n i on =
      by_place i place
      (λ same. inr (subst (λ k. in_lane m n k ≡ true) (sym same) (here (slice_get ts place) laned (subst (λ k. holds_at (λ t. fits ts t n) ts k ≡ true) same on))))
      (λ other. ⊎_elim (λ before. inl (without i other before)) (λ before. inr (there (slice_get ts place) laned other before)) (free n i on))
    where
      here : (o : Option Seen) → LanedFor ts place l m true o → holds (λ t. fits ts t n) o ≡ true → in_lane m n place ≡ true
      here None laned on = cc
      here (Some t) laned on = laned.0 refl n on

      there : (o : Option Seen) → LanedFor ts place l m true o → (i ≡ place → ⊥) → in_lane l n i ≡ true → in_lane m n i ≡ true
      there None laned other before = laned n i other before
      there (Some t) laned other before = laned.1 n i (λ same. absurd (other same)) before

  -- a place that stays in the set
  pub free_with : (l m : LaneList) (told : Bool) → LanedFor ts place l m told (slice_get ts place)
      → ((n i : ℕ) → holds_at (λ t. fits ts t n) ts i ≡ true → (has s i ≡ true) ⊎ (in_lane l n i ≡ true)) → (n i : ℕ) → holds_at (λ t. fits ts t n) ts i ≡ true → (has s i ≡ true) ⊎ (in_lane m n i ≡ true)
  free_with l m told laned free n i on = ⊎_elim (λ before. inl before) (λ before. inr (stays (slice_get ts place) laned (λ same. subst (λ k. holds_at (λ t. fits ts t n) ts k ≡ true) same on) before)) (free n i on)
    where
      stays : (o : Option Seen) → LanedFor ts place l m told o → (i ≡ place → holds (λ t. fits ts t n) o ≡ true) → in_lane l n i ≡ true → in_lane m n i ≡ true
      stays None laned here before = laned n i (λ same. let none : false ≡ true = here same in cc) before
      stays (Some t) laned here before = laned.1 n i here before

module _ {P : ℕ → Type 0} (place : ℕ) (s u : BTreeSet ℕ) (l m : LaneList) (looks : ℕ → Bool) (stay : OthersStay place l m) (before : (i : ℕ) → P i → (has s i ≡ true) ⊎ InSome looks l i) where
  others : (i : ℕ) → (i ≡ place → ⊥) → InSome looks l i → InSome looks m i
  others i other some = (some.0, some.1, stay some.0 i other some.2)

  -- a place that is in a lane where it should be may be left out of the set
  pub some_without : Without place s u → (P place → InSome looks m place) → (i : ℕ) → P i → (has u i ≡ true) ⊎ InSome looks m i
  some_without without here i on =
      by_place i place
      (λ same. inr (subst (λ k. InSome looks m k) (sym same) (here (subst P same on))))
      (λ other. ⊎_elim (λ had. inl (without i other had)) (λ some. inr (others i other some)) (before i on))

  -- a place that stays in the set needs no lane
  pub some_with : has s place ≡ true → (i : ℕ) → P i → (has s i ≡ true) ⊎ InSome looks m i
  some_with there i on =
      by_place i place
      (λ same. inl (subst (λ k. has s k ≡ true) (sym same) there))
      (λ other. ⊎_elim (λ had. inl had) (λ some. inr (others i other some)) (before i on))

pub watched_there : (ts : List Seen) (place : ℕ) (m : LaneList) (live : List Engine) → WatchedFor ts place m (slice_get ts place) → holds_at (hopeless ts live) ts place ≡ true → InSome (λ n. not (lists_number n live)) m place
watched_there ts place m live = by_task (slice_get ts place)
  where
    by_task : (o : Option Seen) → WatchedFor ts place m o → holds (hopeless ts live) o ≡ true → InSome (λ n. not (lists_number n live)) m place
    by_task None watched on = cc
    by_task (Some t) watched on = watched live on

pub timed_there : (ts : List Seen) (place : ℕ) (m : LaneList) (now : ℕ) → TimedFor place m (slice_get ts place) → holds_at (late now) ts place ≡ true → InSome (λ n. nat_le n now) m place
timed_there ts place m now = by_task (slice_get ts place)
  where
    by_task : (o : Option Seen) → TimedFor place m o → holds (late now) o ≡ true → InSome (λ n. nat_le n now) m place
    by_task None timed on = cc
    by_task (Some t) timed on = timed now on
