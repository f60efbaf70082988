-- The calls of a store are moves of a life.
use Rattle.std.proofs.Common.{◌≡◌, ℕ, ◌-◌, ◌≤◌, List, [], ◌∷◌, ◌++◌, length, take, Bool, true, false, refl, sym, ap, ◌∙◌, subst, arith, Some, None}
use Rattle.std.specs.Prelude.{slice_get}
use Rattle.std.proofs.lemmas.List.{take-append-drop, length-drop}
use Rattle.cluster_types.specs.declared.entry.Input.{Input as InputType}
use Rattle.cluster_types.specs.declared.entry.Input.TheVariants.{Open, Up, Down, In, Beat, Time}
use Rattle.cluster_types.specs.declared.entry.Entry.{Entry}
use Rattle.cluster_types.specs.declared.entry.Entry.TheVariants.{Input, Hand, Settle, Lose}
use Rattle.cluster_defs.specs.Scheduling.{due, Allowed}
use Rattle.cluster_defs.specs.Histories.{History, facts, decide_all}
use Rattle.cluster_defs.specs.Lives.{World, Move, Grow, Flush, Send, Crash, May, Sending, kept_end, sendings_to, is_open, told_after, moved_by, OpensIf}
use Rattle.cluster_defs.specs.Runs.{Decided}
use Rattle.cluster_core.proofs.Growing.{due_allowed}
use Rattle.cluster_store.specs.declared.taken.Taken.TheVariants.{Out as Hands}
use Rattle.cluster_store.specs.Stores.{up_to, told_by}
use Rattle.cluster_store.specs.Worlds.{world_after, MayGo}
use Rattle.cluster_store.proofs.Fits.{decides_to}
use Rattle.cluster_store.proofs.Waits.{due_no_open}

-- an entry other than an Open leaves what was told
pub told_kept : (e : Entry) (told : ℕ → ℕ) → is_open e ≡ false → told_after e told ≡ told
told_kept (Input (Open moment scheme hwm misses)) told off = cc
told_kept (Input (Up c channel moment word identity)) told off = refl
told_kept (Input (Down c moment word)) told off = refl
told_kept (Input (In c moment word m)) told off = refl
told_kept (Input (Beat moment word)) told off = refl
told_kept (Input (Time moment word)) told off = refl
told_kept (Hand id n) told off = refl
told_kept (Settle id v c) told off = refl
told_kept (Lose n) told off = refl

-- a world that is up, with another history
abbrev pub with_history : World → History → World
with_history w history = record w { history = history }

-- a world whose history grew to another one in whole steps, and in which nothing else changed
pub record Grown (w : World) (new : History) : Type 0 where
  pub moves : List Move
  pub may : MayGo w moves
  pub is : world_after w moves ≡ with_history w new
  pub longer : length w.history ≤ length new

grown_more : (w : World) (h : History) (e : Entry) → w.down ≡ false → Allowed (facts h) e → is_open e ≡ false → Grown w h → Grown w (e ∷ h)
grown_more w h e up allowed off g = record {
  moves = Grow e ∷ g.moves;
  may = (subst (λ (v : World). May v (Grow e)) (sym g.is) (allowed, opens w.down up), g.may);
  is = ap (λ (v : World). moved_by v (Grow e)) g.is ∙ made;
  longer = let le = g.longer in omega (arith, le);
}
  where
    opens : (b : Bool) → b ≡ false → OpensIf b e
    opens true is = cc
    opens false is = tt

    made : moved_by (with_history w h) (Grow e) ≡ with_history w (e ∷ h)
    made = λ i. record { history = e ∷ h; mark = w.mark; sent = w.sent; told = told_kept e w.told off i; down = sym up i }

pub grown_all : (w : World) (h : History) (ds : List Entry) → w.down ≡ false → Decided h ds → Grown w h → Grown w (ds ++ h)
grown_all w h [] up each g = g
grown_all w h (d ∷ ds) up each g = grown_more w (ds ++ h) d up (due_allowed (facts (ds ++ h)) d each.0) (due_no_open (ds ++ h) d each.0) (grown_all w h ds up each.1 g)

pub step_grows : (w : World) (input : InputType) → w.down ≡ false → Allowed (facts w.history) (Input input) → is_open (Input input) ≡ false →
    (moves : List Move) × MayGo w moves × (world_after w moves ≡ record w { history = decide_all (Input input ∷ w.history) })
step_grows w input up allowed off =
    let to = decides_to (Input input ∷ w.history) in
    let first : Grown w w.history = record { moves = []; may = tt; is = refl; longer = omega arith } in
    let g : Grown w (decide_all (Input input ∷ w.history)) = subst (Grown w) (sym to.appended) (grown_all w (Input input ∷ w.history) to.decisions up to.each_due (grown_more w w.history (Input input) up allowed off first)) in
    (g.moves, g.may, g.is)

pub flush_is_move : (w : World) → w.down ≡ false → w.mark ≤ length w.history → due (facts w.history) ≡ None →
    May w (Flush w.history) × (moved_by w (Flush w.history) ≡ record w { mark = length w.history })
flush_is_move w up le rests = (((([], refl), le, rests), up), refl)

pub take_is_move : (w : World) (conn : ℕ) (s : Sending) → w.down ≡ false → slice_get (sendings_to w.history conn) (w.told conn) ≡ Some s → kept_end s.0 ≤ w.mark →
    May w (Send conn s) × (moved_by w (Send conn s) ≡ record w { sent = s ∷ w.sent; told = told_by (Hands s.1) conn w.told })
take_is_move w conn s up next safe = ((next, safe, up), refl)

pub crash_is_move : (w : World) → w.down ≡ false → w.mark ≤ length w.history → due (facts w.history) ≡ None → due (facts (up_to w.mark w.history)) ≡ None →
    May w (Crash (up_to w.mark w.history)) × May w (Crash w.history)
crash_is_move w up le rests safe_rests =
    let behind = length w.history - w.mark in
    let long : length (up_to w.mark w.history) ≡ w.mark = length-drop behind w.history ∙ omega (arith, le) in
    ((((take behind w.history, sym (take-append-drop behind w.history)), omega (arith, long), safe_rests), up), ((([], refl), le, rests), up))
