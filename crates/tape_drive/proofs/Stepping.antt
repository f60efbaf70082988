-- A step, served, is moves of a life: its entries grow, all of it is flushed, and its outs are sent.
use Rattle.std.proofs.Common.{◌≡◌, ℕ, suc, ◌<◌, List, [], ◌∷◌, ◌++◌, length, map, Bool, true, false, cond, refl, sym, ap, ◌∙◌, subst, arith}
use Rattle.std.specs.List.{AllByRecursion as Each}
use Rattle.std.proofs.lemmas.Bool.{lt-ltb}
use Rattle.cluster_types.specs.declared.entry.Input.{Input as InputType}
use Rattle.cluster_types.specs.declared.entry.Entry.{Entry}
use Rattle.cluster_types.specs.declared.entry.Entry.TheVariants.{Input}
use Rattle.cluster_types.specs.declared.out.Out.{Out}
use Rattle.cluster_defs.specs.Scheduling.{due}
use Rattle.cluster_defs.specs.Histories.{History, facts, decide_all}
use Rattle.cluster_defs.specs.Outs.{outs, outs_from, outs_on}
use Rattle.cluster_defs.specs.Lives.{World, Move, Flush, Sending, May, is_open, kept_end, sendings_to, moved_by}
use Rattle.cluster_core.proofs.Plans.{decide_all_rests}
use Rattle.cluster_store.specs.Held.{judged_by}
use Rattle.cluster_store.specs.Worlds.{MayGo, world_after}
use Rattle.cluster_store.proofs.Lived.{step_grows}
use Rattle.cluster_store.proofs.Stepping.{Step, step_of, step_longer}
use Rattle.cluster_store.proofs.Taking.{end_fits, firsts_by}
use Rattle.cluster_store.proofs.Waits.{Sent, sent_before, marked, stepped as stepped_waits}
use Rattle.tape_drive.specs.Sends.{by_connection}
use Rattle.tape_drive.specs.Steps.{may_come, stepped, step_outs, stepped_all}
use Rattle.tape_drive.proofs.Ordered.{kept_on}
use Rattle.tape_drive.specs.Sent.{IsAtRest, HasSent, GoesOn, steps_outs}
use Rattle.tape_drive.proofs.Going.{world_on, may_on, sent_on, sent_none, goes_on, goes_nowhere}
use Rattle.tape_drive.proofs.Sending.{Waits, IsSent, send_all}
use Rattle.tape_drive.proofs.Unsent.{none_sent}

-- WHAT A STEP ADDS

marks_off : (b : Bool) (os : List Out) → map (λ (p : Out × Bool). p.0) (marked b os) ≡ os
marks_off b [] = refl
marks_off b (o ∷ os) = ap (λ (xs : List Out). o ∷ xs) (marks_off b os)

-- what a step sends to a connection stands behind what was sent before it
record Adds (old new : History) (outs : List Out) (conn : ℕ) : Type 0 where
  pub added : List Sending
  pub are : sendings_to new conn ≡ sendings_to old conn ++ added
  pub outs_are : map (λ s. s.1) added ≡ outs_on conn outs

adds_of : (mark : ℕ) (old new : History) (base : List Sending) (b : Bool) (conn : ℕ) → base ≡ sendings_to old conn → Sent mark old base b conn new → Adds old new (outs_from (length old) new) conn
adds_of mark old new base b conn same s = record {
  added = s.added;
  are = s.are ∙ ap (λ (xs : List Sending). xs ++ s.added) same;
  outs_are = sym (firsts_by mark s.added) ∙ ap (map (λ (p : Out × Bool). p.0)) s.judged_so ∙ marks_off b (outs_on conn (outs_from (length old) new));
}

before_is : (old : History) (e : Entry) (conn : ℕ) → is_open e ≡ false → sent_before old e conn ≡ sendings_to old conn
before_is old e conn off = ap (λ b. cond b [] (sendings_to old conn)) off

step_adds : (old : History) (input : InputType) (new : History) → Step old input new → is_open (Input input) ≡ false → (conn : ℕ) → Adds old new (outs_from (length old) new) conn
step_adds old input new s off conn =
    let waits = stepped_waits (length old) (kept_end old) old input new s (omega arith) refl (end_fits old) in
    adds_of (length old) old new (sent_before old (Input input) conn) waits.free conn (before_is old (Input input) conn off) (waits.sent conn)

-- A STEP

-- all of a history is safe
abbrev safe_world : World → History → World
safe_world w new = record { history = new; mark = length new; sent = w.sent; told = w.told; down = w.down }

waits_of : (w : World) (new : History) (outs : List Out) (conn : ℕ) → w.told conn ≡ length (sendings_to w.history conn) → Adds w.history new outs conn → Waits (safe_world w new) (by_connection outs) conn
waits_of w new outs conn told a = record {
  before = sendings_to w.history conn;
  waiting = a.added;
  are = a.are;
  told = told;
  outs = a.outs_are ∙ sym (kept_on conn outs);
}

step_goes : (w : World) (input : InputType) → IsAtRest w → may_come w.history input ≡ true → is_open (Input input) ≡ false →
    GoesOn w (decide_all (Input input ∷ w.history)) (by_connection (outs_from (length w.history) (decide_all (Input input ∷ w.history))))
step_goes w input rests may off = record {
  moves = all_sent.moves ++ Flush new ∷ grown.0;
  may = may_on w all_sent.moves (Flush new ∷ grown.0) (flush_may, grown.1) (subst (λ (v : World). MayGo v all_sent.moves) (sym safe_is) all_sent.may);
  history_is = ap (λ (v : World). v.history) is ∙ all_sent.history_is;
  sends = subst (λ (v : World). HasSent w v order) (sym is) (sent_on w (safe_world w new) (world_after (safe_world w new) all_sent.moves) [] order (sent_none w (safe_world w new) refl) all_sent.sends);
  rests = subst IsAtRest (sym is) (record {
    safe = all_sent.mark_is ∙ ap length (sym all_sent.history_is);
    told_all = λ conn. all_sent.told_all conn ∙ ap (λ (h : History). length (sendings_to h conn)) (sym all_sent.history_is);
    none_due = ap (λ (h : History). due (facts h)) all_sent.history_is ∙ decide_all_rests (Input input ∷ w.history);
    up = all_sent.up;
  });
}
  where
    new : History
    new = decide_all (Input input ∷ w.history)

    s : Step w.history input (decide_all (Input input ∷ w.history))
    s = step_of w.history input rests.none_due

    order : List Out
    order = by_connection (outs_from (length w.history) (decide_all (Input input ∷ w.history)))

    grown : (moves : List Move) × MayGo w moves × (world_after w moves ≡ record w { history = decide_all (Input input ∷ w.history) })
    grown = step_grows w input rests.up (rests.none_due, may) off

    longer : length w.history < length (decide_all (Input input ∷ w.history))
    longer = step_longer w.history input new s

    flush_may : May (world_after w grown.0) (Flush (decide_all (Input input ∷ w.history)))
    flush_may =
        let mark = rests.safe in
        subst (λ (v : World). May v (Flush new)) (sym grown.2) ((([], refl), omega (arith, mark, longer), decide_all_rests (Input input ∷ w.history)), rests.up)

    safe_is : world_after w (Flush (decide_all (Input input ∷ w.history)) ∷ grown.0) ≡ safe_world w (decide_all (Input input ∷ w.history))
    safe_is = ap (λ (v : World). moved_by v (Flush new)) grown.2

    all_sent : IsSent (safe_world w (decide_all (Input input ∷ w.history))) (by_connection (outs_from (length w.history) (decide_all (Input input ∷ w.history))))
    all_sent = send_all (safe_world w new) order rests.up refl (λ conn. waits_of w new (outs_from (length w.history) new) conn (rests.told_all conn) (step_adds w.history input new s off conn))

    is : world_after w (all_sent.moves ++ Flush (decide_all (Input input ∷ w.history)) ∷ grown.0) ≡ world_after (safe_world w (decide_all (Input input ∷ w.history))) all_sent.moves
    is = world_on w all_sent.moves (Flush new ∷ grown.0) ∙ ap (λ (v : World). world_after v all_sent.moves) safe_is

-- an input that may come is served, another leaves all as it was
pub input_goes : (w : World) (input : InputType) → IsAtRest w → is_open (Input input) ≡ false → GoesOn w (stepped w.history input) (by_connection (step_outs w.history input))
input_goes w input rests off =
    elim (may_come w.history input) as (λ b. may_come w.history input ≡ b → GoesOn w (cond b (decide_all (Input input ∷ w.history)) w.history) (by_connection (outs_from (length w.history) (cond b (decide_all (Input input ∷ w.history)) w.history)))) [
      | true ↦ λ may. step_goes w input rests may off
      | false ↦ λ may. subst (GoesOn w w.history) (ap by_connection (sym (none_sent w.history))) (goes_nowhere w w.history refl rests)
    ] refl

-- inputs that are no Open
abbrev pub NoOpens : List InputType → Type 0
NoOpens inputs = Each (λ input. is_open (Input input) ≡ false) inputs

pub inputs_go : (w : World) (h : History) (inputs : List InputType) → w.history ≡ h → IsAtRest w → NoOpens inputs → GoesOn w (stepped_all h inputs) (steps_outs h inputs)
inputs_go w h [] is rests off = goes_nowhere w h is rests
inputs_go w h (input ∷ inputs) is rests off =
    let g = subst (λ (x : History). GoesOn w (stepped x input) (by_connection (step_outs x input))) is (input_goes w input rests off.0) in
    goes_on w (stepped h input) (stepped_all (stepped h input) inputs) (by_connection (step_outs h input)) (steps_outs (stepped h input) inputs) g
    (inputs_go (world_after w g.moves) (stepped h input) inputs g.history_is g.rests off.1)
