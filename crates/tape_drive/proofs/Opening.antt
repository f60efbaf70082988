-- An Open after a crash, and a history that grows by whole steps.
use Rattle.std.proofs.Common.{◌≡◌, ⊎_elim, ℕ, ◌≤◌, List, [], ◌∷◌, ◌++◌, length, Bool, true, false, cond, None, refl, sym, ap, ◌∙◌, subst, arith}
use Rattle.cluster_types.specs.declared.config.Config.{Config}
use Rattle.cluster_types.specs.declared.config.Scheme.{Scheme}
use Rattle.cluster_types.specs.declared.entry.Input.{Input as InputType}
use Rattle.cluster_types.specs.declared.entry.Input.TheVariants.{Open}
use Rattle.cluster_types.specs.declared.entry.Entry.TheVariants.{Input}
use Rattle.cluster_defs.specs.Scheduling.{due}
use Rattle.cluster_defs.specs.Histories.{History, facts, decide_all}
use Rattle.cluster_defs.specs.Lives.{World, Move, Grow, Flush, Send, Crash, Life, May, OpensIf, is_open, moved_by, world}
use Rattle.cluster_laws.proofs.Kept.{kept_facts}
use Rattle.cluster_core.proofs.Plans.{decide_all_rests}
use Rattle.cluster_core.specs.declared.size.HistorySize.{HistorySize}
use Rattle.cluster_store.specs.Worlds.{MayGo, world_after}
use Rattle.cluster_store.proofs.Fits.{decides_to}
use Rattle.cluster_store.proofs.Lived.{Grown, grown_all, with_history, step_grows}
use Rattle.cluster_store.proofs.Stepping.{step_of, step_longer}
use Rattle.tape.specs.declared.record.TapeRecord.{TapeRecord}
use Rattle.tape_drive.specs.Drive.{Stand, served}
use Rattle.tape_drive.specs.Served.{IsOnWay, Comes, inputs_taken}
use Rattle.tape_drive.specs.Steps.{may_come, stepped, stepped_all, fitting}
use Rattle.tape_drive.proofs.Quiet.{opened_quiet}
use Rattle.tape_drive.specs.Runs.{HasEnded}
use Rattle.tape_drive.specs.Sent.{IsAtRest, GoesOn}
use Rattle.tape_drive.proofs.Going.{world_on, may_on, sent_none}
use Rattle.tape_drive.proofs.NoOpens.{taken_none, fitting_none}
use Rattle.tape_drive.proofs.Stepping.{NoOpens}
use Rattle.tape_drive.proofs.Tapes.{served_is}

-- GROWTH ALONE

-- AN OPEN

-- a world in which an Open may come
record Ready (w : World) : Type 0 where
  pub none_due : due (facts w.history) ≡ None
  pub safe : w.mark ≤ length w.history

after_crash : (moves : List Move) → Life moves → (world moves).down ≡ true → Ready (world moves)
after_crash [] life down = cc
after_crash (Grow e ∷ moves) life down = cc
after_crash (Flush front ∷ moves) life down = absurd (different (sym life.0.1 ∙ down))
  where
    different : false ≡ true → ⊥
    different is = cc
after_crash (Send conn s ∷ moves) life down = absurd (different (sym life.0.2 ∙ down))
  where
    different : false ≡ true → ⊥
    different is = cc
after_crash (Crash front ∷ moves) life down = record { none_due = ap due (kept_facts front) ∙ life.0.0.2; safe = omega arith }

ready : (moves : List Move) → Life moves → HasEnded moves → Ready (world moves)
ready moves life ended =
    ⊎_elim
    (λ none. subst (λ (ms : List Move). Ready (world ms)) (sym none) (record { none_due = refl; safe = omega arith }))
    (λ down. after_crash moves life down)
    ended

opened_world : (w : World) (scheme : Scheme) (hwm misses : ℕ) → World
opened_world w scheme hwm misses = moved_by w (Grow (Input (Open 0 scheme hwm misses)))

may_open : (w : World) (scheme : Scheme) (hwm misses : ℕ) → due (facts w.history) ≡ None → May w (Grow (Input (Open 0 scheme hwm misses)))
may_open w scheme hwm misses none = ((none, refl), opens w.down)
  where
    opens : (b : Bool) → OpensIf b (Input (Open 0 scheme hwm misses))
    opens true = refl
    opens false = tt

-- an Open sends nothing
pub opens : (moves : List Move) (scheme : Scheme) (hwm misses : ℕ) → Life moves → HasEnded moves →
    GoesOn (world moves) (decide_all (Input (Open 0 scheme hwm misses) ∷ (world moves).history)) []
opens moves scheme hwm misses life ended = record {
  moves = Flush new ∷ g.moves ++ first ∷ [];
  may = (subst (λ (v : World). May v (Flush new)) (sym is) ((([], refl), omega (arith, safe, longer), decide_all_rests (Input (Open 0 scheme hwm misses) ∷ w.history)), refl), may_on w g.moves (first ∷ []) (may_open w scheme hwm misses r.none_due, tt) g.may);
  history_is = ap (λ (v : World). v.history) flushed_is;
  sends = sent_none w (world_after w (Flush new ∷ g.moves ++ first ∷ [])) (ap (λ (v : World). v.sent) flushed_is);
  rests = subst IsAtRest (sym flushed_is) (record {
    safe = refl;
    told_all = λ conn. ap length (sym (opened_quiet config 0 w.history conn));
    none_due = decide_all_rests (Input (Open 0 scheme hwm misses) ∷ w.history);
    up = refl;
  });
}
  where
    w : World
    w = world moves

    r : Ready (world moves)
    r = ready moves life ended

    config : Config
    config = record { scheme = scheme; hwm = hwm; misses = misses; entries = 0; bytes = 0 }

    first : Move
    first = Grow (Input (Open 0 scheme hwm misses))

    new : History
    new = decide_all (Input (Open 0 scheme hwm misses) ∷ (world moves).history)

    mid : World
    mid = moved_by (world moves) (Grow (Input (Open 0 scheme hwm misses)))

    g : Grown (moved_by (world moves) (Grow (Input (Open 0 scheme hwm misses)))) (decide_all (Input (Open 0 scheme hwm misses) ∷ (world moves).history))
    g =
        let to = decides_to (Input (Open 0 scheme hwm misses) ∷ w.history) in
        subst (Grown mid) (sym to.appended)
        (grown_all mid (Input (Open 0 scheme hwm misses) ∷ w.history) to.decisions refl to.each_due (record { moves = []; may = tt; is = refl; longer = omega arith }))

    safe : (world moves).mark ≤ length (world moves).history
    safe = r.safe

    longer : length (Input (Open 0 scheme hwm misses) ∷ (world moves).history) ≤ length (decide_all (Input (Open 0 scheme hwm misses) ∷ (world moves).history))
    longer = g.longer

    is : world_after (world moves) (g.moves ++ Grow (Input (Open 0 scheme hwm misses)) ∷ []) ≡ with_history (moved_by (world moves) (Grow (Input (Open 0 scheme hwm misses)))) (decide_all (Input (Open 0 scheme hwm misses) ∷ (world moves).history))
    is = world_on w g.moves (first ∷ []) ∙ g.is

    flushed_is : world_after (world moves) (Flush (decide_all (Input (Open 0 scheme hwm misses) ∷ (world moves).history)) ∷ g.moves ++ Grow (Input (Open 0 scheme hwm misses)) ∷ [])
        ≡ moved_by (with_history (moved_by (world moves) (Grow (Input (Open 0 scheme hwm misses)))) (decide_all (Input (Open 0 scheme hwm misses) ∷ (world moves).history))) (Flush (decide_all (Input (Open 0 scheme hwm misses) ∷ (world moves).history)))
    flushed_is = ap (λ (v : World). moved_by v (Flush new)) is

-- WHOLE STEPS

-- a history that has grown, after which no decision is due
pub record GrownTo (w : World) (new : History) : Type 0 where
  pub grown : Grown w new
  pub none_due : due (facts new) ≡ None

pub grown_nothing : (w : World) → due (facts w.history) ≡ None → GrownTo w w.history
grown_nothing w none = record { grown = record { moves = []; may = tt; is = refl; longer = omega arith }; none_due = none }

grow_step : (w : World) (h : History) (input : InputType) → w.down ≡ false → is_open (Input input) ≡ false → GrownTo w h → GrownTo w (stepped h input)
grow_step w h input up off t =
    elim (may_come h input) as (λ b. may_come h input ≡ b → GrownTo w (cond b (decide_all (Input input ∷ h)) h)) [
      | true ↦ λ may.
          let g = step_grows (with_history w h) input up (t.none_due, may) off in
          let le = t.grown.longer in
          let lt = step_longer h input (decide_all (Input input ∷ h)) (step_of h input t.none_due) in
          record {
            grown = record {
              moves = g.0 ++ t.grown.moves;
              may = may_on w g.0 t.grown.moves t.grown.may (subst (λ (v : World). MayGo v g.0) (sym t.grown.is) g.1);
              is = world_on w g.0 t.grown.moves ∙ ap (λ (v : World). world_after v g.0) t.grown.is ∙ g.2;
              longer = omega (arith, le, lt);
            };
            none_due = decide_all_rests (Input input ∷ h);
          }
      | false ↦ λ may. t
    ] refl

grow_inputs : (w : World) (h : History) (inputs : List InputType) → w.down ≡ false → NoOpens inputs → GrownTo w h → GrownTo w (stepped_all h inputs)
grow_inputs w h [] up off t = t
grow_inputs w h (input ∷ inputs) up off t = grow_inputs w (stepped h input) inputs up off.1 (grow_step w h input up off.0 t)

grow_way : (w : World) (limits : HistorySize) (h : History) (inputs : List InputType) (at : History) → w.down ≡ false → NoOpens inputs → IsOnWay limits h inputs at → GrownTo w h → GrownTo w at
grow_way w limits h [] at up off way t = subst (GrownTo w) (sym way) t
grow_way w limits h (input ∷ inputs) at up off way t =
    ⊎_elim
    (λ here. subst (GrownTo w) (sym here) t)
    (λ on. grow_way w limits (stepped h input) inputs at up off.1 on.1 (grow_step w h input up off.0 t))
    way

-- a history that a tape comes to
pub grow_comes : (key : List ℕ) (w : World) (s : Stand) (tape : List TapeRecord) (at : History) → w.down ≡ false → Comes key s tape at → GrownTo w s.history → GrownTo w at
grow_comes key w s [] at up comes t = subst (GrownTo w) (sym comes) t
grow_comes key w s (r ∷ rs) at up comes t =
    ⊎_elim
    (λ way. grow_way w s.limits s.history (inputs_taken key s r) at up (taken_none key s r) way t)
    (λ on. grow_comes key w (served key s r) rs at up on
    (subst (GrownTo w) (sym (served_is key s r)) (grow_inputs w s.history (fitting s.limits s.history (inputs_taken key s r)) up (fitting_none s.limits s.history (inputs_taken key s r) (taken_none key s r)) t)))
    comes
