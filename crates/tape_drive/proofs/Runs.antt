-- Runs over one file are one life.
use Rattle.std.proofs.Common.{◌≡◌, inl, inr, ℕ, ◌≤◌, List, [], ◌∷◌, ◌++◌, length, reverse, true, Ok, refl, sym, ap, ◌∙◌, subst, arith}
use Rattle.std.specs.Prelude.{Result}
use Rattle.std.proofs.lemmas.List.{reverse-reverse}
use Rattle.cluster_types.specs.declared.entry.Entry.{Entry}
use Rattle.cluster_types.specs.declared.out.Out.{Out}
use Rattle.cluster_defs.specs.Histories.{History, Legal, kept}
use Rattle.cluster_defs.specs.Lives.{World, Move, Crash, May, Belongs, moved_by, world}
use Rattle.cluster_laws.proofs.Life.{life_legal, life_belongs}
use Rattle.cluster_store.specs.Stores.{written}
use Rattle.cluster_store.specs.Worlds.{MayGo, world_after}
use Rattle.cluster_store.proofs.Lived.{with_history}
use Rattle.task_journal.specs.Journal.{StandsFor, holding}
use Rattle.task_journal.specs.declared.fault.OpenFault.{OpenFault}
use Rattle.task_journal.specs.declared.found.Found.{Found}
use Rattle.tape_drive.specs.Drive.{stand_at}
use Rattle.tape_drive.specs.Sent.{HasSent, GoesOn, tape_outs, outs_of}
use Rattle.tape_drive.specs.Runs.{TapeRun, begun, MayLeave, Ran, IsLifeOf, IsOneHistory}
use Rattle.tape_drive.proofs.Going.{world_on, may_on, goes_on, world_of, life_on, outs_on, joined}
use Rattle.tape_drive.proofs.Opening.{GrownTo, opens, grown_nothing, grow_comes}
use Rattle.tape_drive.proofs.Tapes.{tape_goes}

-- a run, up to its crash
record Crashes (w : World) (history : History) (sent : List Out) : Type 0 where
  pub moves : List Move
  pub may : MayGo w moves
  pub history_is : (world_after w moves).history ≡ history
  pub sends : HasSent w (world_after w moves) sent
  pub down : (world_after w moves).down ≡ true

-- a crash, after further steps whose outs weren't sent
crashes : (w : World) (mid : History) (sent : List Out) (at : History) (g : GoesOn w mid sent) → GrownTo (world_after w g.moves) at → Crashes w (kept at) sent
crashes w mid sent at g t = record {
  moves = Crash at ∷ t.grown.moves ++ g.moves;
  may = (subst (λ (v : World). May v (Crash at)) (sym is) ((([], refl), omega (arith, safe, longer), t.none_due), g.rests.up), may_on w t.grown.moves g.moves g.may t.grown.may);
  history_is = ap (λ (v : World). v.history) crashed_is;
  sends = record { newer = g.sends.newer; sent = ap (λ (v : World). v.sent) crashed_is ∙ g.sends.sent; outs_are = g.sends.outs_are };
  down = ap (λ (v : World). v.down) crashed_is;
}
  where
    is : world_after w (t.grown.moves ++ g.moves) ≡ with_history (world_after w g.moves) at
    is = world_on w t.grown.moves g.moves ∙ t.grown.is

    crashed_is : world_after w (Crash at ∷ t.grown.moves ++ g.moves) ≡ moved_by (with_history (world_after w g.moves) at) (Crash at)
    crashed_is = ap (λ (v : World). moved_by v (Crash at)) is

    safe : (world_after w g.moves).mark ≡ length (world_after w g.moves).history
    safe = g.rests.safe

    longer : length (world_after w g.moves).history ≤ length at
    longer = t.grown.longer

-- a run goes on from what the one before left
run_goes : (run : TapeRun) (old : History) (before : List Out) (life : IsLifeOf old before) → GoesOn (world life.moves) (stand_at run.key (begun old run) run.front).history (tape_outs run.key (begun old run) run.front)
run_goes run old before life =
    let w = world life.moves in
    let s = begun old run in
    let o : GoesOn (world life.moves) (begun old run).history [] = subst (λ (h : History). GoesOn (world life.moves) (begun h run).history []) life.history_is (opens life.moves run.scheme run.hwm run.misses life.life life.ended) in
    goes_on (world life.moves) (begun old run).history (stand_at run.key (begun old run) run.front).history [] (tape_outs run.key (begun old run) run.front) o
    (tape_goes run.key (world_after (world life.moves) o.moves) (begun old run) run.front o.history_is o.rests)

run_crashes : (run : TapeRun) (old : History) (before : List Out) (history : History) (life : IsLifeOf old before) → MayLeave old run history → Crashes (world life.moves) history (tape_outs run.key (begun old run) run.front)
run_crashes run old before history life left =
    let s = stand_at run.key (begun old run) run.front in
    let sent = tape_outs run.key (begun old run) run.front in
    let g = run_goes run old before life in
    let v = world_after (world life.moves) g.moves in
    subst (λ (h : History). Crashes (world life.moves) h (tape_outs run.key (begun old run) run.front)) (sym left.2)
    (crashes (world life.moves) (stand_at run.key (begun old run) run.front).history (tape_outs run.key (begun old run) run.front) left.0 g
    (grow_comes run.key (world_after (world life.moves) g.moves) (stand_at run.key (begun old run) run.front) run.rest left.0 g.rests.up left.1
    (subst (GrownTo (world_after (world life.moves) g.moves)) g.history_is (grown_nothing (world_after (world life.moves) g.moves) g.rests.none_due))))

pub runs_are_life : (runs : List TapeRun) (history : History) (sent : List Out) → Ran runs history sent → IsLifeOf history sent
runs_are_life [] history sent ran = record { moves = []; life = tt; ended = inl refl; history_is = sym ran.0; sent_is = sym ran.1 }
runs_are_life (run ∷ runs) history sent ran =
    let old = ran.0 in
    let before = ran.1 in
    let life = runs_are_life runs ran.0 ran.1 ran.2 in
    let c = run_crashes run ran.0 ran.1 history life ran.3 in
    let is = world_of c.moves life.moves in
    record {
      moves = c.moves ++ life.moves;
      life = life_on c.moves life.moves life.life c.may;
      ended = inr (ap (λ (v : World). v.down) is ∙ c.down);
      history_is = ap (λ (v : World). v.history) is ∙ c.history_is;
      sent_is = ap (λ (v : World). outs_of v.sent) is ∙ ap outs_of c.sends.sent ∙ outs_on c.sends.newer (world life.moves).sent
          ∙ joined (outs_of (world life.moves).sent) (outs_of c.sends.newer) ran.1 (tape_outs run.key (begun ran.0 run) run.front) life.sent_is c.sends.outs_are ∙ sym ran.4;
    }

pub runs_belong : (runs : List TapeRun) (history : History) (sent : List Out) → Ran runs history sent → IsOneHistory history sent
runs_belong runs history sent ran =
    let life = runs_are_life runs history sent ran in
    record {
      legal = subst Legal life.history_is (life_legal life.moves life.life);
      sendings = (world life.moves).sent;
      belong = subst (λ (h : History). Belongs h (world life.moves).sent) life.history_is (life_belongs life.moves life.life);
      outs_are = life.sent_is;
    }

pub left_is_next : (octets : List ℕ) (list : List Entry) (at : History) → StandsFor octets (written at) → StandsFor octets list → reverse list ≡ kept at
left_is_next octets list at left next = ap reverse (sym (ap (λ (found : Found). found.entries) same)) ∙ reverse-reverse (kept at)
  where
    same : holding (written at) left.0 ≡ holding list next.0
    same = inside (holding (written at) left.0) (holding list next.0) (sym left.1 ∙ next.1)
      where
        inside : (a b : Found) → ◌≡◌ {A = Result Found OpenFault} (Ok a) (Ok b) → a ≡ b
        inside a b is = cc
