-- Inputs that are served one after another.
use Rattle.std.proofs.Common.{◌≡◌, inl, inr, ℕ, List, [], ◌∷◌, ◌++◌, map, reverse, append_assoc, Option, Some, None, refl, sym, ap, ◌∙◌, subst}
use Rattle.std.proofs.lemmas.List.{reverse-append, map-append}
use Rattle.std.proofs.lemmas.List.Concat.{flat_map-append}
use Rattle.cluster_types.specs.declared.entry.Input.{Input as InputType}
use Rattle.cluster_defs.specs.Histories.{History}
use Rattle.cluster_defs.specs.Words.{or_else}
use Rattle.cluster_core.specs.declared.size.HistorySize.{HistorySize}
use Rattle.tape.specs.declared.record.TapeKind.{TapeKind}
use Rattle.tape.specs.declared.record.TapeRecord.{TapeRecord}
use Rattle.tape.specs.Spelling.{spelled, all_spelled}
use Rattle.tape_drive.specs.Drive.{Stand}
use Rattle.tape_drive.specs.Sends.{step_sends, steps_send, sent_at}
use Rattle.tape_drive.specs.Served.{IsOnWay}
use Rattle.tape_drive.specs.Steps.{AreTaken, stepped, stepped_all, overfull, unless_full, fitting, full_at, behind_as, history_behind}
use Rattle.tape_drive.proofs.Way.{way_on}

-- what was taken off the end of a list stands first in the reversed one
pub popped : (old new : List InputType) (input : InputType) → old ≡ new ++ input ∷ [] → reverse old ≡ input ∷ reverse new
popped old new input is = ap reverse is ∙ reverse-append new (input ∷ [])

-- with what is left, all comes to what it was to come to
pub record Turn (key : List ℕ) (moment : ℕ) (begin : Stand) (all : List InputType) (before : List ℕ) (s : Stand) (rest : List InputType) (now : List ℕ) : Type 0 where
  pub taken : AreTaken rest
  pub full : full_at s.limits s.history rest ≡ full_at begin.limits begin.history all
  pub stand : record s { history = stepped_all s.history (fitting s.limits s.history rest) } ≡ record begin { history = stepped_all begin.history (fitting begin.limits begin.history all) }
  pub octets : now ++ all_spelled (map (sent_at moment) (steps_send key s.links s.history (fitting s.limits s.history rest)))
      ≡ before ++ all_spelled (map (sent_at moment) (steps_send key begin.links begin.history (fitting begin.limits begin.history all)))
  pub on_way : (h : History) → IsOnWay s.limits s.history rest h → IsOnWay begin.limits begin.history all h

made_so : (limits : HistorySize) (h : History) (i : InputType) → overfull limits h i ≡ None → history_behind limits h i ≡ stepped h i
made_so limits h i none = ap (λ (o : Option HistorySize). behind_as o h (stepped h i)) none

fitting_so : (limits : HistorySize) (h : History) (i : InputType) (rest : List InputType) → overfull limits h i ≡ None → fitting limits h (i ∷ rest) ≡ i ∷ fitting limits (stepped h i) rest
fitting_so limits h i rest none = ap (λ (o : Option HistorySize). unless_full o (i ∷ fitting limits (stepped h i) rest)) none

spelled_more : (moment : ℕ) (xs ys : List TapeKind) → all_spelled (map (sent_at moment) (xs ++ ys)) ≡ all_spelled (map (sent_at moment) xs) ++ all_spelled (map (sent_at moment) ys)
spelled_more moment xs ys = ap all_spelled (map-append (sent_at moment) xs ys) ∙ flat_map-append spelled (map (sent_at moment) xs) (map (sent_at moment) ys)

pub turn_on : (key : List ℕ) (moment : ℕ) (begin : Stand) (all : List InputType) (before : List ℕ) (s : Stand) (i : InputType) (rest : List InputType) (now : List ℕ) → Turn key moment begin all before s (i ∷ rest) now → overfull s.limits s.history i ≡ None →
    Turn key moment begin all before (record s { history = history_behind s.limits s.history i }) rest (now ++ all_spelled (map (sent_at moment) (unless_full (overfull s.limits s.history i) (step_sends key s.links s.history i))))
turn_on key moment begin all before s i rest now t none =
    let h = s.history in
    let limits = s.limits in
    let made : history_behind s.limits s.history i ≡ stepped s.history i = made_so s.limits s.history i none in
    let fits : fitting s.limits s.history (i ∷ rest) ≡ i ∷ fitting s.limits (stepped s.history i) rest = fitting_so s.limits s.history i rest none in
    let first : all_spelled (map (sent_at moment) (unless_full (overfull s.limits s.history i) (step_sends key s.links s.history i))) ≡ all_spelled (map (sent_at moment) (step_sends key s.links s.history i)) =
    ap (λ (o : Option HistorySize). all_spelled (map (sent_at moment) (unless_full o (step_sends key s.links s.history i)))) none in
    record {
      taken = t.taken.1;
      full = ap (λ (x : History). full_at s.limits x rest) made ∙ sym (ap (λ (o : Option HistorySize). or_else o (full_at s.limits (stepped s.history i) rest)) none) ∙ t.full;
      stand = ap (λ (x : History). record s { history = stepped_all x (fitting s.limits x rest) }) made ∙ sym (ap (λ (is : List InputType). record s { history = stepped_all s.history is }) fits) ∙ t.stand;
      octets = append_assoc now (all_spelled (map (sent_at moment) (unless_full (overfull s.limits s.history i) (step_sends key s.links s.history i))))
          (all_spelled (map (sent_at moment) (steps_send key s.links (history_behind s.limits s.history i) (fitting s.limits (history_behind s.limits s.history i) rest))))
          ∙ ap (λ (xs : List ℕ). now ++ xs)
          (ap (λ (xs : List ℕ). xs ++ all_spelled (map (sent_at moment) (steps_send key s.links (history_behind s.limits s.history i) (fitting s.limits (history_behind s.limits s.history i) rest)))) first
          ∙ ap (λ (x : History). all_spelled (map (sent_at moment) (step_sends key s.links s.history i)) ++ all_spelled (map (sent_at moment) (steps_send key s.links x (fitting s.limits x rest)))) made
          ∙ sym (spelled_more moment (step_sends key s.links s.history i) (steps_send key s.links (stepped s.history i) (fitting s.limits (stepped s.history i) rest)))
          ∙ sym (ap (λ (is : List InputType). all_spelled (map (sent_at moment) (steps_send key s.links s.history is))) fits))
          ∙ t.octets;
      on_way = λ at way. t.on_way at (way_on s.limits s.history i rest (history_behind s.limits s.history i) at none refl way);
    }
