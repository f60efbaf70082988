use Rattle.std.proofs.Common.{◌≡◌, ◌∙◌, ◌∷◌, ◌++◌, [], List, map, ℕ, Bool, true, false, None, Err, zero, reverse, refl, sym, ap, subst, arith}
use Rattle.cluster_types.specs.declared.entry.Input.{Input as InputType}
use Rattle.cluster_defs.specs.Histories.{History}
use Rattle.tape_drive.specs.Drive.{Stand}
use Rattle.edges.specs.Keeping.{Keeps}
use Rattle.edges.proofs.Keeping.{keeps_front, keeps_on_err}
use Rattle.tape.specs.Spelling.{all_spelled}
use Rattle.tape_drive.specs.Sends.{step_sends, sent_at}
use Rattle.tape_drive.specs.Steps.{overfull, unless_full}
use Rattle.tape_drive.specs.Served.{IsOnWay, HoldsSome, IsTouched}
use Rattle.tape_drive.proofs.Turns.{Turn, popped, turn_on}
use Rattle.tape_drive.proofs.Way.{way_front, holds_more, touched_on}
use Rattle.tape_drive.proofs.drive.Drive.serve_inputs.Goals as goal

pub returns-in_err-size-clause-on_way : goal.returns-in_err-size-clause-on_way
returns-in_err-size-clause-on_way g c =
    let s = c.loop-input.self.stand in
    let rest = popped c.loop-input.inputs.items c.pop.new.self.items c.in-Some.input c.in-Some.ensures.items in
    c.loop-input.invariant.on_way c.serve_input.new.self.stand.history
    (subst (λ (is : List InputType). IsOnWay c.loop-input.self.stand.limits c.loop-input.self.stand.history is c.serve_input.new.self.stand.history) (sym rest)
    (way_front c.loop-input.self.stand.limits c.loop-input.self.stand.history c.in-Some.input (reverse c.pop.new.self.items) c.serve_input.new.self.stand.history c.serve_input.ensures.on_way))

pub returns-in_err-size-clause-any_moment : goal.returns-in_err-size-clause-any_moment
returns-in_err-size-clause-any_moment g c =
    let rest = popped c.loop-input.inputs.items c.pop.new.self.items c.in-Some.input c.in-Some.ensures.items in
    λ tells fine.
    touched_on g.D.Disk.moment g.D.Disk.image g.D.Disk.image_since g.met.D.Disk.widens c.args.self.now.disk c.loop-input.self.disk c.serve_input.new.self.disk false c.serve_input.new.self.failed
    (HoldsSome (IsOnWay c.args.self.now.stand.limits c.args.self.now.stand.history (reverse c.args.inputs.items))) (HoldsSome (IsOnWay c.loop-input.self.stand.limits c.loop-input.self.stand.history (c.in-Some.input ∷ [])))
    (c.loop-input.invariant.any_moment tells fine) (c.serve_input.ensures.any_moment tells (c.loop-input.invariant.failed ∙ fine))
    (λ x holds. holds_more x (λ h way. c.loop-input.invariant.on_way h
    (subst (λ (is : List InputType). IsOnWay c.loop-input.self.stand.limits c.loop-input.self.stand.history is h) (sym rest)
    (way_front c.loop-input.self.stand.limits c.loop-input.self.stand.history c.in-Some.input (reverse c.pop.new.self.items) h way))) holds)

pub returns-in-Some-2-clause-any_moment : goal.returns-in-Some-2-clause-any_moment
returns-in-Some-2-clause-any_moment g c =
    let rest = popped c.loop-input.inputs.items c.pop.new.self.items c.in-Some.input c.in-Some.ensures.items in
    λ tells fine.
    touched_on g.D.Disk.moment g.D.Disk.image g.D.Disk.image_since g.met.D.Disk.widens c.args.self.now.disk c.loop-input.self.disk c.serve_input.new.self.disk false c.serve_input.new.self.failed
    (HoldsSome (IsOnWay c.args.self.now.stand.limits c.args.self.now.stand.history (reverse c.args.inputs.items))) (HoldsSome (IsOnWay c.loop-input.self.stand.limits c.loop-input.self.stand.history (c.in-Some.input ∷ [])))
    (c.loop-input.invariant.any_moment tells fine) (c.serve_input.ensures.any_moment tells (c.loop-input.invariant.failed ∙ fine))
    (λ x holds. holds_more x (λ h way. c.loop-input.invariant.on_way h
    (subst (λ (is : List InputType). IsOnWay c.loop-input.self.stand.limits c.loop-input.self.stand.history is h) (sym rest)
    (way_front c.loop-input.self.stand.limits c.loop-input.self.stand.history c.in-Some.input (reverse c.pop.new.self.items) h way))) holds)

-- a call that was answered found the disk working
fine_before : (b : Bool) → (b ≡ true → ⊥) → b ≡ false
fine_before true not = absurd (not refl)
fine_before false not = refl

pub loop-input-preserved : goal.loop-input-preserved
loop-input-preserved g c =
    let rest = popped c.loop-input.inputs.items c.pop.new.self.items c.in-Some.input c.in-Some.ensures.items in
    let none : overfull c.loop-input.self.stand.limits c.loop-input.self.stand.history c.in-Some.input ≡ None = sym c.in_ok-size.ensures.full ∙ c.in_default-2.is in
    let before : Turn c.args.key.now c.args.moment c.args.self.now.stand (reverse c.args.inputs.items) c.args.into.now.items c.loop-input.self.stand (c.in-Some.input ∷ reverse c.pop.new.self.items) c.loop-input.into.items =
    subst (λ (is : List InputType). Turn c.args.key.now c.args.moment c.args.self.now.stand (reverse c.args.inputs.items) c.args.into.now.items c.loop-input.self.stand is c.loop-input.into.items) rest
    (record {
      taken = c.loop-input.invariant.taken;
      full = c.loop-input.invariant.full;
      stand = c.loop-input.invariant.stand;
      octets = c.loop-input.invariant.octets;
      on_way = c.loop-input.invariant.on_way;
    }) in
    let on = turn_on c.args.key.now c.args.moment c.args.self.now.stand (reverse c.args.inputs.items) c.args.into.now.items c.loop-input.self.stand c.in-Some.input (reverse c.pop.new.self.items) c.loop-input.into.items before none in
    let after : Turn c.args.key.now c.args.moment c.args.self.now.stand (reverse c.args.inputs.items) c.args.into.now.items c.serve_input.new.self.stand (reverse c.pop.new.self.items) c.serve_input.new.into.items =
    subst (λ (xs : List ℕ). Turn c.args.key.now c.args.moment c.args.self.now.stand (reverse c.args.inputs.items) c.args.into.now.items c.serve_input.new.self.stand (reverse c.pop.new.self.items) xs) (sym c.in_ok-size.ensures.octets)
    (subst (λ (s : Stand). Turn c.args.key.now c.args.moment c.args.self.now.stand (reverse c.args.inputs.items) c.args.into.now.items s (reverse c.pop.new.self.items)
    (c.loop-input.into.items ++ all_spelled (map (sent_at c.args.moment) (unless_full (overfull c.loop-input.self.stand.limits c.loop-input.self.stand.history c.in-Some.input) (step_sends c.args.key.now c.loop-input.self.stand.links c.loop-input.self.stand.history c.in-Some.input)))))
    (sym c.in_ok-size.ensures.stand) on) in
    let fine : c.serve_input.new.self.failed ≡ false = c.in_ok-size.ensures.failed in
    let worked : c.loop-input.self.failed ≡ false = fine_before c.loop-input.self.failed (λ is. let a = c.serve_input.ensures.reopen.1 is in let b = c.in_ok-size.was in cc) in
    record {
      taken = after.taken;
      full = after.full;
      stand = after.stand;
      octets = after.octets;
      kept = keeps_on_err {T = ℕ} (Err zero) _ c.loop-input.into.items _ c.loop-input.invariant.kept (subst (Keeps c.loop-input.into.items) (sym c.in_ok-size.ensures.octets) (keeps_front _ _));
      on_way = after.on_way;
      any_moment = λ tells good.
          subst (λ (b : Bool). IsTouched g.D.Disk.moment g.D.Disk.image g.D.Disk.image_since c.args.self.now.disk c.serve_input.new.self.disk b (HoldsSome (IsOnWay c.args.self.now.stand.limits c.args.self.now.stand.history (reverse c.args.inputs.items)))) fine
          (touched_on g.D.Disk.moment g.D.Disk.image g.D.Disk.image_since g.met.D.Disk.widens c.args.self.now.disk c.loop-input.self.disk c.serve_input.new.self.disk false c.serve_input.new.self.failed
          (HoldsSome (IsOnWay c.args.self.now.stand.limits c.args.self.now.stand.history (reverse c.args.inputs.items))) (HoldsSome (IsOnWay c.loop-input.self.stand.limits c.loop-input.self.stand.history (c.in-Some.input ∷ [])))
          (c.loop-input.invariant.any_moment tells good) (c.serve_input.ensures.any_moment tells (c.loop-input.invariant.failed ∙ good))
          (λ x holds. holds_more x (λ h way. c.loop-input.invariant.on_way h
          (subst (λ (is : List InputType). IsOnWay c.loop-input.self.stand.limits c.loop-input.self.stand.history is h) (sym rest)
          (way_front c.loop-input.self.stand.limits c.loop-input.self.stand.history c.in-Some.input (reverse c.pop.new.self.items) h way))) holds));
      failed = fine ∙ sym worked ∙ c.loop-input.invariant.failed;
      later = omega (arith, c.loop-input.invariant.later, c.serve_input.ensures.later);
    }
