use Rattle.std.proofs.Common.{rules, ◌∙◌, ℤ, suc, drop, sym, ap, subst, add-one, Ok, Err, Result}
use Rattle.std.specs.Prelude.{FitsSigned}
use Rattle.std.specs.Int.{w64}
use Rattle.std.proofs.lemmas.List.{drop_all}
use Rattle.std.proofs.lemmas.Int.{to_z-of_z}
use Rattle.std.proofs.lemmas.Result.{err_from_is_err_and}
use Rattle.arith_eval.specs.declared.error.ArithError.{ArithError}
use Rattle.arith_eval.specs.Names.{value_in}
use Rattle.arith_eval.specs.Value.{Outcome, made_before, value_of_program, Evaluates}
use Rattle.arith_eval.specs.Machine.{at_rest}
use Rattle.arith_eval.proofs.Plays.{play, plays, Played, begun, next, played, first_stand, cut_off, stops}
use Rattle.arith_eval.proofs.run.run.Goals as goal

pub loop-instruction-init : goal.loop-instruction-init
loop-instruction-init c =
    let trees = c.args.program.now in
    let before = value_in c.args.names.now in
    let code = c.instructions-instruction-items in
    let whole = sym (plays trees before code.ensures.fits) ∙ ap (λ l. play l at_rest before) (sym code.ensures.written) ∙ ap (λ m. play code.result.now m before) (sym c.new-machine.ensures) in
    record {
      skip = search rules;
      played = begun (value_of_program trees before) before code.result.now c.new-machine.result whole;
    }

pub loop-instruction-preserved : goal.loop-instruction-preserved
loop-instruction-preserved c =
    let code = c.instructions-instruction-items.result.now in
    let before = value_in c.args.names.now in
    let whole = value_of_program c.args.program.now before in
    let l = c.loop-instruction in
    let at = l.instruction-index in
    let i = c.instruction-item.result in
    let names = value_in l.names in
    let m = c.step.new.self in
    let after = value_in c.step.new.names in
    let left = next whole before code at i l.machine names c.loop-instruction-test.true c.instruction-item.is l.invariant.played in
    let behind = played whole before i (drop (suc at) code) l.machine m names after left c.in_ok-step.ensures.moves in
    record {
      skip = search rules;
      played = subst (λ k. Played whole before (drop k code) m after) (sym (add-one at)) behind;
    }

pub returns-in_err-step-clause-value : goal.returns-in_err-step-clause-value
returns-in_err-step-clause-value c =
    let code = c.instructions-instruction-items.result.now in
    let before = value_in c.args.names.now in
    let whole = value_of_program c.args.program.now before in
    let l = c.loop-instruction in
    let i = c.instruction-item.result in
    let names = value_in l.names in
    let after = value_in c.step.new.names in
    let p = err_from_is_err_and c.from_residual.result c.from_residual.ensures.1 in
    let left = next whole before code l.instruction-index i l.machine names c.loop-instruction-test.true c.instruction-item.is l.invariant.played in
    subst (λ (r : Result ℤ ArithError). Evaluates r whole after) (ap Err (sym p.2) ∙ sym p.1)
    (stops c.in_err-step.field-0.0 whole before i (drop (suc l.instruction-index) code) l.machine c.step.new.self names after left c.in_err-step.ensures.moves)

pub returns-in_err-step-clause-names : goal.returns-in_err-step-clause-names
returns-in_err-step-clause-names c =
    let code = c.instructions-instruction-items.result.now in
    let before = value_in c.args.names.now in
    let whole = value_of_program c.args.program.now before in
    let l = c.loop-instruction in
    let i = c.instruction-item.result in
    let names = value_in l.names in
    let left = next whole before code l.instruction-index i l.machine names c.loop-instruction-test.true c.instruction-item.is l.invariant.played in
    cut_off whole before i (drop (suc l.instruction-index) code) l.machine names (value_in c.step.new.names) left c.in_err-step.ensures.names

pub returns-clause-value : goal.returns-clause-value
returns-clause-value c =
    let l = c.loop-instruction in
    let p = l.invariant.played in
    let none = drop_all l.instruction-index c.instructions-instruction-items.result.now c.loop-instruction-test.false in
    let o = p.same ∙ ap (λ left. made_before p.made (play left l.machine (value_in l.names))) none in
    let fits : FitsSigned w64 c.last.result = search rules in
    (ap (λ (x : Outcome). x.value) o ∙ ap Ok (sym c.last.ensures ∙ sym (to_z-of_z w64 c.last.result fits)), sym (ap (λ (x : Outcome). x.names) o))

pub returns-clause-names : goal.returns-clause-names
returns-clause-names c =
    let code = c.instructions-instruction-items.result.now in
    let before = value_in c.args.names.now in
    let l = c.loop-instruction in
    first_stand (value_of_program c.args.program.now before) before (drop l.instruction-index code) l.machine (value_in l.names) l.invariant.played
