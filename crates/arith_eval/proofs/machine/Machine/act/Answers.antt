use Rattle.std.proofs.Common.{rules, ◌≡◌, ◌∙◌, sym, ap, subst, OnErr, Some, Err, Result}
use Rattle.std.proofs.lemmas.Result.{err_from_is_err_and}
use Rattle.arith_syntax.specs.declared.instruction.Instruction.TheVariants.{Store}
use Rattle.arith_eval.specs.declared.error.ArithError.{ArithError}
use Rattle.arith_eval.specs.Names.{value_in}
use Rattle.arith_eval.specs.Value.{binary}
use Rattle.arith_eval.specs.Machine.{IsBeforeOrBehind, act, stored, top, below}
use Rattle.arith_eval.proofs.machine.Machine.act.Goals as goal

pub returns-in_err-store_combined-in-Store-default-Some-clause-names : goal.returns-in_err-store_combined-in-Store-default-Some-clause-names
returns-in_err-store_combined-in-Store-default-Some-clause-names c =
    let p = err_from_is_err_and c.from_residual-in_err-store_combined-in-Store-default-Some.result c.from_residual-in_err-store_combined-in-Store-default-Some.ensures.1 in
    let names = value_in c.args.names.now in
    let after = value_in c.store_combined.new.names in
    let m = c.args.self.now in
    let x = c.in-Store-default-Some.name in
    let is : c.args.instruction.now ≡ Store x (Some c.in-Store-default-Some.operator) = search rules in
    let stood = subst (λ op. IsBeforeOrBehind names after (stored x (binary op (top (below m.stack)) (top m.stack)) (below (below m.stack)) m.last names)) c.in-Store-default-Some.operator-is c.in_err-store_combined-in-Store-default-Some.ensures.names in
    subst (λ (r : Result (Unit {0}) ArithError). OnErr r (IsBeforeOrBehind names after (act c.args.instruction.now m.stack m.last names))) (ap Err (sym p.2) ∙ sym p.1)
    (subst (λ i. IsBeforeOrBehind names after (act i m.stack m.last names)) (sym is) stood)
