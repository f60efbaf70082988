use Rattle.std.proofs.Common.{◌≡◌, subst, OnErr, arith}
use Rattle.arith_eval.specs.Names.{value_in}
use Rattle.arith_eval.specs.Machine.{IsBeforeOrBehind}
use Rattle.arith_eval.proofs.Plays.{step_acts}
use Rattle.arith_eval.proofs.machine.Machine.step.Goals as goal

pub returns-clause-names : goal.returns-clause-names
returns-clause-names c =
    let none : c.args.self.now.skip ≡ 0 = grind arith in
    subst (λ move. OnErr c.act.result (IsBeforeOrBehind (value_in c.args.names.now) (value_in c.act.new.names) move))
    (step_acts c.args.instruction.now c.args.self.now (value_in c.args.names.now) none) c.act.ensures.names
