use Rattle.std.proofs.Common.{◌≤◌, ◌∙◌, sym, ap, subst, length, flat_map}
use Rattle.std.proofs.lemmas.List.{take_all}
use Rattle.arith_syntax.specs.Grammar.{Grammar}
use Rattle.arith_syntax.specs.Printing.{instruction_text}
use Rattle.arith_syntax.proofs.Printed.{printed_is, program_text}
use Rattle.arith_syntax.proofs.printing.print.Goals as goal

pub returns-clause-text : goal.returns-clause-text
returns-clause-text c =
    c.loop-instruction.invariant
    ∙ ap (flat_map instruction_text) (take_all c.loop-instruction.instruction-index c.instructions-instruction-items.result.now c.loop-instruction-test.false ∙ c.instructions-instruction-items.ensures.written)
    ∙ program_text c.args.program.now

pub returns-clause-grammar : goal.returns-clause-grammar
returns-clause-grammar c =
    let text = c.loop-instruction.invariant
    ∙ ap (flat_map instruction_text) (take_all c.loop-instruction.instruction-index c.instructions-instruction-items.result.now c.loop-instruction-test.false ∙ c.instructions-instruction-items.ensures.written)
    ∙ program_text c.args.program.now in
    λ short. subst (λ t. Grammar t c.args.program.now) (sym text)
    (printed_is c.args.program.now c.instructions-instruction-items.ensures.fits (subst (λ t. length t ≤ 65536) text short))
