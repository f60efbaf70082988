use Rattle.std.proofs.Common.{◌≡◌, Some, option_map, sym, ap, ◌∙◌}
use Rattle.uuid.specs.Text.{parsed}
use Rattle.client_core.specs.Numbers.{last_number}
use Rattle.client_core.proofs.Numbers.{none_told, some_told, other_told}
use Rattle.client_core.proofs.numbered.number_of.Goals as goal

pub returns-in_err-number_read-clause-number : goal.returns-in_err-number_read-clause-number
returns-in_err-number_read-clause-number c = λ n small. none_told c.args.id.now c.from_residual.result n c.from_residual.ensures (sym c.in_err-number_read.was ∙ c.number_read.ensures) small

pub returns-then-is_numbered-clause-number : goal.returns-then-is_numbered-clause-number
returns-then-is_numbered-clause-number c =
    let read : Some c.from-number.result ≡ option_map last_number (parsed c.args.id.now) = ap Some c.from-number.ensures ∙ sym c.in_ok-number_read.was ∙ c.number_read.ensures in
    λ n small. some_told c.args.id.now c.from-number.result n read small (sym c.is_numbered.ensures ∙ c.if-is_numbered.true)

pub returns-else-is_numbered-clause-number : goal.returns-else-is_numbered-clause-number
returns-else-is_numbered-clause-number c =
    let read : Some c.from-number.result ≡ option_map last_number (parsed c.args.id.now) = ap Some c.from-number.ensures ∙ sym c.in_ok-number_read.was ∙ c.number_read.ensures in
    λ n small. other_told c.args.id.now c.from-number.result n read small (sym c.is_numbered.ensures ∙ c.if-is_numbered.false)
