use Rattle.std.proofs.Common.{Err, refl, sym}
use Rattle.client_core.proofs.Digits.{none_read}
use Rattle.client_core.proofs.answers.number_in.Goals as goal

pub returns-in-Err : goal.returns-in-Err
returns-in-Err c = sym (none_read c.args.text.now (Err c.in-Err.field-0) c.in-Err.field-0 c.in-Err.ensures.value.0 refl)
