use Rattle.std.proofs.Common.{refl}
use Rattle.run_words.proofs.Digits.{number_err}
use Rattle.run_words.proofs.numbers.parsed.Goals as goal

pub returns-in-Err : goal.returns-in-Err
returns-in-Err c = number_err _ c.args.text.now c.args.text.now c.in-Err.field-0 refl c.requires c.in-Err.ensures.value.0
