use Rattle.std.proofs.Common.{ap, ◌∙◌, arith}
use Rattle.command_words.specs.Simple.{values_of, word_id}
use Rattle.command_words.proofs.Steps.{not_two, texts}
use Rattle.command_words.proofs.command.work_behind.Goals as goal

pub returns-in-empty-clause-usage : goal.returns-in-empty-clause-usage
returns-in-empty-clause-usage c = λ usage. not_two c.as_slice.result.now (values_of c.args.matches.now word_id) (ap texts c.as_slice.ensures.value ∙ c.in_ok-words.ensures) (λ two. omega (arith, c.in-empty.len_below, two))

pub returns-clause-usage : goal.returns-clause-usage
returns-clause-usage c = λ usage. not_two c.as_slice.result.now (values_of c.args.matches.now word_id) (ap texts c.as_slice.ensures.value ∙ c.in_ok-words.ensures) (λ two. omega (arith, c.in-len3-up.len_at_least, two))
