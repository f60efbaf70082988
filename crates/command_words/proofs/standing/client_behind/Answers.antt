use Rattle.std.proofs.Common.{ap, ◌∙◌}
use Rattle.command_words.specs.Simple.{values_of, word_id}
use Rattle.command_words.proofs.Addresses.{client_few}
use Rattle.command_words.proofs.Steps.{texts}
use Rattle.command_words.proofs.standing.client_behind.Goals as goal

pub returns-in_default-clause-usage : goal.returns-in_default-clause-usage
returns-in_default-clause-usage c = λ usage. client_few c.as_slice.result.now (values_of c.args.matches.now word_id) (values_of c.args.matches.now) (ap texts c.as_slice.ensures.value ∙ c.in_ok-words.ensures) c.in_default.len_below
