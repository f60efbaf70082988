use Rattle.std.proofs.Common.{rules, ◌∙◌}
use Rattle.std.proofs.lemmas.Result.{IfOk-weaker}
use Rattle.command_words.proofs.Steps.{database_is, database_none, texts}
use Rattle.command_words.proofs.command.database_in.Goals as goal

pub returns-in_err-matches-clause-usage : goal.returns-in_err-matches-clause-usage
returns-in_err-matches-clause-usage c = λ usage. database_none (texts c.as_slice.result.now) c.args.behind.now (search rules) (c.in_err-matches.ensures.usage (search rules))

pub returns-clause-ok : goal.returns-clause-ok
returns-clause-ok c = IfOk-weaker c.only_word.result _ _
    (λ database h. database_is (texts c.as_slice.result.now) c.args.behind.now c.in_ok-matches.matches (search rules) c.in_ok-matches.ensures.ok ∙ h) c.only_word.ensures.ok

pub returns-clause-usage : goal.returns-clause-usage
returns-clause-usage c = λ usage. database_is (texts c.as_slice.result.now) c.args.behind.now c.in_ok-matches.matches (search rules) c.in_ok-matches.ensures.ok ∙ c.only_word.ensures.usage usage
