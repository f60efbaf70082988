use Rattle.std.proofs.Common.{rules, ◌∙◌}
use Rattle.std.proofs.lemmas.Result.{IfOk-weaker}
use Rattle.command_words.specs.Reading.{key_name}
use Rattle.command_words.proofs.Addresses.{client_is, client_none}
use Rattle.command_words.proofs.Steps.{texts}
use Rattle.command_words.proofs.standing.client_of.Goals as goal

pub returns-in_err-matches-clause-usage : goal.returns-in_err-matches-clause-usage
unfolding key_name
returns-in_err-matches-clause-usage c = λ usage. client_none (texts c.as_slice.result.now) c.args.behind.now (search rules) (c.in_err-matches.ensures.usage (search rules))

pub returns-clause-ok : goal.returns-clause-ok
unfolding key_name
returns-clause-ok c = IfOk-weaker c.client_behind.result _ _
    (λ command h. client_is (texts c.as_slice.result.now) c.args.behind.now c.in_ok-matches.matches (search rules) c.in_ok-matches.ensures.ok ∙ h) c.client_behind.ensures.ok

pub returns-clause-usage : goal.returns-clause-usage
unfolding key_name
returns-clause-usage c = λ usage. client_is (texts c.as_slice.result.now) c.args.behind.now c.in_ok-matches.matches (search rules) c.in_ok-matches.ensures.ok ∙ c.client_behind.ensures.usage usage
