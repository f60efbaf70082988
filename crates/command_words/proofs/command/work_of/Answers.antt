use Rattle.std.proofs.Common.{rules, ◌∙◌}
use Rattle.std.proofs.lemmas.Result.{IfOk-weaker}
use Rattle.command_words.proofs.Steps.{work_is, work_none, texts}
use Rattle.command_words.proofs.command.work_of.Goals as goal

pub returns-in_err-matches-clause-usage : goal.returns-in_err-matches-clause-usage
returns-in_err-matches-clause-usage c = λ usage. work_none (texts c.as_slice.result.now) c.args.behind.now (search rules) (c.in_err-matches.ensures.usage (search rules))

pub returns-clause-ok : goal.returns-clause-ok
returns-clause-ok c = IfOk-weaker c.work_behind.result _ _
    (λ command h. work_is (texts c.as_slice.result.now) c.args.behind.now c.in_ok-matches.matches (search rules) c.in_ok-matches.ensures.ok ∙ h) c.work_behind.ensures.ok

pub returns-clause-usage : goal.returns-clause-usage
returns-clause-usage c = λ usage. work_is (texts c.as_slice.result.now) c.args.behind.now c.in_ok-matches.matches (search rules) c.in_ok-matches.ensures.ok ∙ c.work_behind.ensures.usage usage
