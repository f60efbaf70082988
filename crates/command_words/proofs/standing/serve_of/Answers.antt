use Rattle.std.proofs.Common.{rules, ◌∙◌}
use Rattle.std.proofs.lemmas.Result.{IfOk-weaker}
use Rattle.command_words.specs.Reading.{bytes_name, entries_name, hwm_name, key_name, misses_name, scheme_name}
use Rattle.command_words.proofs.Addresses.{serve_is, serve_none}
use Rattle.command_words.proofs.Steps.{texts}
use Rattle.command_words.proofs.standing.serve_of.Goals as goal

pub returns-in_err-matches-clause-usage : goal.returns-in_err-matches-clause-usage
unfolding key_name scheme_name hwm_name misses_name entries_name bytes_name
returns-in_err-matches-clause-usage c = λ usage. serve_none (texts c.as_slice.result.now) c.args.behind.now (search rules) (c.in_err-matches.ensures.usage (search rules))

pub returns-clause-ok : goal.returns-clause-ok
unfolding key_name scheme_name hwm_name misses_name entries_name bytes_name
returns-clause-ok c = IfOk-weaker c.serve_behind.result _ _
    (λ command h. serve_is (texts c.as_slice.result.now) c.args.behind.now c.in_ok-matches.matches (search rules) c.in_ok-matches.ensures.ok ∙ h) c.serve_behind.ensures.ok

pub returns-clause-usage : goal.returns-clause-usage
unfolding key_name scheme_name hwm_name misses_name entries_name bytes_name
returns-clause-usage c = λ usage. serve_is (texts c.as_slice.result.now) c.args.behind.now c.in_ok-matches.matches (search rules) c.in_ok-matches.ensures.ok ∙ c.serve_behind.ensures.usage usage
