use Rattle.clap.specs.Words.{app_of, rule_of}
use Rattle.command_words.proofs.Steps.{options_more}
use Rattle.command_words.proofs.matches.simple.Goals as goal

pub loop-long-preserved : goal.loop-long-preserved
loop-long-preserved c =
    options_more c.args.name.now c.args.options.now c.loop-long.long-index _ c.loop-long-test.true (app_of c.loop-long.command) (app_of c.in_ok-command.command) (rule_of c.with_value.result)
    c.loop-long.invariant (c.in_ok-command.ensures.shape c.with_value.ensures.local) c.with_value.ensures.rule
