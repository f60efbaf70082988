use Rattle.std.proofs.Common.{sym, ap, ◌∙◌}
use Rattle.run_words.specs.Reading.{value_from}
use Rattle.run_words.proofs.Valued.{values_more}
use Rattle.run_words.proofs.command.values_of.Goals as goal

pub loop-word-preserved : goal.loop-word-preserved
loop-word-preserved c =
    values_more c.args.words.now c.loop-word.word-index c.word-item.result c.loop-word.values c.push_some.new.values _ c.loop-word-test.true (sym c.word-item.is)
    (c.value_from.ensures ∙ ap value_from c.as_str.ensures) c.loop-word.invariant c.in_ok-push_some.ensures.ok
