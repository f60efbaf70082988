use Rattle.journal_standby.proofs.Shorts.{short_list}
use Rattle.journal_standby.proofs.laws.short_lists_have_short_steps.Goals as goal

pub returns : goal.returns
returns c = short_list
