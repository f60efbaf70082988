use Rattle.std.proofs.Common.{length, arith, ◌≤◌}
use Rattle.record_codec.specs.Records.{spellings}
use Rattle.journal_standby.proofs.Shorts.{short_list}
use Rattle.quick_commands.proofs.following.list_in.Goals as goal

pub returns-in-Ok-clause-short : goal.returns-in-Ok-clause-short
returns-in-Ok-clause-short c =
    let size : length (spellings c.in-Ok.list) ≤ length c.args.octets.items = c.in-Ok.ensures.size in
    short_list c.in-Ok.list (omega (arith, size, c.if-len-gt-MOST_INPUT.false, c.len.ensures))
