use Rattle.std.proofs.Common.{◌≡◌, ◌++◌}
use Rattle.std.specs.Prelude.{map}
use Rattle.tape.specs.Spelling.{all_spelled}
use Rattle.tape_drive.specs.Sends.{out_sent, sent_at}
use Rattle.tape_drive.proofs.sends.put_each.Given as goal

-- what is written is what the outs so far come to
abbrev pub invariant-loop-out : goal.invariant-loop-out
invariant-loop-out l =
    l.into.items ≡ l.fn.into.items ++ all_spelled (map (sent_at l.moment) (map (out_sent l.key l.links) l.yielded))
