use Rattle.std.proofs.Common.{◌-◌, length}
use Rattle.thread_edges.proofs.event_gate.quiet_words.Given as goal

abbrev pub invariant-loop-words : goal.invariant-loop-words
invariant-loop-words l = Unit {0}

abbrev pub decreases-loop-words : goal.decreases-loop-words
decreases-loop-words l = 4096 - length l.words.items
