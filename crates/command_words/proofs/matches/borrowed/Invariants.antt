use Rattle.std.proofs.Common.{◌≡◌, take}
use Rattle.command_words.proofs.Steps.{texts}
use Rattle.command_words.proofs.matches.borrowed.Given as goal

abbrev pub invariant-loop-word : goal.invariant-loop-word
invariant-loop-word l = texts l.texts.items ≡ take l.word-index l.words
