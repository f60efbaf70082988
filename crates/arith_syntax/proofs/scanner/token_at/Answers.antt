use Rattle.arith_syntax.specs.Tree.{is_word}
use Rattle.arith_syntax.proofs.Words.{run_words}
use Rattle.arith_syntax.proofs.scanner.token_at.Goals as goal

pub word-requires-clause-words : goal.word-requires-clause-words
word-requires-clause-words c = rw c.run_length-count.ensures (run_words is_word c.args.octets.now)
