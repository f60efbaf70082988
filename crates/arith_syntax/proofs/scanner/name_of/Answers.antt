use Rattle.std.proofs.lemmas.Str.{IsUtf8-from_ascii}
use Rattle.arith_syntax.proofs.Words.{words_ascii}
use Rattle.arith_syntax.proofs.scanner.name_of.Goals as goal

pub unreachable-requires : goal.unreachable-requires
unreachable-requires c = c.in-Err.ensures.cases.0 (IsUtf8-from_ascii c.args.run.now (words_ascii c.args.run.now c.requires))
