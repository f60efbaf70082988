use Rattle.std.proofs.Common.{Ok, Err, inl, inr}
use Rattle.clap.specs.Words.{app_of}
use Rattle.command_words.proofs.Parses.{parse_is}
use Rattle.command_words.proofs.Steps.{memory_apart, texts}
use Rattle.command_words.proofs.matches.parted.Goals as goal

pub returns-in_err-try_get_matches_from-clause-usage : goal.returns-in_err-try_get_matches_from-clause-usage
returns-in_err-try_get_matches_from-clause-usage c =
    let given = c.from_residual-in_err-try_get_matches_from.ensures in
    let comes = (parse_is (texts c.args.options.now) c.requires.apart c.args.name.now (texts c.args.words.now) c.requires.formed (app_of c.in_ok-command.command) c.in_ok-command.ensures
    (Err c.in_err-try_get_matches_from.field-0.0) c.in_err-try_get_matches_from.ensures.matches c.in_err-try_get_matches_from.ensures.kinds).1 in
    λ usage. elim comes [
      | inl memory ↦ absurd (memory_apart c.from_residual-in_err-try_get_matches_from.result _ _ given.1 memory usage)
      | inr none ↦ none
    ]

pub returns-clause-ok : goal.returns-clause-ok
returns-clause-ok c = (parse_is (texts c.args.options.now) c.requires.apart c.args.name.now (texts c.args.words.now) c.requires.formed (app_of c.in_ok-command.command) c.in_ok-command.ensures
    (Ok c.in_ok-try_get_matches_from.field-0) c.in_ok-try_get_matches_from.ensures.matches c.in_ok-try_get_matches_from.ensures.kinds).0
