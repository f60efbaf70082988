use Rattle.std.proofs.Common.{◌≡◌, map, take}
use Rattle.clap.specs.Words.{app_of}
use Rattle.command_words.specs.Simple.{option_rule, simple_with}
use Rattle.command_words.proofs.Steps.{texts}
use Rattle.command_words.proofs.matches.simple.Given as goal

-- the options so far
abbrev pub invariant-loop-long : goal.invariant-loop-long
invariant-loop-long l = app_of l.command ≡ simple_with l.name (map option_rule (texts (take l.long-index l.options)))
